use Rattle.std.proofs.Common.{◌<◌, IsSome, length, sym, subst, arith}
use Rattle.ring_port.specs.PortState.{PortState, held_at, lits_at}
use Rattle.test_ring.proofs.reusing.read_copy.Goals as goal

pub read_lit-lit-requires-clause-held : goal.read_lit-lit-requires-clause-held
read_lit-lit-requires-clause-held g c = subst (λ (s : PortState). IsSome (held_at s c.args.c.address)) (sym c.loop-i.invariant) c.requires

pub read_lit-lit-requires-clause-inside : goal.read_lit-lit-requires-clause-inside
read_lit-lit-requires-clause-inside g c =
    let size = c.head-head.ensures.size in
    let lt = c.loop-i-test.true in
    subst (λ (s : PortState). c.loop-i.i < length (lits_at s c.args.c.address)) (sym c.loop-i.invariant) (omega arith)
