use Rattle.std.proofs.Common.{get_or, IsSome, sym, subst}
use Rattle.sat_words.specs.declared.shared.Cref.{Cref}
use Rattle.ring_port.specs.PortState.{PortState, held_at}
use Rattle.test_ring.proofs.reusing.read_copies.Goals as goal

abbrev no_cref : Cref
no_cref = record { address = 0 }

pub read_copy-glue-requires : goal.read_copy-glue-requires
read_copy-glue-requires g c = subst (λ (s : PortState). IsSome (held_at s (get_or c.args.copies.now c.loop-c.c-index no_cref).address)) (sym c.loop-c.invariant) (c.requires c.loop-c.c-index no_cref c.loop-c-test.true)
