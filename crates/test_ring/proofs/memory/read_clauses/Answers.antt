use Rattle.std.proofs.Common.{get_or, IsSome, sym, subst}
use Rattle.sat_words.specs.declared.shared.Cref.{Cref}
use Rattle.ring_port.specs.PortState.{PortState, held_at}
use Rattle.test_ring.proofs.memory.read_clauses.Goals as goal

abbrev no_cref : Cref
no_cref = record { address = 0 }

pub read_clause-requires : goal.read_clause-requires
read_clause-requires g c = subst (λ (s : PortState). IsSome (held_at s (get_or c.args.clauses.now c.loop-clause.clause-index no_cref).address)) (sym c.loop-clause.invariant) (c.requires c.loop-clause.clause-index no_cref c.loop-clause-test.true)
