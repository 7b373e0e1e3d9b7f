use Rattle.std.proofs.Common.{◌≡◌, map, take}
use Rattle.sat_words.specs.Clause.{clause_of}
use Rattle.sat_words.specs.declared.shared.Cref.{Cref}
use Rattle.ring_port.specs.PortState.{lits_at}
use Rattle.ring_run.proofs.walking.clauses_of.Given as goal

abbrev pub invariant-loop-clause : goal.invariant-loop-clause
invariant-loop-clause g l = record {
  same : g.P.Port.state l.port ≡ g.P.Port.state l.fn.port;
  all : l.all.items ≡ map (λ (c : Cref). clause_of (lits_at (g.P.Port.state l.fn.port) c.address)) (take l.clause-index l.clauses);
}
