use Rattle.std.proofs.Common.{◌≡◌, drop, map}
use Rattle.rup_model.specs.Hints.{numbered}
use Rattle.rup_model.proofs.hints.named.Given as goal

abbrev pub invariant-loop-pair : goal.invariant-loop-pair
invariant-loop-pair g l =
    numbered (map (λ p. (p.0, g.C.Literals.lits p.1)) (drop l.pair-index l.clauses)) l.number ≡ numbered (map (λ p. (p.0, g.C.Literals.lits p.1)) l.clauses) l.number
