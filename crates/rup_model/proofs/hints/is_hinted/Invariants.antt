use Rattle.std.proofs.Common.{◌≡◌, drop, take, map}
use Rattle.sat_words.specs.Literal.{opposite}
use Rattle.sat_words.specs.Clause.{has}
use Rattle.rup_model.specs.Hints.{numbered, hinted_from}
use Rattle.rup_model.proofs.hints.is_hinted.Given as goal

abbrev pub invariant-loop-lit : goal.invariant-loop-lit
invariant-loop-lit g l = l.trues.items ≡ map opposite (take l.lit-index l.lits)

abbrev pub invariant-loop-i : goal.invariant-loop-i
invariant-loop-i g l = hinted_from (numbered (map (λ p. (p.0, g.C.Literals.lits p.1)) l.clauses)) (has l.trues.items) (drop l.i l.hints) ≡ hinted_from (numbered (map (λ p. (p.0, g.C.Literals.lits p.1)) l.clauses)) (has (map opposite l.lits)) l.hints
