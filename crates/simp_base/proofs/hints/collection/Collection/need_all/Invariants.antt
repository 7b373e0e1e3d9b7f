use Rattle.std.proofs.Common.{◌≡◌, true, take, Bool}
use Rattle.sat_words.specs.Literal.{Literal}
use Rattle.simp_base.specs.Collecting.{marked, IsBasis, IsNoted, IsReason, AreMet}
use Rattle.simp_base.proofs.hints.collection.Collection.need_all.Given as goal

abbrev pub invariant-loop-lit : goal.invariant-loop-lit
invariant-loop-lit l = record {
  met : (start : Literal → Bool) → IsBasis l.clauses.clauses start l.trail.steps
      → IsNoted l.clauses.clauses start l.trail.steps l.place l.fn.self.marks.items l.fn.self.units.items l.fn.self.hints.items
      → IsReason l.clauses.clauses l.trail.steps l.place l.lits
      → AreMet l.clauses.clauses start l.trail.steps l.place l.self.marks.items l.self.units.items l.self.hints.items (take l.lit-index l.lits);
  kept : (k : Literal) → marked l.fn.self.marks.items k ≡ true → marked l.self.marks.items k ≡ true;
  reasons : l.self.reasons ≡ l.fn.self.reasons;
}
