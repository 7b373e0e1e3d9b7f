use Rattle.std.proofs.Common.{◌≤◌, length, Bool}
use Rattle.sat_words.specs.Literal.{Literal}
use Rattle.simp_base.specs.Hinting.{IsFalsified}
use Rattle.simp_base.specs.Collecting.{IsBasis, IsNoted, IsCollected}
use Rattle.simp_base.proofs.hints.collection.Collection.walk.Given as goal

abbrev pub decreases-loop-place : goal.decreases-loop-place
decreases-loop-place l = l.place

abbrev pub invariant-loop-place : goal.invariant-loop-place
invariant-loop-place l = record {
  within : l.place ≤ length l.trail.steps;
  collected : (start : Literal → Bool) → IsBasis l.clauses.clauses start l.trail.steps
      → IsNoted l.clauses.clauses start l.trail.steps (length l.trail.steps) l.fn.self.marks.items l.fn.self.units.items l.fn.self.hints.items
      → IsFalsified l.clauses.clauses l.trail.steps l.fn.last
      → IsCollected l.clauses.clauses start l.trail.steps l.place l.self.marks.items l.self.units.items l.self.hints.items l.self.reasons.items;
}
