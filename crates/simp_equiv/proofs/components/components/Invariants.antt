use Rattle.std.proofs.Common.{◌≡◌, ℕ, ◌<◌, []}
use Rattle.simp_equiv.specs.Searches.{mark_in}
use Rattle.simp_equiv.specs.States.{IsSearching}
use Rattle.simp_equiv.specs.declared.components.Mark.TheVariants.{New}
use Rattle.simp_equiv.proofs.components.components.Given as goal

abbrev pub invariant-loop-root : goal.invariant-loop-root
invariant-loop-root l = record {
  searching : IsSearching l.graph l.search [];
  empty : l.search.frames.items ≡ [];
  met : (v : ℕ) → v < l.root → mark_in l.search.marks.items v ≡ New → ⊥;
}
