use Rattle.simp_equiv.specs.Searches.{work_left}
use Rattle.simp_equiv.specs.States.{IsSearching, frames_of, Onward}
use Rattle.simp_equiv.proofs.components.explore.Given as goal

abbrev pub invariant-loop-frame : goal.invariant-loop-frame
invariant-loop-frame l = record {
  searching : IsSearching l.graph l.search (frames_of l.search);
  onward : Onward l.initial.search.marks.items l.search.marks.items;
}

abbrev pub decreases-loop-frame : goal.decreases-loop-frame
decreases-loop-frame l = work_left l.graph l.search.marks.items (frames_of l.search)
