-- The search as the program keeps it.
use Rattle.std.specs.Prelude.{◌≡◌, ℕ, ◌<◌, List, [], reverse}
use Rattle.simp_equiv.specs.Searches.{mark_in, work_left, IsSearch}
use Rattle.simp_equiv.specs.declared.components.Mark.{Mark}
use Rattle.simp_equiv.specs.declared.components.Mark.TheVariants.{New, Open, Closed}
use Rattle.simp_equiv.specs.declared.components.StackFrame.{StackFrame}
use Rattle.simp_equiv.specs.declared.components.Search.{Search}

-- the search with these frames, the deepest first
abbrev pub IsSearching : List (List ℕ) → Search → List StackFrame → Type 0
IsSearching G s fs = IsSearch G s.marks.items s.stack.items fs s.closed

-- the frames of the search, the deepest first
abbrev pub frames_of : Search → List StackFrame
frames_of s = reverse s.frames.items

-- no node is new again
abbrev pub Onward : List Mark → List Mark → Type 0
Onward before after = (v : ℕ) → mark_in after v ≡ New → mark_in before v ≡ New

-- one step was made
pub record IsStep (G : List (List ℕ)) (old new : Search) (fs : List StackFrame) : Type 0 where
  pub searching : IsSearching G new (frames_of new)
  pub falls : work_left G new.marks.items (frames_of new) < work_left G old.marks.items fs
  pub onward : Onward old.marks.items new.marks.items

-- the whole search below the frames was made
pub record IsExplored (G : List (List ℕ)) (old new : Search) : Type 0 where
  pub searching : IsSearching G new []
  pub empty : new.frames.items ≡ []
  pub onward : Onward old.marks.items new.marks.items

-- the number of a node's component
abbrev pub number_of : Mark → ℕ
number_of New = 0
number_of (Open p) = 0
number_of (Closed c) = c
