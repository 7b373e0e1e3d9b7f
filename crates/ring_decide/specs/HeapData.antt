-- A heap of variables: how many variables there are, how many of them are in the heap, and the place of each.
use Rattle.std.specs.Prelude.{◌≡◌, ◌≢◌, ℕ, ◌<◌, ◌≤◌, ◌⊎◌, List}
use Rattle.std.specs.List.{slice_index}

-- what contracts see of a heap: how many variables there are, how many are in it, and the place of each variable
pub record HeapData : Type 0 where
  pub vars : ℕ
  pub count : ℕ
  pub places : List ℕ

-- the variable stands at a place of the heap
abbrev pub HasPlace : HeapData → ℕ → Type 0
HasPlace h v = slice_index h.places v < h.count

-- only this variable may stand at the place
abbrev pub IsAlone : HeapData → ℕ → ℕ → Type 0
IsAlone h p v = (w : ℕ) → w ≤ h.vars → slice_index h.places w ≡ p → w ≡ v

-- no variable stands at the place
abbrev pub IsFree : HeapData → ℕ → Type 0
IsFree h p = (w : ℕ) → w ≤ h.vars → slice_index h.places w ≡ p → ⊥

-- each other variable of the heap is in it still
abbrev pub KeepsOthers : HeapData → HeapData → ℕ → Type 0
KeepsOthers old new v = (w : ℕ) → w ≤ old.vars → w ≢ v → HasPlace old w → HasPlace new w

-- as many variables, and as many of them in the heap
pub record AreSizes (new old : HeapData) : Type 0 where
  pub vars : new.vars ≡ old.vars
  pub count : new.count ≡ old.count

-- the variable comes before the other: its score is greater, or it is the lesser one of the same score
abbrev pub Leads : List ℕ → ℕ → ℕ → Type 0
Leads scores v other =
    (slice_index scores other < slice_index scores v) ⊎ ((slice_index scores v ≡ slice_index scores other) × (v < other))
