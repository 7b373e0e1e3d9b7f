-- The state of Tarjan's depth-first search.
use Rattle.std.specs.Prelude.{◌≡◌, ◌≢◌, ℕ, ◌+◌, ◌-◌, ◌*◌, ◌<◌, ◌≤◌, Bool, true, false, List, [], ◌∷◌, length}
use Rattle.std.specs.List.{slice_index, slice_index_or, count_by, sum_by}
use Rattle.simp_equiv.specs.Graphs.{targets, Edge, Reaches}
use Rattle.simp_equiv.specs.declared.components.Mark.{Mark}
use Rattle.simp_equiv.specs.declared.components.Mark.TheVariants.{New, Open, Closed}
use Rattle.simp_equiv.specs.declared.components.StackFrame.{StackFrame}

-- the node is closed, or it stands on the stack at this place or above
pub data Settled (m : ℕ → Mark) (low y : ℕ) : Type 0 where
  is_closed : (c : ℕ) → m y ≡ Closed c → Settled m low y
  is_open : (q : ℕ) → m y ≡ Open q → low ≤ q → Settled m low y

-- the frame is in charge of the places from its own up to the next frame's: all nodes there but its own are done, and
-- from each some lower place is reached; no edge taken there leads to a place below the frame's low one, which its node reaches
pub record InCharge (G : List (List ℕ)) (m : ℕ → Mark) (at : ℕ → ℕ) (f : StackFrame) (top : ℕ) : Type 0 where
  pub here : at f.place ≡ f.node
  pub within : f.place < top
  pub low_place : f.low ≤ f.place
  pub low_reached : Reaches (Edge G) f.node (at f.low)
  pub taken : (i y : ℕ) → i < f.next → i < length (targets G f.node) → slice_index_or (targets G f.node) i y ≡ y → Settled m f.low y
  pub done : (p : ℕ) → f.place < p → p < top → (y : ℕ) → Edge G (at p) y → Settled m f.low y
  pub lower : (p : ℕ) → f.place < p → p < top → (q : ℕ) × (q < p) × Reaches (Edge G) (at p) (at q)

-- the frames, the deepest first, share the stack among them
abbrev pub Governed : List (List ℕ) → (ℕ → Mark) → (ℕ → ℕ) → List StackFrame → ℕ → Type 0
Governed G m at [] top = top ≡ 0
Governed G m at (f ∷ fs) top = InCharge G m at f top × Governed G m at fs f.place

-- the search in the midst: m the marks, at the stack, top its height, fs the frames, closed the number of components closed
pub record Searching (G : List (List ℕ)) (m : ℕ → Mark) (at : ℕ → ℕ) (top : ℕ) (fs : List StackFrame) (closed : ℕ) : Type 0 where
  pub placed : (v q : ℕ) → m v ≡ Open q → (q < top) × (at q ≡ v)
  pub marked : (q : ℕ) → q < top → m (at q) ≡ Open q
  pub upwards : (p q : ℕ) → p ≤ q → q < top → Reaches (Edge G) (at p) (at q)
  pub governed : Governed G m at fs top
  pub numbered : (v c : ℕ) → m v ≡ Closed c → c < closed
  pub downwards : (v c : ℕ) → m v ≡ Closed c → (y : ℕ) → Edge G v y → (d : ℕ) × (m y ≡ Closed d) × (d ≤ c)
  pub together : (v w c : ℕ) → m v ≡ Closed c → m w ≡ Closed c → Reaches (Edge G) v w

-- the mark of a literal's code
abbrev pub mark_in : List Mark → ℕ → Mark
mark_in marks v = slice_index_or marks v New

-- the entry of a stack at a place
abbrev pub stack_in : List ℕ → ℕ → ℕ
stack_in stack p = slice_index stack p

-- the frame of a node that was just put on the stack
abbrev pub first_frame : ℕ → ℕ → StackFrame
first_frame v top = record { node = v; place = top; next = 0; low = top }

-- the nodes of the stack from a place on are closed, and no other mark changed
pub record ClosedTo (stack : List ℕ) (before after : List Mark) (closed place : ℕ) : Type 0 where
  pub sized : length after ≡ length before
  pub from_place : (p : ℕ) → place ≤ p → p < length stack → mark_in after (stack_in stack p) ≡ Closed closed
  pub others : (v : ℕ) → ((p : ℕ) → place ≤ p → p < length stack → stack_in stack p ≢ v) → mark_in after v ≡ mark_in before v

-- the literal was not visited
abbrev pub is_new : Mark → Bool
is_new New = true
is_new (Open p) = false
is_new (Closed c) = false

-- the edges that are left to the frame, and one for itself
abbrev pub left_of : List (List ℕ) → StackFrame → ℕ
left_of G f = (length (targets G f.node) - f.next) + 1

-- more than any frame begins with
abbrev pub most_left : List (List ℕ) → ℕ
most_left G = sum_by length G + 2

-- falls with each step
abbrev pub work_left : List (List ℕ) → List Mark → List StackFrame → ℕ
work_left G marks fs = count_by is_new marks * most_left G + sum_by (left_of G) fs

-- the state of the search over its vectors, the frames with the deepest first
pub record IsSearch (G : List (List ℕ)) (marks : List Mark) (stack : List ℕ) (fs : List StackFrame) (closed : ℕ) : Type 0 where
  pub sized : length marks ≡ length G
  pub room : closed + length stack + count_by is_new marks ≤ length G
  pub searching : Searching G (mark_in marks) (stack_in stack) (length stack) fs closed
