-- Directed graphs and their strongly connected components.
use Rattle.std.specs.Prelude.{◌≡◌, ℕ, ◌<◌, ◌↔◌, List, [], ◌∷◌, length}
use Rattle.std.specs.List.{slice_index, slice_index_or, Contains}

-- along edges from k through these nodes to l
abbrev pub Walk : {N : Type 0} → (N → N → Type 0) → N → List N → N → Type 0
Walk E k [] l = k ≡ l
Walk E k (j ∷ js) l = E k j × Walk E j js l

-- there is a way from k to l
pub record Reaches {N : Type 0} (E : N → N → Type 0) (k l : N) : Type 0 where
  pub through : List N
  pub walk : Walk E k through l

-- each reaches the other: they are in one strongly connected component
pub record Connected {N : Type 0} (E : N → N → Type 0) (k l : N) : Type 0 where
  pub there : Reaches E k l
  pub back : Reaches E l k

-- Graphs as lists: at each node's place the nodes that its edges lead to

-- the targets of a node
abbrev pub targets : List (List ℕ) → ℕ → List ℕ
targets G k = slice_index_or G k []

-- an edge
abbrev pub Edge : List (List ℕ) → ℕ → ℕ → Type 0
Edge G k l = Contains (targets G k) l

-- each edge leads to a node
abbrev pub InRange : List (List ℕ) → Type 0
InRange G = (k l : ℕ) → Edge G k l → l < length G

-- a number for each node, the same exactly for connected nodes
pub record AreComponents (G : List (List ℕ)) (numbers : List ℕ) : Type 0 where
  pub each : length numbers ≡ length G
  pub few : (k : ℕ) → k < length G → slice_index numbers k < length G
  pub connected : (k l : ℕ) → k < length G → l < length G → (slice_index numbers k ≡ slice_index numbers l) ↔ Connected (Edge G) k l
