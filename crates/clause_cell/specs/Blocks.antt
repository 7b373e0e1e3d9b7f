-- Holes in blocks: lists of holes, one after another.
use Rattle.std.specs.Prelude.{◌≡◌, ℕ, zero, suc, ◌+◌, ◌/◌, ◌<◌, ◌≤◌, true, max, List, [], ◌∷◌, ◌++◌, length, take, drop, slice_index_or}
use Rattle.clause_cell.specs.declared.holes.Hole.{Hole}
use Rattle.clause_cell.specs.Free.{is_apart, largest}

-- the holes of the blocks, in order
abbrev pub holes_of : List (List Hole) → List Hole
holes_of [] = []
holes_of (b ∷ bs) = b ++ holes_of bs

-- the block at an index, no holes if there is none
abbrev pub block_at : List (List Hole) → ℕ → List Hole
block_at bs i = slice_index_or bs i []

-- the end of the last hole, 0 if there is none
abbrev pub end_of : List Hole → ℕ
end_of [] = 0
end_of (h ∷ hs) = max (h.first + h.len) (end_of hs)

-- what a block keeps: its holes are apart and at most 256, and the number is the length of the longest
pub record IsBlock (hs : List Hole) (longest : ℕ) : Type 0 where
  pub apart : is_apart 0 hs ≡ true
  pub few : length hs ≤ 256
  pub exact : longest ≡ largest hs

-- each block has a hole
abbrev pub NoneEmpty : List (List Hole) → Type 0
NoneEmpty bs = (k : ℕ) → k < length bs → 0 < length (block_at bs k)

-- the holes of the blocks are apart, also across two blocks, and each block has a hole
pub record AreBlocks (bs : List (List Hole)) : Type 0 where
  pub apart : is_apart 0 (holes_of bs) ≡ true
  pub filled : NoneEmpty bs

-- the block for words from a on: each block before it ends before them and does not touch them, and it does not if
-- another follows
pub record IsHome (a : ℕ) (bs : List (List Hole)) (i : ℕ) : Type 0 where
  pub inside : i < length bs
  pub before : (k : ℕ) → k < i → end_of (block_at bs k) < a
  pub beyond : i + 1 < length bs → a ≤ end_of (block_at bs i)

-- the blocks after the block at an index was split in half
abbrev pub halved : List (List Hole) → ℕ → List (List Hole)
halved [] i = []
halved (b ∷ bs) zero = take (length b / 2) b ∷ drop (length b / 2) b ∷ bs
halved (b ∷ bs) (suc i) = b ∷ halved bs i
