-- What holds of a heap's tables.
use Rattle.std.specs.Prelude.{◌≡◌, ℕ, ◌<◌, ◌≤◌, ◌+◌, ◌^◌, ◌⊎◌, length}
use Rattle.std.specs.List.{slice_index}
use Rattle.ring_decide.specs.declared.heap.Heap.TheInside.{Inside}
use Rattle.ring_decide.specs.Tables.{AreUpTo}

-- the tables of a heap agree, which every call keeps
pub record IsHeap (h : Inside) : Type 0 where
  pub small : length h.listed.items ≤ 2 ^ 30
  pub places_len : length h.places.items ≡ length h.listed.items + 1
  pub listed : AreUpTo (length h.listed.items) h.listed.items
  pub count : h.count ≤ length h.listed.items
  -- a variable that has a place is listed there, and one that has none is nowhere
  pub there : (v : ℕ) → v < length h.places.items → slice_index h.places.items v < h.count → slice_index h.listed.items (slice_index h.places.items v) ≡ v
  pub nowhere : (v : ℕ) → v < length h.places.items → (slice_index h.places.items v < h.count) ⊎ (slice_index h.places.items v ≡ 4294967295)
