-- Words that are taken from those that are free.
use Rattle.std.specs.Prelude.{◌≡◌, ℕ, ◌+◌, ◌<◌, ◌≤◌, true, false, List}
use Rattle.clause_cell.specs.declared.holes.Hole.{Hole}
use Rattle.clause_cell.specs.Free.{is_free}

-- this many words from a on were free and are so no longer, and others that are free were free
pub record IsTaken (hs ks : List Hole) (a need : ℕ) : Type 0 where
  pub were_free : (w : ℕ) → a ≤ w → w < a + need → is_free hs w ≡ true
  pub taken : (w : ℕ) → a ≤ w → w < a + need → is_free ks w ≡ false
  pub others : (w : ℕ) → is_free ks w ≡ true → is_free hs w ≡ true
