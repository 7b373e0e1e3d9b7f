-- What comes out of a slot.
use Rattle.std.specs.Prelude.{◌≡◌, ◌≢◌, ℕ, Option, Some, None}
use Rattle.sat_words.specs.declared.shared.Cref.{Cref}

-- none exactly if the word was 0, else the cell at that address
abbrev pub IsFound : ℕ → Option Cref → Type 0
IsFound found None = found ≡ 0
IsFound found (Some c) = (found ≢ 0) × (c.address ≡ found)
