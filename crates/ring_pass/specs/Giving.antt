-- What giving a clause up leaves of the clause learned last.
use Rattle.std.specs.Prelude.{ℕ, ◌==◌, if◌then◌else◌, Option, Some, None}
use Rattle.sat_words.specs.declared.shared.Cref.{Cref}

-- the cell, unless it is at this address
abbrev pub unless_cell : Option Cref → ℕ → Option Cref
unless_cell None a = None
unless_cell (Some c) a = if c.address == a then None else Some c
