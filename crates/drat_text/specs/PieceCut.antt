-- What a sink has of a text whose piece was written only in part.
use Rattle.std.specs.Prelude.{◌≡◌, ℕ, ◌+◌, ◌-◌, ◌^◌, ◌<◌, List, length, min}
use Rattle.std.specs.declared.option.Option.{Option}
use Rattle.io_edge.specs.Bytes.{GrowsByPart}

-- the bytes grew by a part of the piece, and not by all of it; `taken` adds how many to those before the piece
pub record PieceWasCut (before : ℕ) (old new : Option (List ℕ)) (piece : List ℕ) (taken : ℕ) : Type 0 where
  pub part : GrowsByPart old new piece
  pub short : part.cut < length piece
  pub told : taken ≡ min (before + part.cut) (2 ^ 64 - 1)
