-- What a sink has of a text that was written to it only in part.
use Rattle.std.specs.Prelude.{◌≡◌, ℕ, ◌-◌, ◌^◌, ◌<◌, List, length, min}
use Rattle.std.specs.declared.option.Option.{Option}
use Rattle.io_edge.specs.Bytes.{GrowsByPart}

-- the bytes grew by a part of the text, and not by all of it; `taken` is how many, and stands still at 2^64 - 1
pub record WasCut (old new : Option (List ℕ)) (text : List ℕ) (taken : ℕ) : Type 0 where
  pub part : GrowsByPart old new text
  pub short : part.cut < length text
  pub told : taken ≡ min part.cut (2 ^ 64 - 1)
