-- What is known of the bytes of a stream of std.
use Rattle.std.proofs.Common.{◌∙◌, ℕ, List, take, Some, None}
use Rattle.std.specs.Prelude.{Option}
use Rattle.std.proofs.lemmas.List.{append-nil}
use Rattle.std.specs.Io.KnownBytes.{Appends, Keeps}

-- a write that took no byte left the bytes as they were
pub nothing_taken : (old new : Option (List ℕ)) (piece : List ℕ) → Appends old new (take 0 piece) → Keeps old new
nothing_taken None new piece appended = tt
nothing_taken (Some xs) None piece appended = absurd appended
nothing_taken (Some xs) (Some ys) piece appended = appended ∙ append-nil xs
