-- Bytes that end somewhere in those of a proof.
use Rattle.std.specs.Prelude.{◌≡◌, ℕ, List, ◌∷◌, ◌++◌, take}
use Rattle.rup_model.specs.NumberedLines.{NumberedLine}
use Rattle.sat_words.specs.declared.line.ProofFormat.{ProofFormat}
use Rattle.drat_text.specs.Spelling.{spelling, proof_bytes}

-- the bytes of some first lines, and a front of the next line's
pub record IsCutText (format : ProofFormat) (lines : List NumberedLine) (bytes : List ℕ) : Type 0 where
  pub first : List NumberedLine
  pub line : NumberedLine
  pub others : List NumberedLine
  pub cut : ℕ
  pub split : lines ≡ first ++ line ∷ others
  pub ends : bytes ≡ proof_bytes format first ++ take cut (spelling format line)
