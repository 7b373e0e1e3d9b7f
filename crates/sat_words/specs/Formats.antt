-- What the formats of proofs have.
use Rattle.std.specs.Prelude.{Bool, true, false}
use Rattle.sat_words.specs.declared.line.ProofFormat.{ProofFormat}
use Rattle.sat_words.specs.declared.line.ProofFormat.TheVariants.{Text, Binary, Lrat}

-- each addition has hints
abbrev pub has_hints : ProofFormat → Bool
has_hints Text = false
has_hints Binary = false
has_hints Lrat = true
