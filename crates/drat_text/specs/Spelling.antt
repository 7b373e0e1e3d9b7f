-- The bytes of a proof, in the format that is asked for.
use Rattle.std.specs.Prelude.{ℕ, List}
use Rattle.std.specs.List.{flat_map}
use Rattle.sat_words.specs.declared.line.ProofFormat.{ProofFormat}
use Rattle.sat_words.specs.declared.line.ProofFormat.TheVariants as format
use Rattle.rup_model.specs.NumberedLines.{NumberedLine, line_of}
use Rattle.drat_text.specs.Binary.{line_bytes}
use Rattle.drat_text.specs.Lrat.{lrat_text}
use Rattle.drat_text.specs.Text.{line_text}

-- how the line is spelled: DRAT has neither numbers nor hints
abbrev pub spelling : ProofFormat → NumberedLine → List ℕ
spelling format.Text x = line_text (line_of x)
spelling format.Binary x = line_bytes (line_of x)
spelling format.Lrat x = lrat_text x

-- the lines, one after another
abbrev pub proof_bytes : ProofFormat → List NumberedLine → List ℕ
proof_bytes f lines = flat_map (spelling f) lines
