use Rattle.drat_text.proofs.Spellings.{same_lines}
use Rattle.drat_text.proofs.laws.bytes_determine_lines.Goals as goal

pub returns : goal.returns
returns c = same_lines
