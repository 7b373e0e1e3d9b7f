use Rattle.rup_model.proofs.Lines.{numbered_lines_lines}
use Rattle.rup_model.proofs.hint_laws.numbered_lines_are_the_lines.Goals as goal

pub returns : goal.returns
returns c = numbered_lines_lines
