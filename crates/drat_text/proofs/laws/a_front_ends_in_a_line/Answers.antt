use Rattle.drat_text.proofs.Fronts.{cut_text}
use Rattle.drat_text.proofs.laws.a_front_ends_in_a_line.Goals as goal

pub returns : goal.returns
returns c = cut_text
