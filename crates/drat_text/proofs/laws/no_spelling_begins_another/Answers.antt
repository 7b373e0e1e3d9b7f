use Rattle.drat_text.proofs.Spellings.{no_front}
use Rattle.drat_text.proofs.laws.no_spelling_begins_another.Goals as goal

pub returns : goal.returns
returns c = no_front
