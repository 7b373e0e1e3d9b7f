use Rattle.sat_words.proofs.Members.{equal_lists}
use Rattle.sat_words.proofs.laws.equal_lists_are_one.Goals as goal

pub returns : goal.returns
returns c = equal_lists
