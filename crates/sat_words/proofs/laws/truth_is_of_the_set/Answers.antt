use Rattle.sat_words.proofs.Members.{clause_true_alike}
use Rattle.sat_words.proofs.laws.truth_is_of_the_set.Goals as goal

pub returns : goal.returns
returns c = clause_true_alike
