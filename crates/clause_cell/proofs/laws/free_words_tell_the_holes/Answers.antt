use Rattle.clause_cell.proofs.Exact.{same_holes}
use Rattle.clause_cell.proofs.laws.free_words_tell_the_holes.Goals as goal

pub returns : goal.returns
returns c = λ hs ks a b same. same_holes 0 hs ks a b same
