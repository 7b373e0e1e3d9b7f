use Rattle.rup_model.proofs.Numbers.{journal_matches}
use Rattle.rup_model.proofs.journal_laws.numbers_are_copies.Goals as goal

pub returns : goal.returns
returns c = λ F J h d. (journal_matches F J h).same_copies d
