use Rattle.rup_model.specs.Log.{alive}
use Rattle.rup_model.specs.Journal.{book, lines}
use Rattle.rup_model.proofs.Lists.{In_Contains}
use Rattle.rup_model.proofs.Numbers.{journal_matches, rup_alive_sets}
use Rattle.rup_model.proofs.journal_laws.holds_over_what_is_alive.Goals as goal

pub returns : goal.returns
returns c = λ F J K d h among. rup_alive_sets (book F J) (alive F (lines F J)) K d (journal_matches F J h) (λ e i. among e (In_Contains K e i))
