-- Journals of a run in which the rings together learned all lemmas that they may, in rounds.
use Rattle.std.specs.Prelude.{◌≡◌, ℕ, true, false, List, [], is_some, Option}
use Rattle.std.specs.List.{list_any, All}
use Rattle.sat_words.specs.Literal.{Literal}
use Rattle.sat_words.specs.Clause.{is_empty}
use Rattle.rup_model.specs.declared.journal.Entry.{Entry}
use Rattle.rup_model.specs.Basics.{EachAfter}
use Rattle.rup_model.specs.Journal.{Fits, added}
use Rattle.rup_model.specs.Windows.{since_round, to_round, last_round, IsNewInRound, IsSpacedInRound}
use Rattle.core_rounds.specs.InRounds.{learned_by, round_limit, IsOfRounds, IsDueInRounds}

-- each entry is the ruler's, begins a round, as some entry does, or is of one of the rings, which together learned exactly so many
-- clauses, each new in its round, and in the last round all that they might in it; each ring learned enough in its round each time
-- before it reduced; the empty clause was not added; and a round began after another only once the rings had learned all that they
-- might in that one, and fewer than all
pub record LearnedAll (clauses : List (List Literal)) (journal : List Entry) (rings : ℕ) (every : Option ℕ) (most : ℕ) : Type 0 where
  pub fits : Fits clauses journal
  pub of_rounds : All (IsOfRounds rings) journal
  pub begun : is_some (last_round journal) ≡ true
  pub learns : learned_by rings journal ≡ most
  pub spent : learned_by rings (since_round journal) ≡ round_limit every most (learned_by rings (to_round journal))
  pub each_new : EachAfter (IsNewInRound clauses) [] journal
  pub spaced : EachAfter IsSpacedInRound [] journal
  pub going : list_any is_empty (added journal) ≡ false
  pub due : EachAfter (IsDueInRounds rings every most) [] journal
