-- What the ruler does with what a round's table held: it deletes some clauses, and goes on with the others.
use Rattle.std.specs.Prelude.{◌≡◌, ◌⊎◌, ℕ, Bool, true, false, not, List, [], ◌∷◌, ◌++◌, map, filter, All, Result, Err, nat_lt}
use Rattle.sat_words.specs.Literal.{Literal}
use Rattle.sat_words.specs.Clause.{two_or_more}
use Rattle.rup_model.specs.declared.journal.Entry.{Entry}
use Rattle.rup_model.specs.Journal.{LogSound}
use Rattle.rup_model.specs.NumberedLines.{NumberedLine}
use Rattle.model_stack.specs.declared.stack.Fix.{Fix}
use Rattle.drat_text.specs.LineState.{LineState}
use Rattle.drat_text.specs.LineOut.{PutLine, WasPut, deleted_line}
use Rattle.drat_text.specs.declared.stop.LineStop.{LineStop}
use Rattle.drat_text.specs.declared.stop.LineStop.TheVariants.{Memory}
use Rattle.share_rule.specs.declared.rests.Rest.{Rest}
use Rattle.simp_base.specs.WorkState.{resumed, unit_cells}
use Rattle.simp_base.specs.Log.{HasLines}
use Rattle.simp_base.specs.Resumed.{Resumes}
use Rattle.simp_base.specs.Causes.{HasOutputCause}
use Rattle.ruler_simp.specs.declared.ruling.Outcome.{Outcome}
use Rattle.ruler_simp.specs.declared.rounds.Schedule.{Schedule}
use Rattle.ruler_simp.specs.Again.{RuledAgain}
use Rattle.portfolio_run.specs.Rulings.{deletions}

-- the clause is deleted: its glue is above 2
abbrev pub is_dropped : Rest → Bool
is_dropped r = nat_lt 2 r.glue

-- a clause under its number
abbrev pub cell_of : Rest → ℕ × List Literal
cell_of r = (r.number, r.clause)

-- the numbers of those that are deleted
abbrev pub dropped_of : List Rest → List ℕ
dropped_of rs = map (λ r. r.number) (filter is_dropped rs)

-- the others, each under its number
abbrev pub kept_of : List Rest → List (ℕ × List Literal)
kept_of rs = map cell_of (filter (λ r. not (is_dropped r)) rs)

-- the line that deletes the clause, after those of the output
abbrev pub deletion_of : LineState → Rest → NumberedLine
deletion_of out r = deleted_line out r.number r.clause

-- the output took the lines that delete these, one after another
abbrev pub TookLines : (old : LineState) → List Rest → (new : LineState) → Type 0
TookLines old [] new = new ≡ old
TookLines old (r ∷ rs) new = (middle : LineState) × PutLine old middle (deletion_of old r) × TookLines middle rs new

-- the output took the lines of the front of those that are to be deleted, and then memory ran out or it did not take the next
pub record TookFront (rs : List Rest) (old new : LineState) (stop : LineStop) : Type 0 where
  pub front : List Rest
  pub rest : List Rest
  pub front_of : filter is_dropped rs ≡ front ++ rest
  pub middle : LineState
  pub took : TookLines old front middle
  pub cause : ((stop ≡ Memory) × (new ≡ middle)) ⊎ ((r : Rest) × (others : List Rest) × (rest ≡ r ∷ others) × WasPut {T = Unit {0}} middle new (deletion_of middle r) (Err stop))

-- after this journal all of them and the clauses of the units are what a work can go on with, and each of them has two literals or
-- more
abbrev pub AreLeftAfter : List (List Literal) → ℕ → List Rest → List (Literal × ℕ) → List Fix → LineState → List Entry → Type 0
AreLeftAfter F vars rs us stack out J = Resumes F vars (map cell_of rs ++ unit_cells us) us stack out J × All (λ r. two_or_more r.clause ≡ true) rs

-- the output has the deletions after the lines of any journal after which these are left
abbrev pub HasDeletions : List (List Literal) → ℕ → List Rest → List (Literal × ℕ) → List Fix → (ns : List ℕ) → (old new : LineState) → Type 0
HasDeletions F vars rs us stack ns old new = (J : List Entry) → AreLeftAfter F vars rs us stack old J → HasLines (record { formula = F; journal = J; output = old }) (deletions ns) vars new

-- it was stopped as it deleted them, or memory ran out before the simplifiers could begin
pub record WasStopped (F : List (List Literal)) (vars : ℕ) (rs : List Rest) (us : List (Literal × ℕ)) (stack : List Fix) (old new : LineState) (result : Result Outcome LineStop) : Type 0 where
  pub stop : LineStop
  pub is : result ≡ Err stop
  pub cause : HasOutputCause old new stop
  pub front : List ℕ
  pub rest : List ℕ
  pub front_of : dropped_of rs ≡ front ++ rest
  pub lines : HasDeletions F vars rs us stack front old new
  pub sound : (J : List Entry) → AreLeftAfter F vars rs us stack old J → LogSound F (J ++ deletions front)

-- it deleted all of them, and then the simplifiers ran over the others and the clauses of the units
pub record HasWorked (F : List (List Literal)) (schedule : Schedule) (vars : ℕ) (rs : List Rest) (us : List (Literal × ℕ)) (stack : List Fix) (old new : LineState) (result : Result Outcome LineStop) : Type 0 where
  pub middle : LineState
  pub unspent : middle.spent ≡ false
  pub quiet : middle.faults ≡ old.faults
  pub lines : HasDeletions F vars rs us stack (dropped_of rs) old middle
  pub resumes : (J : List Entry) → AreLeftAfter F vars rs us stack old J → Resumes F vars (kept_of rs ++ unit_cells us) us stack middle (J ++ deletions (dropped_of rs))
  pub ruled : RuledAgain F schedule (resumed vars (kept_of rs ++ unit_cells us) us stack middle) new result

-- either
abbrev pub WentOn : List (List Literal) → Schedule → ℕ → List Rest → List (Literal × ℕ) → List Fix → LineState → LineState → Result Outcome LineStop → Type 0
WentOn F schedule vars rs us stack old new result = WasStopped F vars rs us stack old new result ⊎ HasWorked F schedule vars rs us stack old new result
