-- The rings rest before a round, the first or a later one: what is known then.
use Rattle.std.specs.Prelude.{◌≡◌, ◌<◌, ◌≤◌, ◌+◌, ◌*◌, ◌^◌, ℕ, true, false, List, [], ◌++◌, map, length, All, Ok}
use Rattle.std.specs.List.{list_any}
use Rattle.sat_words.specs.Literal.{Literal, IsOn}
use Rattle.sat_words.specs.Clause.{has, is_empty}
use Rattle.sat_words.specs.Formats.{has_hints}
use Rattle.sat_words.specs.FormulaData.{FormulaData}
use Rattle.rup_model.specs.declared.journal.Entry.{Entry}
use Rattle.rup_model.specs.Basics.{EachAfter}
use Rattle.rup_model.specs.Journal.{book, added, LogSound}
use Rattle.rup_model.specs.NumberedLines.{AreHinted}
use Rattle.rup_model.specs.Opening.{OpensAfter, is_rulers, program_opening, ruler_part}
use Rattle.rup_model.specs.Windows.{IsNewInRound, IsSpacedInRound}
use Rattle.model_stack.specs.Extend.{Lifts}
use Rattle.drat_text.specs.LineState.{LineState}
use Rattle.log_book.specs.Books.{begun, IsFilled}
use Rattle.simp_base.specs.WorkState.{WorkState, unit_lits, begun as begun_work}
use Rattle.simp_base.specs.declared.work.Run.TheVariants.{Done}
use Rattle.ruler_simp.specs.declared.ruling.Simplified.{Simplified}
use Rattle.ruler_simp.specs.declared.rounds.Schedule.{Schedule}
use Rattle.ruler_simp.specs.Again.{before_round}
use Rattle.ruler_simp.specs.Left.{start_of, left_clauses}
use Rattle.ruler_simp.specs.Rounds.{SimplifiedTo}
use Rattle.ruler_simp.specs.Ruled.{AreOn, HaveUnitNumbers}
use Rattle.core_rounds.specs.Rounds.{RoundRun, IsDue, AreRounds}
use Rattle.core_rounds.specs.InRounds.{learned_by, IsOfRounds}
use Rattle.ring_run.specs.declared.job.Counts.{Counts}
use Rattle.portfolio_run.specs.declared.plan.Plan.{Plan}
use Rattle.portfolio_run.specs.Held.{AreTallied, total}
use Rattle.portfolio_run.specs.Journaled.{IsPlainEntry, BeginsWell}
use Rattle.portfolio_run.specs.Ruled.{schedule_of}
use Rattle.portfolio_run.specs.Rulings.{Ruling, HaveGoneOn, work_after}

-- The journal

-- what stands of a journal in rounds, entry by entry: its clauses are on the variables; each entry is the ruler's, begins a round as
-- the program's opening says, or is a ring's; what is learned is new in its round, and reductions are spaced there
pub record StandsInRounds (vars rings : ℕ) (F : List (List Literal)) (J : List Entry) : Type 0 where
  pub on : All (All (IsOn vars)) (added J)
  pub of_rounds : All (IsOfRounds rings) J
  pub plain : All IsPlainEntry J
  pub begins : EachAfter (BeginsWell F) [] J
  pub each_new : EachAfter (IsNewInRound F) [] J
  pub spaced : EachAfter IsSpacedInRound [] J

-- the simplifiers ran over the formula in the rounds of this schedule, to their end, and wrote the front of the journal
pub record HasBegun (F : FormulaData) (schedule : Schedule) (J : List Entry) : Type 0 where
  pub output : LineState
  pub unspent : output.spent ≡ false
  pub none : output.entries ≡ 0
  pub last : output.last ≡ length F.clauses
  pub work : WorkState
  pub ran : SimplifiedTo schedule (begun_work F output) work (Ok Done) (ruler_part J)

-- What is left

-- neither the formula nor the journal has the empty clause; after this journal the start clauses, in their order, and the units
-- are those of the program's opening, each unit with the number of its clause, and once an entry begins the next round the rings
-- can start from them; each model of them, mended by the stack, is a model of the formula; all are on the variables that are left
pub record IsLeft (F : FormulaData) (J : List Entry) (left : Simplified) : Type 0 where
  pub whole : list_any is_empty F.clauses ≡ false
  pub going : list_any is_empty (added J) ≡ false
  pub opens : OpensAfter F.clauses (record { journal = before_round J left; starts = map start_of left.start.items; units = unit_lits left.units.items })
  pub starts : map start_of left.start.items ≡ (program_opening F.clauses J).starts
  pub units : (l : Literal) → has (unit_lits left.units.items) l ≡ has (program_opening F.clauses J).units l
  pub numbered : HaveUnitNumbers (book F.clauses J) left.units.items
  pub lifts : Lifts F.clauses (left_clauses left) left.stack
  pub on : AreOn left.vars left

-- Counts

-- what a ring counted is little, if the rings together learned so many lemmas: a sum of it is no greater than a word holds
pub record IsSmall (rings done : ℕ) (counts : Counts) : Type 0 where
  pub learned : counts.learned ≤ done
  pub exported : counts.exported ≤ done
  pub offered : counts.offered ≤ rings * done
  pub restarts : counts.restarts ≤ done

-- they can be added to what it counted before
pub record CanAdd (counts before : Counts) : Type 0 where
  pub learned : counts.learned + before.learned < 2 ^ 64
  pub exported : counts.exported + before.exported < 2 ^ 64
  pub offered : counts.offered + before.offered < 2 ^ 64
  pub restarts : counts.restarts + before.restarts < 2 ^ 64

-- Where the rings rest

-- how a formula is decided; what the ruler left of it; what each ring counted so far, and how many lemmas they learned together; and
-- what the output of the lines told before the first of them and tells now
pub record Pause : Type 0 where
  pub plan : Plan
  pub formula : FormulaData
  pub left : Simplified
  pub tally : List Counts
  pub done : ℕ
  pub before : LineState
  pub now : LineState

-- the rings rest: rounds left a journal, and one more is due; the ruler went on with it and came to its end, and what is left has the
-- variables and the stack of its last work; its output has the lines; each ring counted what it did; if the proof has hints, those of
-- each addition show that it follows
pub record IsPaused (p : Pause) : Type 0 where
  pub runs : List RoundRun
  pub past : List Entry
  pub mine : List Entry
  pub rounds : AreRounds p.plan.threads p.plan.slots p.plan.round p.plan.conflicts p.formula.clauses runs past
  pub due : IsDue p.plan.threads p.plan.conflicts runs past
  pub done_is : p.done ≡ learned_by p.plan.threads past
  pub within : p.done ≤ p.plan.conflicts
  pub rulers : All (λ e. is_rulers e ≡ true) mine
  pub counts : List (List Counts)
  pub tallied : AreTallied p.plan.threads runs counts
  pub tally_is : p.tally ≡ total p.plan.threads counts
  pub many : length p.tally ≡ p.plan.threads
  pub small : All (IsSmall p.plan.threads p.done) p.tally
  pub first : HasBegun p.formula (schedule_of p.plan) (past ++ mine)
  pub rulings : List Ruling
  pub again : HaveGoneOn p.formula.clauses (schedule_of p.plan) first.work runs mine rulings
  pub vars_are : p.left.vars ≡ (work_after first.work rulings).vars
  pub stack_is : p.left.stack ≡ (work_after first.work rulings).stack
  pub more : p.formula.vars ≤ p.left.vars
  pub few : p.left.vars ≤ 2 ^ 30
  pub stood : StandsInRounds p.left.vars p.plan.threads p.formula.clauses (past ++ mine)
  pub sound : LogSound p.formula.clauses (past ++ mine)
  pub hinted : has_hints p.plan.format ≡ true → AreHinted p.formula.clauses (past ++ mine)
  pub is_left : IsLeft p.formula (past ++ mine) p.left
  pub filled : IsFilled (begun p.formula.clauses p.before) (past ++ mine) p.now
  pub quiet : p.now.faults ≡ p.before.faults

-- after this journal
pub record IsPausedAt (p : Pause) (journal : List Entry) : Type 0 where
  pub paused : IsPaused p
  pub is : paused.past ++ paused.mine ≡ journal
