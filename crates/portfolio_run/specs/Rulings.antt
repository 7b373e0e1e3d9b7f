-- What the ruler does between the rounds of the rings.
use Rattle.std.specs.Prelude.{◌≡◌, ◌≢◌, ◌⊎◌, ℕ, false, List, [], ◌∷◌, ◌++◌, map, All, Contains, Option, None, Result, Ok}
use mathlib.Core.Logic.{inl, inr}
use Rattle.std.specs.List.Sorted.{IsStrictlySortedBy}
use Rattle.std.specs.Ordering.{nat_cmp}
use Rattle.sat_words.specs.Literal.{Literal}
use Rattle.rup_model.specs.declared.journal.TheConstants.{RULER_RING}
use Rattle.rup_model.specs.declared.journal.Round.{Round as RoundStart}
use Rattle.rup_model.specs.declared.journal.Entry.{Entry}
use Rattle.rup_model.specs.declared.journal.Entry.TheVariants.{Del}
use Rattle.drat_text.specs.declared.stop.LineStop.{LineStop}
use Rattle.simp_base.specs.WorkState.{WorkState, resumed}
use Rattle.simp_base.specs.declared.work.Run.{Run}
use Rattle.simp_base.specs.declared.work.Run.TheVariants.{Done}
use Rattle.ruler_simp.specs.declared.rounds.Schedule.{Schedule}
use Rattle.ruler_simp.specs.Again.{ResumesAs}
use Rattle.ruler_simp.specs.Rounds.{SimplifiedTo}
use Rattle.core_rounds.specs.Rounds.{RoundRun, left_by, start_for, beginning_of}
use Rattle.ring_run.specs.declared.job.Counts.{Counts}
use Rattle.portfolio_run.specs.Held.{IsHeld}

-- what the ruler did after a round: the numbers of the clauses that it deleted first; the work that it began with then, and the one
-- that it came to; how its run ended, and what it wrote in it
pub record Ruling : Type 0 where
  pub dropped : List ℕ
  pub start : WorkState
  pub work : WorkState
  pub result : Result Run LineStop
  pub entries : List Entry

-- the deletions of clauses by the ruler
abbrev pub deletions : List ℕ → List Entry
deletions ns = map (Del RULER_RING) ns

-- all that it wrote
abbrev pub written_by : Ruling → List Entry
written_by y = deletions y.dropped ++ y.entries

-- the journal that the rounds left, the last first
abbrev pub left_of : List RoundRun → List Entry
left_of [] = []
left_of (x ∷ xs) = (left_by x).journal

-- the work to which the ruler came last, if it came to this one before the first round and went on so often, the last time first
abbrev pub work_after : WorkState → List Ruling → WorkState
work_after first [] = first
work_after first (y ∷ ys) = y.work

-- clauses that were deleted after the round, in order of number: none is one that it started with
pub record AreDropped (x : RoundRun) (ns : List ℕ) : Type 0 where
  pub own : All (λ n. Contains (start_for x.opening).starts n → ⊥) ns
  pub ascending : IsStrictlySortedBy nat_cmp ns

-- after the round, if the ruler had come to this work before it, it deleted clauses, and then the simplifiers ran in the rounds of
-- this schedule over all that was alive, and came to this: they began a work anew, over as many variables and with the stack of the
-- one before, whose output had refused no line
pub record IsRuling (F : List (List Literal)) (schedule : Schedule) (before : WorkState) (x : RoundRun) (y : Ruling) : Type 0 where
  pub dropped : AreDropped x y.dropped
  pub vars_are : y.start.vars ≡ before.vars
  pub stack_is : y.start.stack ≡ before.stack
  pub begins : (y.start.unheld ≡ y.start.vars) × (y.start.ended ≡ false)
  pub unspent : y.start.output.spent ≡ false
  pub resumes : ResumesAs F y.start ((left_by x).journal ++ deletions y.dropped)
  pub ran : SimplifiedTo schedule y.start y.work y.result y.entries

module _ (F : List (List Literal)) (schedule : Schedule) (first : WorkState) where
  -- so the ruler went on after each of the rounds, and came to its end; `mine` is what it wrote after the last
  abbrev pub HaveGoneOn : List RoundRun → (mine : List Entry) → List Ruling → Type 0
  HaveGoneOn [] mine ys = ys ≡ []
  HaveGoneOn (x ∷ xs) mine [] = ⊥
  HaveGoneOn (x ∷ xs) mine (y ∷ ys) = IsRuling F schedule (work_after first ys) x y × (y.result ≡ Ok Done) × (mine ≡ written_by y)
      × ((before : List Entry) × (x.opening.journal ≡ (left_of xs ++ before) ++ beginning_of x.opening ∷ []) × HaveGoneOn xs before ys)

  -- so it went on before each of the rounds but the first
  abbrev pub HaveRuled : List RoundRun → List Ruling → Type 0
  HaveRuled [] ys = ys ≡ []
  HaveRuled (x ∷ xs) ys = (before : List Entry) × (x.opening.journal ≡ (left_of xs ++ before) ++ beginning_of x.opening ∷ []) × HaveGoneOn xs before ys

  -- it went on after the last round: it was stopped as it deleted clauses, or it worked on, and a round began only if it came to its end
  abbrev pub IsLastRuling : RoundRun → List RoundRun → (written : List Entry) → Option RoundStart → List Ruling → Type 0
  IsLastRuling x xs written begun ys =
      ((ns : List ℕ) × AreDropped x ns × (written ≡ deletions ns) × (begun ≡ None) × HaveRuled (x ∷ xs) ys)
      ⊎ ((y : Ruling) × (before : List Ruling) × (ys ≡ y ∷ before) × IsRuling F schedule (work_after first before) x y × (written ≡ written_by y) × (begun ≢ None → y.result ≡ Ok Done) × HaveRuled (x ∷ xs) before)

  -- what it did since the first round
  abbrev pub HasRuledOn : List RoundRun → (written : List Entry) → Option RoundStart → List Ruling → Type 0
  HasRuledOn [] written begun ys = ys ≡ []
  HasRuledOn (x ∷ xs) written begun ys = IsLastRuling x xs written begun ys

-- what the ruler did after each round of a run, the last time first, if it came to this work before the first round
abbrev pub HasRuledBetween : {rings slots : ℕ} {every : Option ℕ} {most : ℕ} {clauses : List (List Literal)} {journal : List Entry} {tally : List Counts} → Schedule → WorkState → IsHeld rings slots every most clauses journal tally → List Ruling → Type 0
HasRuledBetween {clauses = clauses} schedule first (inl rests) ys = HasRuledOn clauses schedule first rests.runs rests.written rests.begun ys
HasRuledBetween {clauses = clauses} schedule first (inr ran) ys = HaveRuled clauses schedule first (ran.last ∷ ran.before) ys
