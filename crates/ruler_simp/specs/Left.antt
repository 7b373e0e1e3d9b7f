-- What is left once a work was simplified.
use Rattle.std.specs.Prelude.{◌≡◌, ℕ, List, ◌++◌, Result, Ok, Err}
use Rattle.std.specs.List.{filter}
use Rattle.std.specs.List.Sorted.{IsPermutation, IsNonDecreasingBy}
use Rattle.sat_words.specs.Literal.{Literal}
use Rattle.rup_model.specs.Opening.{Start}
use Rattle.drat_text.specs.declared.stop.LineStop.{LineStop}
use Rattle.simp_base.specs.WorkState.{WorkState, AreHeld, unit_clauses, unit_lits, lists}
use Rattle.simp_base.specs.Parts.{takes_part}
use Rattle.simp_base.specs.declared.work.Run.{Run}
use Rattle.simp_base.specs.declared.work.Run.TheVariants.{Done as RunDone, Refuted as RunRefuted}
use Rattle.ruler_simp.specs.declared.ruling.Simplified.{Simplified}
use Rattle.ruler_simp.specs.declared.ruling.Outcome.{Outcome}
use Rattle.ruler_simp.specs.declared.ruling.Outcome.TheVariants.{Simplified as LeftOver, Refuted as NoModel}

-- a clause with its number, as the search starts with it
abbrev pub start_of : ℕ × List Literal → Start
start_of c = record { number = c.0; lits = c.1 }

-- the clauses and the units
abbrev pub left_clauses : Simplified → List (List Literal)
left_clauses s = lists s.start.items ++ unit_clauses (unit_lits s.units.items)

-- the variables of the work, those of its clauses that take part, in order of number, its units, each with the number of a clause
-- of the work, and its stack
pub record IsLeft (w : WorkState) (s : Simplified) : Type 0 where
  pub vars : s.vars ≡ w.vars
  pub kept : IsPermutation (filter (λ c. takes_part c.1) w.clauses) s.start.items
  pub sorted : IsNonDecreasingBy (λ c. c.0) s.start.items
  pub units : unit_lits s.units.items ≡ w.units
  pub held : AreHeld w.clauses s.units.items
  pub stack : s.stack ≡ w.stack

-- the answer is that of the run, and says what is left if this is done
abbrev pub IsTaken : Result Run LineStop → WorkState → Result Outcome LineStop → Type 0
IsTaken (Ok RunDone) w (Ok (LeftOver s)) = IsLeft w s
IsTaken (Ok RunDone) w (Ok NoModel) = ⊥
IsTaken (Ok RunDone) w (Err stop) = ⊥
IsTaken (Ok RunRefuted) w (Ok (LeftOver s)) = ⊥
IsTaken (Ok RunRefuted) w (Ok NoModel) = Unit {0}
IsTaken (Ok RunRefuted) w (Err stop) = ⊥
IsTaken (Err why) w (Ok outcome) = ⊥
IsTaken (Err why) w (Err stop) = stop ≡ why
