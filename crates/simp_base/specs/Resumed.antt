-- What a work goes on from: a journal and what is alive after it.
use Rattle.std.specs.Prelude.{◌≡◌, ℕ, ◌+◌, true, false, List, [], ◌∷◌, ◌++◌, length, All, Contains, Some}
use Rattle.std.specs.Option.{option_map}
use Rattle.sat_words.specs.Formats.{has_hints}
use Rattle.sat_words.specs.Literal.{Literal, IsOn}
use Rattle.sat_words.specs.Clause.{has, distinct_lits, clause_of}
use Rattle.rup_model.specs.declared.journal.Entry.{Entry}
use Rattle.rup_model.specs.Journal.{book, added, ended, is_told, LogSound}
use Rattle.rup_model.specs.NumberedLines.{AreHinted}
use Rattle.model_stack.specs.declared.stack.Fix.{Fix}
use Rattle.drat_text.specs.LineState.{LineState}
use Rattle.simp_base.specs.WorkState.{HaveOwnNumbers, IsFixOn, AreHeld, unit_lits}
use Rattle.simp_base.specs.Parts.{takes_part}

-- after this journal, if neither the formula nor an entry has the empty clause, each of the clauses is alive under its number,
-- and stands here in the order of `Clause`, whoever added it; a unit clause is written there as it is here; those that take part
-- are all of them; the units, each once, are all that are in the formula or were added, and the clause of each is among the
-- clauses, under the unit's number; all literals are on the variables; and the output has as many entries and the last number. If
-- the log has hints, those of each addition show that it follows
pub record Resumes (F : List (List Literal)) (vars : ℕ) (cells : List (ℕ × List Literal)) (units : List (Literal × ℕ)) (stack : List Fix) (out : LineState) (journal : List Entry) : Type 0 where
  pub sound : LogSound F journal
  pub hinted : has_hints out.format ≡ true → AreHinted F journal
  pub going : ended F journal ≡ false
  pub numbers : HaveOwnNumbers cells
  pub held : (n : ℕ) (c : List Literal) → Contains cells (n, c) → option_map clause_of ((book F journal).clause n) ≡ Some c
  pub all : (n : ℕ) (c : List Literal) → (book F journal).clause n ≡ Some c → takes_part c ≡ true → Contains cells (n, clause_of c)
  pub alone : (n : ℕ) (l : Literal) → Contains cells (n, l ∷ []) → (book F journal).clause n ≡ Some (l ∷ [])
  pub told : All (λ l. is_told F journal l ≡ true) (unit_lits units)
  pub every : (l : Literal) → is_told F journal l ≡ true → has (unit_lits units) l ≡ true
  pub distinct : distinct_lits (unit_lits units) ≡ true
  pub units_held : AreHeld cells units
  pub on : All (All (IsOn vars)) (F ++ added journal)
  pub stack_on : All (IsFixOn vars) stack
  pub entries : out.entries ≡ length journal
  pub last : (book F journal).next ≡ out.last + 1

-- after some journal
abbrev pub CanResume : List (List Literal) → ℕ → List (ℕ × List Literal) → List (Literal × ℕ) → List Fix → LineState → Type 0
CanResume F vars cells units stack out = (journal : List Entry) × Resumes F vars cells units stack out journal
