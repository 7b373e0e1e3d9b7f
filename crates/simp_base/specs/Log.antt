-- The log of a simplifier: one journal, whose lines its output has and whose clauses are those of the work.
use Rattle.std.specs.Prelude.{◌≡◌, ◌⊎◌, ◌≤◌, ◌^◌, ℕ, ◌+◌, true, false, List, [], ◌∷◌, ◌++◌, length, All, Contains, Some}
use Rattle.std.specs.List.{list_any}
use Rattle.std.specs.Option.{option_map}
use Rattle.sat_words.specs.Literal.{Literal, IsOn}
use Rattle.sat_words.specs.Clause.{is_empty, clause_of}
use Rattle.sat_words.specs.Formats.{has_hints}
use Rattle.rup_model.specs.declared.journal.Entry.{Entry}
use Rattle.rup_model.specs.Journal.{book, added, is_told, LogSound}
use Rattle.rup_model.specs.NumberedLines.{AreHinted}
use Rattle.rup_model.specs.Opening.{is_rulers}
use Rattle.drat_text.specs.LineState.{LineState}
use Rattle.drat_text.specs.JournalText.{Origin, HasText, HasTextCut}
use Rattle.simp_base.specs.WorkState.{WorkState, is_unit}
use Rattle.simp_base.specs.Parts.{takes_part}

-- the journal so far, then the work's own entries
abbrev pub journal_of : Origin → List Entry → List Entry
journal_of o mine = o.journal ++ mine

-- what the output has of the journal: each entry counts, also one that has no line
pub record HasLines (o : Origin) (mine : List Entry) (vars : ℕ) (out : LineState) : Type 0 where
  pub entries : out.entries ≡ length (journal_of o mine)
  pub last : (book o.formula (journal_of o mine)).next ≡ out.last + 1
  pub whole : out.spent ≡ false → HasText o mine out
  pub short : out.spent ≡ true → HasTextCut o mine vars out
  pub target : out.target ≡ o.output.target
  pub flushed : out.flushed ≡ o.output.flushed

-- a work need not hold the clause, if it is alive: it takes no part, and is on the variables of clauses not held
pub record IsPassedOver (unheld : ℕ) (c : List Literal) : Type 0 where
  pub idle : takes_part c ≡ false
  pub on : All (IsOn unheld) c

-- the work stands over this origin with these entries of its own, which are the ruler's: each line of the one journal is valid
-- where it stands, and shown by its hints if the log has hints; the clauses are those that it leaves alive, each under its number
-- and in the order of `Clause`, except for some that are passed over; a unit clause is written there as it is here; each listed
-- unit is in the formula or was added, and each unit that is in the formula or was added is listed or a clause; and the output
-- has the lines
pub record Stands (o : Origin) (mine : List Entry) (w : WorkState) : Type 0 where
  pub sound : LogSound o.formula (journal_of o mine)
  pub hinted : has_hints w.output.format ≡ true → AreHinted o.formula (journal_of o mine)
  pub rulers : All (λ e. is_rulers e ≡ true) mine
  pub on : All (All (IsOn w.vars)) (added mine)
  pub ended : w.ended ≡ list_any is_empty (added (journal_of o mine))
  pub held : (n : ℕ) (c : List Literal) → Contains w.clauses (n, c) → option_map clause_of ((book o.formula (journal_of o mine)).clause n) ≡ Some c
  pub all : (n : ℕ) (c : List Literal) → (book o.formula (journal_of o mine)).clause n ≡ Some c → Contains w.clauses (n, clause_of c) ⊎ IsPassedOver w.unheld c
  pub alone : (n : ℕ) (l : Literal) → Contains w.clauses (n, l ∷ []) → (book o.formula (journal_of o mine)).clause n ≡ Some (l ∷ [])
  pub told : All (λ l. is_told o.formula (journal_of o mine) l ≡ true) w.units
  pub every : (l : Literal) → is_told o.formula (journal_of o mine) l ≡ true → is_unit w l ≡ true
  pub lines : HasLines o mine w.vars w.output

-- whatever a work stands over, it still does once these entries follow; the variables and the format are as they were
pub record Continues (entries : List Entry) (old new : WorkState) : Type 0 where
  pub vars : new.vars ≡ old.vars
  pub format : new.output.format ≡ old.output.format
  pub stands : (o : Origin) (mine : List Entry) → Stands o mine old → Stands o (mine ++ entries) new

-- whatever a work stands over, it still does after some entries of its own, the same over each origin
abbrev pub KeepsLog : WorkState → WorkState → Type 0
KeepsLog old new = (entries : List Entry) × Continues entries old new

-- whatever a work stands over, it still does once these entries follow; the format is as it was; there may be more variables, but
-- none that a literal cannot have
pub record Grows (entries : List Entry) (old new : WorkState) : Type 0 where
  pub vars : old.vars ≤ new.vars
  pub format : new.output.format ≡ old.output.format
  pub few : old.vars ≤ 2 ^ 30 → new.vars ≤ 2 ^ 30
  pub stands : (o : Origin) (mine : List Entry) → Stands o mine old → Stands o (mine ++ entries) new

-- it does after some entries of its own, the same over each origin
abbrev pub GrowsLog : WorkState → WorkState → Type 0
GrowsLog old new = (entries : List Entry) × Grows entries old new
