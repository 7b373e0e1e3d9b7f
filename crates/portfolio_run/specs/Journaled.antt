-- The journal of a run, and what the writer of its proof holds.
use Rattle.std.specs.Prelude.{◌≡◌, ◌⊎◌, ℕ, Bool, List, [], ◌++◌, map, All, IfSome, true, false, ⊤}
use Rattle.std.specs.List.{list_any}
use Rattle.std.specs.Option.{option_to_list}
use Rattle.std.specs.declared.option.Option.{Option}
use Rattle.sat_words.specs.Literal.{Literal}
use Rattle.sat_words.specs.Clause.{has, is_empty}
use Rattle.sat_words.specs.Formats.{has_hints}
use Rattle.sat_words.specs.declared.line.ProofFormat.{ProofFormat}
use Rattle.rup_model.specs.declared.journal.Round.{Round as RoundStart}
use Rattle.rup_model.specs.declared.journal.Entry.{Entry}
use Rattle.rup_model.specs.declared.journal.Entry.TheVariants.{Add, Del, Reduce, Round}
use Rattle.rup_model.specs.Basics.{EachAfter}
use Rattle.rup_model.specs.Log.{Accepted}
use Rattle.rup_model.specs.Journal.{added, lines, round_of, Fits, EmptyLast, LogSound}
use Rattle.rup_model.specs.NumberedLines.{AreHinted, numbered_lines}
use Rattle.rup_model.specs.Opening.{is_rulers, program_opening}
use Rattle.rup_model.specs.Windows.{begins_round, IsNewInRound, IsSpacedInRound}
use Rattle.core_rounds.specs.InRounds.{IsOfRounds}
use Rattle.drat_text.specs.Text.{CanBeSpelled}
use Rattle.drat_text.specs.Spelling.{proof_bytes}
use Rattle.log_book.specs.Kept.{IsFrontTold}
use Rattle.ring_run.specs.Ended.{IsOfKind}

-- an entry of a ring: it learns a clause of a literal or more, adds the line of a unit, or derives the empty clause or a clause
-- of two literals or more; it deletes a clause, or reduces its clauses
abbrev pub IsRingsEntry : Entry → Type 0
IsRingsEntry (Add x) = IsOfKind x.kind x.lits
IsRingsEntry (Del r n) = ⊤
IsRingsEntry (Reduce r) = ⊤
IsRingsEntry (Round x) = ⊥

-- an entry of the ruler, one that begins a round, or one of a ring
abbrev pub IsPlainEntry : Entry → Type 0
IsPlainEntry e = (is_rulers e ≡ true) ⊎ (begins_round e ≡ true) ⊎ IsRingsEntry e

-- a round begins after this journal as the program's opening says: with the numbers of its start clauses, in their order, and its
-- units
pub record IsProgramRound (clauses : List (List Literal)) (before : List Entry) (x : RoundStart) : Type 0 where
  pub starts : x.starts ≡ map (λ s. s.number) (program_opening clauses before).starts
  pub units : (l : Literal) → has x.units l ≡ has (program_opening clauses before).units l

-- if the entry begins a round, it begins so
abbrev pub BeginsWell : List (List Literal) → List Entry → Entry → Type 0
BeginsWell clauses before e = IfSome (round_of e) (IsProgramRound clauses before)

-- a journal of this many rings: its numbers fit, each line is valid where it stands, nothing follows the empty clause,
-- its lines can be spelled; if its additions have hints, these show that they follow; each entry is the ruler's, begins a round as
-- the program's opening says, or is of one of the rings; each clause that a ring learned was new in its round when it was added, and
-- enough were learned in the round before each Reduce entry since the one before
pub record IsJournal (rings : ℕ) (with_hints : Bool) (clauses : List (List Literal)) (journal : List Entry) : Type 0 where
  pub fits : Fits clauses journal
  pub accepted : Accepted clauses (lines clauses journal)
  pub last : EmptyLast journal
  pub spelled : CanBeSpelled (lines clauses journal)
  pub hinted : with_hints ≡ true → AreHinted clauses journal
  pub of_rounds : All (IsOfRounds rings) journal
  pub plain : All IsPlainEntry journal
  pub begins : EachAfter (BeginsWell clauses) [] journal
  pub each_new : EachAfter (IsNewInRound clauses) [] journal
  pub spaced : EachAfter IsSpacedInRound [] journal

-- no entry adds the empty clause
abbrev pub IsUnrefuted : List Entry → Type 0
IsUnrefuted journal = list_any is_empty (added journal) ≡ false

-- if bytes are known, they are a front of those of the journal's lines in this format, or of these and the line of one entry more that
-- may come next: each line is valid where it stands and can be spelled, the numbers fit, nothing follows the empty clause, and if the
-- format has hints, those of each addition show that it follows
pub record IsCutShort (format : ProofFormat) (clauses : List (List Literal)) (journal : List Entry) (written : Option (List ℕ)) : Type 0 where
  pub next : Option Entry
  pub sound : LogSound clauses (journal ++ option_to_list next)
  pub hinted : has_hints format ≡ true → AreHinted clauses (journal ++ option_to_list next)
  pub spelled : CanBeSpelled (lines clauses (journal ++ option_to_list next))
  pub bytes : IsFrontTold written (proof_bytes format (numbered_lines clauses (journal ++ option_to_list next)))
