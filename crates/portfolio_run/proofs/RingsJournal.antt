-- The journal of a run in its last round: what stood before it, the entry that begins it, and the entries of the rings among each
-- other.
use Rattle.std.proofs.Common.{◌≡◌, ◌∙◌, ◌<◌, ◌≤◌, ◌^◌, ◌||◌, ℕ, Bool, true, false, List, [], ◌∷◌, ◌++◌, Option, Some, sym, ap, append-nil}
use Rattle.std.specs.Prelude.{All}
use Rattle.std.specs.Option.{is_some}
use Rattle.std.specs.List.{list_any}
use Rattle.std.proofs.lemmas.List.Folds.{list_any-append}
use Rattle.sat_words.specs.Literal.{IsOn}
use Rattle.sat_words.specs.Clause.{is_empty}
use Rattle.sat_words.specs.declared.line.Line.{Line}
use Rattle.sat_words.specs.FormulaData.{FormulaData}
use Rattle.rup_model.specs.Basics.{EachAfter}
use Rattle.rup_model.specs.Log.{OnVariables}
use Rattle.rup_model.specs.declared.journal.TheConstants.{RULER_RING}
use Rattle.rup_model.specs.declared.journal.Round.{Round as RoundStart}
use Rattle.rup_model.specs.declared.journal.Entry.{Entry}
use Rattle.rup_model.specs.declared.journal.Entry.TheVariants.{Round}
use Rattle.rup_model.specs.Journal.{formula_book, ring_of, lines, added, ended, LogSound}
use Rattle.rup_model.specs.NumberedLines.{AreHinted}
use Rattle.rup_model.specs.Opening.{Opening}
use Rattle.rup_model.specs.Windows.{since_round, to_round, opening_by}
use Rattle.rup_model.proofs.Additions.{added-append}
use Rattle.rup_model.proofs.LogLaw.{refutes_none}
use Rattle.rup_model.proofs.Refuting.{added_empty_refutes}
use Rattle.rup_model.proofs.Windowing.{last_is}
use Rattle.drat_text.specs.Text.{CanBeSpelled}
use Rattle.core_rounds.specs.InRounds.{learned_by, round_limit, IsDueInRounds}
use Rattle.ring_run.specs.declared.job.Counts.{Counts}
use Rattle.portfolio_run.specs.Held.{IsHeld, NeverGone}
use Rattle.portfolio_run.specs.Journaled.{IsProgramRound, IsJournal, IsUnrefuted}
use Rattle.portfolio_run.specs.Pauses.{StandsInRounds}
use Rattle.portfolio_run.specs.Solved.{IsRefutation, IsUnsettled}
use Rattle.portfolio_run.specs.Spent.{LearnedAll}
use Rattle.portfolio_run.proofs.InRounds.{HasWritten, IsAlike, round_stands, rings_stand, none_begins, journal_of_rounds}
use Rattle.portfolio_run.proofs.Interleaving.{own, own-append, own_none, own_adds_none, none_adds}
use Rattle.portfolio_run.proofs.Spelling.{formula_on, spelled_from}

on_variables : (L : List Line) → CanBeSpelled L → OnVariables L
on_variables L spelled k d lt j l less = (spelled k d lt j l less).low

second_true : (a b : Bool) → a ≡ false → (a || b) ≡ true → b ≡ true
second_true true b none h = absurd (cc none)
second_true false b none h = h

-- an entry that begins a round adds nothing
pub adds_nothing : (J : List Entry) (x : RoundStart) → added (J ++ Round x ∷ []) ≡ added J
adds_nothing J x = added-append J (Round x ∷ []) ∙ append-nil (added J)

-- what is so of one who wrote, if nobody refuted
pub own_unrefuted : (r : ℕ) (J : List Entry) → IsUnrefuted J → IsUnrefuted (own r J)
own_unrefuted r J going = own_adds_none is_empty r J going

-- the journal's three parts, on the variables; each ring's own entries are new to what the rings started from, which is what the
-- round begins with
pub record AreTogether (F : FormulaData) (J0 : List Entry) (x : RoundStart) (K : List Entry) (rings : ℕ) (o : Opening) : Type 0 where
  pub few : F.vars ≤ 2 ^ 30
  pub on : All (All (IsOn F.vars)) F.clauses
  pub few_rings : rings ≤ RULER_RING
  pub stood : StandsInRounds F.vars rings F.clauses J0
  pub begins : IsProgramRound F.clauses J0 x
  pub going : IsUnrefuted J0
  pub sound : LogSound F.clauses ((J0 ++ Round x ∷ []) ++ K)
  pub of_rings : All (λ e. ring_of e < rings) K
  pub same : IsAlike o (opening_by F.clauses (J0 ++ Round x ∷ []) (Some x))
  pub each : (r : ℕ) → r < rings → HasWritten F.vars o r (own r K)

module _ (F : FormulaData) (J0 : List Entry) (x : RoundStart) (K : List Entry) (rings : ℕ) (o : Opening) (t : AreTogether F J0 x K rings o) where
  abbrev I : List Entry
  I = J0 ++ Round x ∷ []

  abbrev J : List Entry
  J = I ++ K

  pub stands : StandsInRounds F.vars rings F.clauses J
  stands = rings_stand F.vars rings F.clauses J0 x K t.few_rings t.of_rings o t.same t.each (round_stands F.vars rings F.clauses J0 x t.stood t.begins)

  -- a journal of a run, if its hints are right where it has them
  pub journal_stands : (with_hints : Bool) → (with_hints ≡ true → AreHinted F.clauses J) → IsJournal rings with_hints F.clauses J
  journal_stands with_hints hinted = journal_of_rounds F.vars rings with_hints F.clauses J t.few t.on t.sound hinted stands

  spelled : CanBeSpelled (lines F.clauses J)
  spelled = spelled_from F.vars t.few (formula_book F.clauses) J (formula_on F.vars F.clauses t.on) stands.on

  going_there : IsUnrefuted I
  going_there = ap (list_any is_empty) (adds_nothing J0 x) ∙ t.going

  -- no ring added the empty clause
  pub unrefuted : ((r : ℕ) → r < rings → IsUnrefuted (own r K)) → IsUnrefuted J
  unrefuted none =
      ap (list_any is_empty) (added-append I K) ∙ list_any-append is_empty (added I) (added K)
      ∙ (λ i. going_there i || none_adds is_empty rings K t.of_rings none i)

  pub learned_all : (every : Option ℕ) (most : ℕ) → learned_by rings J ≡ most → learned_by rings (since_round J) ≡ round_limit every most (learned_by rings (to_round J)) → EachAfter (IsDueInRounds rings every most) [] J → ((r : ℕ) → r < rings → IsUnrefuted (own r K))
      → LearnedAll F.clauses J rings every most
  learned_all every most learns spent due none = record {
    fits = t.sound.fits;
    of_rounds = stands.of_rounds;
    begun = ap is_some (last_is J0 x K (none_begins F.vars rings F.clauses J0 x K t.few_rings t.of_rings o t.same t.each));
    learns = learns;
    spent = spent;
    each_new = stands.each_new;
    spaced = stands.spaced;
    going = unrefuted none;
    due = due;
  }

  -- one who wrote did not refute, if none of that stands in this round
  own_going : (r : ℕ) → IsUnrefuted (own r K) → IsUnrefuted (own r J)
  own_going r none =
      ap (λ (es : List Entry). list_any is_empty (added es)) (own-append r I K) ∙ ap (list_any is_empty) (added-append (own r I) (own r K)) ∙ list_any-append is_empty (added (own r I)) (added (own r K))
      ∙ (λ i. own_unrefuted r I going_there i || none i)

  pub unsettled : (slots : ℕ) (every : Option ℕ) (most : ℕ) (tally : List Counts) (held : IsHeld rings slots every most F.clauses J tally) (r : ℕ) → r < rings → NeverGone held r → IsUnrefuted (own r K) → IsUnsettled held
  unsettled slots every most tally held r lt never none = record {
    ring = r;
    below = lt;
    tickets = never;
    going = own_going r none;
    rulers = own_going RULER_RING (ap (λ (es : List Entry). list_any is_empty (added es)) (own_none RULER_RING rings t.few_rings K t.of_rings));
  }

  -- the log is ended
  pub refutation : list_any is_empty F.clauses ≡ false → ended F.clauses J ≡ true → IsRefutation F.clauses J
  refutation none end =
      let r = added_empty_refutes F.clauses J t.sound (second_true (list_any is_empty F.clauses) (list_any is_empty (added J)) none (sym (list_any-append is_empty F.clauses (added J)) ∙ end)) in
      record { refuted = r; no_model = λ m t. refutes_none F.clauses (lines F.clauses J) r (on_variables (lines F.clauses J) spelled) (m, t) }
