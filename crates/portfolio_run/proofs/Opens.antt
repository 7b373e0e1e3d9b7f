-- A round begins with what the ruler left, and a table can be opened for it.
use Rattle.share_core.specs.State.{unit_lits}
use Rattle.std.proofs.Common.{◌≡◌, ◌∙◌, ℕ, suc, ◌<◌, ◌≤◌, true, List, [], ◌∷◌, ◌++◌, map, All, Option, Some, None, Ok, append-nil, refl, sym, ap, subst, inl, inr, arith, get_or}
use Rattle.std.specs.Prelude.{◌⊎◌}
use Rattle.std.specs.List.{list_any}
use Rattle.std.specs.Option.{option_map, option_to_list, unwrap_or}
use Rattle.sat_words.specs.Literal.{Literal, IsOn}
use Rattle.sat_words.specs.Clause.{is_empty, clause_of}
use Rattle.sat_words.specs.Formats.{has_hints}
use Rattle.sat_words.specs.FormulaData.{FormulaData}
use Rattle.sat_words.proofs.Insertion.{clause_of_in_order}
use Rattle.rup_model.specs.declared.journal.Round.{Round as RoundStart}
use Rattle.rup_model.specs.declared.journal.Entry.{Entry}
use Rattle.rup_model.specs.declared.journal.Entry.TheVariants.{Round}
use Rattle.rup_model.specs.Journal.{Book, book, LogSound}
use Rattle.rup_model.specs.NumberedLines.{AreHinted}
use Rattle.rup_model.specs.Opening.{Start, IsStart, OpensAfter, ruler_part}
use Rattle.rup_model.specs.Windows.{start_of as start_in}
use Rattle.rup_model.proofs.Additions.{told_more}
use Rattle.rup_model.proofs.JournalSteps.{log_rounds}
use Rattle.rup_model.proofs.Numbers.{book_last}
use Rattle.rup_model.proofs.ProgramOpening.{rulers_ordered}
use Rattle.simp_base.specs.WorkState.{WorkState, begun as begun_work}
use Rattle.simp_base.specs.declared.work.Run.TheVariants.{Done}
use Rattle.ruler_simp.specs.declared.ruling.Simplified.{Simplified}
use Rattle.ruler_simp.specs.declared.rounds.Schedule.{Schedule}
use Rattle.ruler_simp.specs.Left.{start_of as left_start}
use Rattle.ruler_simp.specs.Ruled.{IsSimplified}
use Rattle.ruler_simp.specs.Rounds.{SimplifiedTo}
use Rattle.ruler_simp.specs.Again.{round_start, before_round}
use Rattle.core_rounds.specs.Rounds.{RoundRun, IsDue}
use Rattle.core_rounds.specs.InRounds.{learned_by}
use Rattle.portfolio_run.specs.Journaled.{IsProgramRound, IsUnrefuted}
use Rattle.portfolio_run.specs.Pauses.{StandsInRounds, IsLeft, Pause, IsPaused}
use Rattle.portfolio_run.specs.Ruled.{schedule_of}
use Rattle.portfolio_run.specs.Rulings.{Ruling, HaveGoneOn, HasRuledOn, work_after}
use Rattle.portfolio_run.proofs.Hinting.{hinted_begun}
use Rattle.portfolio_run.proofs.InRounds.{round_stands}
use Rattle.portfolio_run.proofs.Resting.{IsResting, learned_resting}
use Rattle.portfolio_run.proofs.RingsJournal.{adds_nothing}
use Rattle.portfolio_run.proofs.Rulers.{front_stays}
use Rattle.portfolio_run.proofs.Spelling.{by_order, wider}

abbrev Pair : Type 0
Pair = ℕ × List Literal

-- the numbers of the start clauses
pub left_numbers : (ps : List Pair) → map (λ (s : Start). s.number) (map left_start ps) ≡ map (λ (p : Pair). p.0) ps
left_numbers [] = refl
left_numbers (p ∷ ps) = ap (λ (ns : List ℕ). p.0 ∷ ns) (left_numbers ps)

-- the clauses under their numbers are the start clauses
pub by_numbers : (b : Book) (ps : List Pair) → All (IsStart b) (map left_start ps) → map (λ (s : Start). s.lits) (map (start_in b) (map (λ (p : Pair). p.0) ps)) ≡ map (λ (p : Pair). p.1) ps
by_numbers b [] all = refl
by_numbers b (p ∷ ps) all =
    let first : IsStart b (left_start p) = all 0 (left_start p) (omega arith) in
    let lits : unwrap_or (b.clause p.0) [] ≡ p.1 = ap (λ (o : Option (List Literal)). unwrap_or o []) first.alive in
    let rest = by_numbers b ps (λ k d lt. all (suc k) d (omega arith)) in
    λ i. lits i ∷ rest i

-- Once an entry begins the round

module _ (F : FormulaData) (J : List Entry) (left : Simplified) where
  abbrev x : RoundStart
  x = round_start left

  abbrev I : List Entry
  I = before_round J left

  sound_next : LogSound F.clauses J → IsUnrefuted J → LogSound F.clauses I
  sound_next sound going = log_rounds F.clauses J sound x going

  going_next : IsUnrefuted J → IsUnrefuted I
  going_next going = ap (list_any is_empty) (adds_nothing J x) ∙ going

  -- the first time
  module _ (h : IsSimplified F J left) (sound : LogSound F.clauses J) where
    -- a start clause, which is in order, stays as it is
    alive_there : (s : Start) → IsStart (book F.clauses J) s → IsStart (book F.clauses I) s
    alive_there s i =
        let in_order : clause_of s.lits ≡ s.lits = clause_of_in_order s.lits (rulers_ordered F.clauses J h.opens.rulers_part.rulers s.number s.lits i.alive) in
        record {
          alive = ap (λ (b : Book). b.clause s.number) (book_last F.clauses J (Round x))
              ∙ by_order x.starts (book F.clauses J).clause s.number (λ (q : Option (List Literal)). q ≡ Some s.lits)
              (ap (option_map clause_of) i.alive ∙ ap (λ (c : List Literal). Some c) in_order) i.alive;
          shape = i.shape;
        }

    -- a table can be opened after it
    opens_there : OpensAfter F.clauses (record { journal = I; starts = map left_start left.start.items; units = unit_lits left.units.items })
    opens_there =
        let there = sound_next sound h.opens.rulers_part.going in
        record {
          fits = there.fits;
          accepted = there.accepted;
          going = going_next h.opens.rulers_part.going;
          starts = λ k d lt. alive_there (get_or (map left_start left.start.items) k d) (h.opens.starts k d lt);
          numbers = h.opens.numbers;
          told = λ k d lt. told_more F.clauses J (Round x ∷ []) (get_or (unit_lits left.units.items) k d) (h.opens.told k d lt);
          distinct = h.opens.distinct;
        }

    pub first_left : IsLeft F J left
    first_left = record {
      whole = h.going;
      going = h.opens.rulers_part.going;
      opens = opens_there;
      starts = h.starts;
      units = h.units;
      numbered = h.numbered;
      lifts = h.lifts;
      on = h.on;
    }

  -- the first time or later
  module _ (h : IsLeft F J left) (sound : LogSound F.clauses J) where
    -- it begins as the program's opening says
    pub begins_well : IsProgramRound F.clauses J x
    begins_well = record {
      starts = sym (left_numbers left.start.items) ∙ ap (map (λ (s : Start). s.number)) h.starts;
      units = h.units;
    }

    pub sound_there : LogSound F.clauses I
    sound_there = sound_next sound h.going

    pub going_there : IsUnrefuted I
    going_there = going_next h.going

-- Where the rings rest before it

-- the ruler came to its end each time, so a round may begin
pub went_on : (F : List (List Literal)) (schedule : Schedule) (first : WorkState) (runs : List RoundRun) (mine : List Entry) (begun : Option RoundStart) (ys : List Ruling) → HaveGoneOn F schedule first runs mine ys → HasRuledOn F schedule first runs mine begun ys
went_on F schedule first [] mine begun ys h = h
went_on F schedule first (r ∷ rs) mine begun [] h = absurd h
went_on F schedule first (r ∷ rs) mine begun (y ∷ ys) h = inr (y, ys, refl, h.0, h.2, (λ _. h.1), h.3)

-- something is left to learn, if there was a round
pub still_due : (rings most : ℕ) (runs : List RoundRun) (past : List Entry) → IsDue rings most runs past → (runs ≡ []) ⊎ (learned_by rings past < most)
still_due rings most [] past due = inl refl
still_due rings most (r ∷ rs) past due = inr due.1

module _ (p : Pause) (was : IsPaused p) (some_ring : 1 ≤ p.plan.threads) (on : All (All (IsOn p.formula.vars)) p.formula.clauses) where
  abbrev J : List Entry
  J = was.past ++ was.mine

  -- the round has begun, or not yet
  module _ (begun : Option RoundStart) (stood : StandsInRounds p.left.vars p.plan.threads p.formula.clauses (J ++ option_to_list (option_map Round begun))) (sound : LogSound p.formula.clauses (J ++ option_to_list (option_map Round begun)))
      (hinted : has_hints p.plan.format ≡ true → AreHinted p.formula.clauses (J ++ option_to_list (option_map Round begun))) (front : ruler_part (J ++ option_to_list (option_map Round begun)) ≡ ruler_part J) where
    learned_is : learned_by p.plan.threads (J ++ option_to_list (option_map Round begun)) ≡ learned_by p.plan.threads was.past
    learned_is = learned_resting p.plan.threads was.past was.mine begun was.rulers

    rests : IsResting p.plan p.formula p.tally begun (J ++ option_to_list (option_map Round begun))
    rests = record {
      some_ring = some_ring;
      runs = was.runs;
      past = was.past;
      written = was.mine;
      rounds = was.rounds;
      due = was.due;
      rulers = was.rulers;
      journal_is = refl;
      within = (let done_is = was.done_is in let within = was.within in let is = learned_is in omega (arith, done_is, within, is));
      never = elim (still_due p.plan.threads p.plan.conflicts was.runs was.past was.due) [
        | inl e ↦ inl e
        | inr lt ↦ inr (let is = learned_is in omega (arith, lt, is))
      ];
      counts = was.counts;
      tallied = was.tallied;
      tally_is = inl was.tally_is;
      ruled = record {
        output = was.first.output;
        unspent = was.first.unspent;
        none = was.first.none;
        last = was.first.last;
        work = was.first.work;
        result = Ok Done;
        ran = subst (SimplifiedTo (schedule_of p.plan) (begun_work p.formula was.first.output) was.first.work (Ok Done)) (sym front) was.first.ran;
        alone = λ other. absurd (other refl);
      };
      rulings = was.rulings;
      again = went_on p.formula.clauses (schedule_of p.plan) was.first.work was.runs was.mine begun was.rulings was.again;
      vars = p.left.vars;
      few = was.few;
      on = wider p.formula.vars p.left.vars was.more p.formula.clauses on;
      stood = stood;
      sound = sound;
      hinted = hinted;
    }

  none_more : J ≡ J ++ []
  none_more = sym (append-nil J)

  pub unbegun_rests : IsResting p.plan p.formula p.tally None J
  unbegun_rests =
      subst (IsResting p.plan p.formula p.tally None) (append-nil J)
      (rests None (subst (StandsInRounds p.left.vars p.plan.threads p.formula.clauses) none_more was.stood) (subst (LogSound p.formula.clauses) none_more was.sound) (λ q. subst (AreHinted p.formula.clauses) none_more (was.hinted q)) (ap ruler_part (append-nil J)))

  pub begun_rests : IsResting p.plan p.formula p.tally (Some (round_start p.left)) (before_round J p.left)
  begun_rests =
      rests (Some (round_start p.left)) (round_stands p.left.vars p.plan.threads p.formula.clauses J (round_start p.left) was.stood (begins_well p.formula J p.left was.is_left was.sound)) (sound_there p.formula J p.left was.is_left was.sound)
      (λ q. hinted_begun p.formula.clauses J (round_start p.left) (was.hinted q)) (ap ruler_part (sym (append-nil (before_round J p.left))) ∙ front_stays J (round_start p.left) [])

  -- what a table for the round is over
  pub begun_vars : (work_after begun_rests.ruled.work begun_rests.rulings).vars ≡ p.left.vars
  unfolding begun_rests rests
  begun_vars = sym was.vars_are

  pub begun_past : begun_rests.past ≡ was.past
  unfolding begun_rests rests
  begun_past = refl

  pub begun_written : begun_rests.written ≡ was.mine
  unfolding begun_rests rests
  begun_written = refl
