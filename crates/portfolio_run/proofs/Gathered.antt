-- What the core of a closed table says, from which the rings began a round where they had rested.
use Rattle.sat_words.specs.Formats.{has_hints}
use Rattle.io_edge.specs.declared.edge.Sink.{Ghosts}
use Rattle.std.proofs.Common.{◌≡◌, ◌∙◌, ◌^◌, ◌<◌, ◌≤◌, ℕ, true, List, [], ◌++◌, length, Ok, Err, sym, ap, subst, refl}
use Rattle.std.specs.Prelude.{◌≢◌, All, Option, Bool}
use Rattle.sat_words.specs.Literal.{Literal, IsOn}
use Rattle.sat_words.specs.FormulaData.{FormulaData}
use Rattle.rup_model.specs.declared.journal.TheConstants.{RULER_RING}
use Rattle.rup_model.specs.declared.journal.Entry.{Entry}
use Rattle.rup_model.specs.Journal.{ring_of, lines, LogSound}
use Rattle.rup_model.specs.NumberedLines.{IsHinted, AreHinted}
use Rattle.rup_model.proofs.Sequences.{each_both}
use Rattle.share_core.specs.declared.part.CoreOpening.{CoreOpening}
use Rattle.share_core.specs.Sound.{Sound, placed}
use Rattle.share_core.specs.State.{later}
use Rattle.share_core.proofs.Frames.{later_whole}
use Rattle.share_core.proofs.Leaving.{left_sound}
use Rattle.core_rounds.specs.InRounds.{round_limit}
use Rattle.share_rule.specs.declared.Layout.{Layout}
use Rattle.share_rule.specs.declared.view.BookOrigin.{BookOrigin}
use Rattle.share_rule.specs.declared.view.View.{View}
use Rattle.share_rule.specs.Books.{StandsFor}
use Rattle.share_rule.specs.FirstWords.{begun_with}
use Rattle.share_rule.specs.Seen.{Seen}
use Rattle.share_rule.specs.Views.{first_view}
use Rattle.log_book.specs.declared.book.Book.{Book}
use Rattle.log_book.specs.Books.{account_of, IsLogOf}
use Rattle.drat_text.specs.declared.stop.LineStop.{LineStop}
use Rattle.simp_base.specs.WorkState.{begun}
use Rattle.simp_base.specs.declared.work.Run.TheVariants.{Done}
use Rattle.ruler_simp.specs.declared.ruling.Simplified.{Simplified}
use Rattle.ruler_simp.specs.Rounds.{SimplifiedTo}
use Rattle.ruler_simp.specs.Again.{round_start, before_round}
use Rattle.portfolio_run.specs.declared.plan.Plan.{Plan}
use Rattle.portfolio_run.specs.Pauses.{Pause, IsPaused, HasBegun}
use Rattle.portfolio_run.specs.Reached.{Records}
use Rattle.portfolio_run.specs.Room.{layout_of}
use Rattle.portfolio_run.specs.Ruled.{schedule_of, IsRuled, IsRuledThrough}
use Rattle.portfolio_run.specs.Seats.{IsSameTable}
use Rattle.portfolio_run.proofs.Hinting.{hinted_begun}
use Rattle.portfolio_run.proofs.Placing.{same_rest}
use Rattle.portfolio_run.proofs.Rulers.{front_stays}

-- what the rings began with, once their round had begun
abbrev pub began_with : FormulaData → Layout → Bool → List Entry → Simplified → CoreOpening
began_with F l hinted J0 left = begun_with F.clauses l hinted (before_round J0 left) left.start.items left.units.items

-- the journal after which the rings rested
abbrev pub journal_at : (p : Pause) → IsPaused p → List Entry
journal_at p was = was.past ++ was.mine

pub was_done : (why : LineStop) → Ok Done ≢ Err why
was_done why e = cc e

-- The ruler wrote the front of the journal, whatever the rings write in the round

module _ (p : Pause) (was : IsPaused p) (K : List Entry) where
  abbrev pub begun_then : HasBegun p.formula (schedule_of p.plan) (before_round (journal_at p was) p.left ++ K)
  begun_then = record {
    output = was.first.output;
    unspent = was.first.unspent;
    none = was.first.none;
    last = was.first.last;
    work = was.first.work;
    ran = subst (SimplifiedTo (schedule_of p.plan) (begun p.formula was.first.output) was.first.work (Ok Done)) (sym (front_stays (journal_at p was) (round_start p.left) K)) was.first.ran;
  }

  abbrev pub ruled_then : IsRuled p.formula (schedule_of p.plan) (before_round (journal_at p was) p.left ++ K)
  ruled_then = record {
    output = was.first.output;
    unspent = was.first.unspent;
    none = was.first.none;
    last = was.first.last;
    work = was.first.work;
    result = Ok Done;
    ran = begun_then.ran;
    alone = λ other. absurd (other refl);
  }

  abbrev pub through_then : IsRuledThrough p.formula (schedule_of p.plan) (before_round (journal_at p was) p.left ++ K)
  through_then = record { ruled = ruled_then; through = was_done }

-- a plan of a few rings; a round of so many lemmas began where the rings rested, the core was opened with what the ruler left, and its
-- journal goes on with the entries of the rings, each if its ring has it
pub record GoesOn (p : Pause) (was : IsPaused p) (limit : ℕ) (l : Layout) (K : List Entry) (w : View) (s : Seen w) : Type 0 where
  pub on : All (All (IsOn p.formula.vars)) p.formula.clauses
  pub some_ring : 1 ≤ p.plan.threads
  pub few_rings : p.plan.threads ≤ RULER_RING
  pub limit_is : limit ≡ round_limit p.plan.round p.plan.conflicts p.done
  pub table_is : l ≡ layout_of p.plan p.left.vars limit
  pub rings_are : l.rings ≡ p.plan.threads
  pub vars_are : l.vars ≡ p.left.vars
  pub depth_is : l.depth ≡ p.plan.slots
  pub lemmas_are : l.conflicts ≡ limit
  pub layout_is : w.layout ≡ l
  pub opening_is : s.core.opening ≡ began_with p.formula l (has_hints p.plan.format) (journal_at p was) p.left
  pub journal_is : s.core.journal ≡ before_round (journal_at p was) p.left ++ K
  pub of_rings : All (λ e. ring_of e < p.plan.threads) K
  pub wrote : (r : ℕ) → r < p.plan.threads → (s.core.part r).wrote ≡ placed r (length s.core.opening.journal) K
  pub sound : LogSound p.formula.clauses (before_round (journal_at p was) p.left ++ K)
  pub hinted : has_hints p.plan.format ≡ true → AreHinted p.formula.clauses (before_round (journal_at p was) p.left ++ K)

module _ (p : Pause) (was : IsPaused p) (limit : ℕ) (l : Layout) (origin : BookOrigin)
    (on : All (All (IsOn p.formula.vars)) p.formula.clauses) (some_ring : 1 ≤ p.plan.threads) (few_rings : p.plan.threads ≤ RULER_RING)
    (limit_is : limit ≡ round_limit p.plan.round p.plan.conflicts p.done) (table_is : l ≡ layout_of p.plan p.left.vars limit)
    (w : View) (same : IsSameTable (first_view l (began_with p.formula l (has_hints p.plan.format) (journal_at p was) p.left) origin) w) (s : Seen w) where
  abbrev J0 : List Entry
  J0 = journal_at p was

  opening_is : s.core.opening ≡ began_with p.formula l (has_hints p.plan.format) J0 p.left
  opening_is = sym s.opening ∙ same.opening

  rings_are : l.rings ≡ p.plan.threads
  rings_are = ap (λ (x : Layout). x.rings) table_is

  abbrev pub sound : Sound s.core
  sound = left_sound s.core.opening s.core s.left

  -- the entries of the rings
  abbrev pub entries : List Entry
  entries = sound.log.begins.0

  journal_is : s.core.journal ≡ before_round J0 p.left ++ entries
  journal_is = sound.log.begins.1 ∙ ap (λ (o : CoreOpening). o.journal ++ entries) opening_is

  rings_there : s.core.opening.rings ≡ p.plan.threads
  rings_there = ap (λ (o : CoreOpening). o.rings) opening_is ∙ rings_are

  of_rings : All (λ e. ring_of e < p.plan.threads) entries
  of_rings = subst (λ (n : ℕ). All (λ e. ring_of e < n) entries) rings_there sound.log.begins.2

  wrote : (r : ℕ) → r < p.plan.threads → (s.core.part r).wrote ≡ placed r (length s.core.opening.journal) entries
  wrote r lt =
      sound.entries.2 r (subst (λ (n : ℕ). r < n) (sym rings_there) lt)
      ∙ ap (placed r (length s.core.opening.journal)) (same_rest s.core.opening.journal s.core.journal sound.entries.0 entries sound.entries.1 sound.log.begins.1)

  log_sound : LogSound p.formula.clauses (before_round J0 p.left ++ entries)
  log_sound = subst (LogSound p.formula.clauses) journal_is (subst (λ (G : List (List Literal)). LogSound G s.core.journal) (ap (λ (o : CoreOpening). o.formula) opening_is) sound.log.log)

  -- what the rings started from had hints, and so has what they wrote
  hinted : has_hints p.plan.format ≡ true → AreHinted p.formula.clauses (before_round J0 p.left ++ entries)
  hinted q =
      let o : CoreOpening = s.core.opening in
      let formula_is : o.formula ≡ p.formula.clauses = ap (λ (x : CoreOpening). x.formula) opening_is in
      let before : AreHinted o.formula o.journal = subst (λ (x : CoreOpening). AreHinted x.formula x.journal) (sym opening_is) (hinted_begun p.formula.clauses J0 (round_start p.left) (was.hinted q)) in
      let whole : AreHinted o.formula s.core.journal = subst (AreHinted o.formula) (later_whole o s.core.journal sound.log)
      (each_both (IsHinted o.formula) [] o.journal (later o s.core.journal) before (sound.log.hints (ap (λ (x : CoreOpening). x.hinted) opening_is ∙ q))) in
      subst (λ (y : List (List Literal) × List Entry). AreHinted y.0 y.1) (λ i. (formula_is i, journal_is i)) whole

  pub goes_on : GoesOn p was limit l entries w s
  goes_on = record {
    on = on;
    some_ring = some_ring;
    few_rings = few_rings;
    limit_is = limit_is;
    table_is = table_is;
    rings_are = rings_are;
    vars_are = ap (λ (x : Layout). x.vars) table_is;
    depth_is = ap (λ (x : Layout). x.depth) table_is;
    lemmas_are = ap (λ (x : Layout). x.conflicts) table_is;
    layout_is = same.layout;
    opening_is = opening_is;
    journal_is = journal_is;
    of_rings = of_rings;
    wrote = wrote;
    sound = log_sound;
    hinted = hinted;
  }

module _ {S : Type 0} {d : Ghosts S} (written flushed target : S → Option (List ℕ)) (faults : S → ℕ) (sink : S) (plan : Plan) (F : FormulaData) (J0 : List Entry) (left : Simplified) (l : Layout) (origin : BookOrigin)
    (few : left.vars ≤ 2 ^ 30) (vars_are : l.vars ≡ left.vars) (w : View) (same : IsSameTable (first_view l (began_with F l (has_hints plan.format) J0 left) origin) w) (J : List Entry) where
  -- the book has come to the journal
  pub records : (b : Book S d) (fault : Bool) → origin.format ≡ plan.format → origin.faults ≡ faults sink → origin.target ≡ target sink
      → StandsFor account_of (IsLogOf written flushed target faults) b w.origin w.layout w.opening J fault → Records written flushed target faults plan.format sink F.clauses J b
  records b fault format_is faults_are target_is h =
      let formula_is : w.opening.formula ≡ F.clauses = ap (λ (o : CoreOpening). o.formula) same.opening in
      let vars_there : w.layout.vars ≡ left.vars = ap (λ (m : Layout). m.vars) same.layout ∙ vars_are in
      record {
        origin = w.origin;
        layout = w.layout;
        few = subst (λ (n : ℕ). n ≤ 2 ^ 30) (sym vars_there) few;
        format_is = ap (λ (x : BookOrigin). x.format) same.origin ∙ format_is;
        faults_are = ap (λ (x : BookOrigin). x.faults) same.origin ∙ faults_are;
        target_is = ap (λ (x : BookOrigin). x.target) same.origin ∙ target_is;
        log = subst (λ (G : List (List Literal)). IsLogOf written flushed target faults b w.origin w.layout G J) formula_is h.log.sink;
        kept = λ unspent ls is. h.log.kept unspent ls is ∙ ap (λ (G : List (List Literal)). lines G J) formula_is;
      }
