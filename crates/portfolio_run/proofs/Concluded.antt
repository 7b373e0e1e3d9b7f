-- Once all rings ran over an open table and the table was closed, the answer holds over one journal, whose lines the book has.
use Rattle.sat_words.specs.Formats.{has_hints}
use Rattle.io_edge.specs.declared.edge.Sink.{Ghosts}
use Rattle.std.proofs.Common.{◌≡◌, ◌∙◌, ◌+◌, ◌<◌, ◌≤◌, ◌==◌, ℕ, zero, suc, Bool, true, false, true≢false, List, [], ◌∷◌, length, get_or, replicate, map, ne_eqb, refl, sym, ap, subst, arith, inl, inr}
use Rattle.std.specs.Prelude.{◌⊎◌, ◌≢◌, All, Option, Some, is_some}
use mathlib.Core.Option.{some}
use mathlib.Core.Logic.{dite}
use native.Mathlib.Decide.{ℕ_discrete}
use lib.ListN.{get_elem?}
use Rattle.io_edge.specs.Causes.{Rose}
use Rattle.atomic_table.specs.declared.shared.Seat.{Seat}
use Rattle.sat_words.specs.Literal.{IsOn}
use Rattle.sat_words.specs.FormulaData.{FormulaData}
use Rattle.sat_words.specs.declared.shared.TheConstants.{STOP_SAT, STOP_REFUTED, STOP_ROOM, STOP_PROOF, STOP_MEMORY}
use Rattle.rup_model.specs.declared.journal.TheConstants.{RULER_RING}
use Rattle.rup_model.specs.declared.journal.Entry.{Entry}
use Rattle.rup_model.specs.Basics.{one_if}
use Rattle.share_core.specs.declared.part.CoreOpening.{CoreOpening}
use Rattle.share_core.specs.declared.part.Part.{Part}
use Rattle.share_core.proofs.Counting.{none_some, some_same}
use Rattle.core_rounds.specs.InRounds.{round_limit}
use Rattle.share_rule.specs.declared.Layout.{Layout}
use Rattle.share_rule.specs.declared.Shared.{Shared}
use Rattle.share_rule.specs.declared.view.BookOrigin.{BookOrigin}
use Rattle.share_rule.specs.declared.view.RingPart.{RingPart}
use Rattle.share_rule.specs.declared.view.View.{View}
use Rattle.share_rule.specs.Books.{StandsFor}
use Rattle.share_rule.specs.Passes.{TellsFaults}
use Rattle.share_rule.specs.Seen.{Seen}
use Rattle.share_rule.specs.Shown.{ring_of}
use Rattle.share_rule.specs.Views.{first_view, times_in}
use Rattle.log_book.specs.declared.book.Book.{Book}
use Rattle.log_book.specs.Books.{account_of, IsLogOf}
use Rattle.ring_run.specs.declared.job.Counts.{Counts}
use Rattle.ring_run.specs.declared.job.End.{End}
use Rattle.ring_run.specs.declared.job.End.TheVariants.{Spent}
use Rattle.ruler_simp.specs.declared.ruling.Simplified.{Simplified}
use Rattle.portfolio_run.specs.declared.answer.Answer.{Answer}
use Rattle.portfolio_run.specs.declared.answer.Answer.TheVariants.{Sat, Unsat, Unknown, NoHole, ProofFault, Memory}
use Rattle.portfolio_run.specs.declared.plan.Plan.{Plan}
use Rattle.portfolio_run.specs.Held.{no_counts, add_tallies}
use Rattle.portfolio_run.specs.Pauses.{Pause, IsPaused, IsSmall}
use Rattle.portfolio_run.specs.Reached.{Records, HasReached, IsGathered, HaveRested, pause_of}
use Rattle.portfolio_run.specs.Room.{layout_of}
use Rattle.portfolio_run.specs.Searched.{HasRunTo, HasStarved, HasSearched, AllSpent, WasWon}
use Rattle.portfolio_run.specs.Solved.{kind_of}
use Rattle.portfolio_run.proofs.Deciding.{IsDecided, starved, small_at, passed, decided_spent, decided_won}
use Rattle.portfolio_run.proofs.Making.{not_true}
use Rattle.portfolio_run.proofs.Gathered.{GoesOn, began_with, journal_at, entries, goes_on, records}
use Rattle.portfolio_run.proofs.Passed.{HavePassed}
use Rattle.portfolio_run.proofs.RoundOver.{run}
use Rattle.portfolio_run.proofs.Summing.{none_added}

-- the place of a ring's part
pub part_at : (r : ℕ) (ps : List RingPart) → 0 < times_in r (map ring_of ps) → (i : ℕ) × (q : RingPart) × (get_elem? ps i ≡ some q) × (ring_of q ≡ r)
part_at r [] h = absurd (omega arith)
part_at r (q ∷ ps) h = dite (ℕ_discrete (ring_of q) r)
    (λ e. (0, q, refl, e))
    (λ ne. let z : one_if (ring_of q == r) ≡ 0 = ap one_if (ne_eqb (ring_of q) r ne) in let t = part_at r ps (omega arith) in (suc t.0, t.1, t.2, t.3))

-- a fault of the proof alone has its kind
fault_kind : (answer : Answer) → kind_of answer ≡ Some STOP_PROOF → answer ≡ ProofFault
fault_kind (Sat model) e = absurd (let k = some_same STOP_SAT STOP_PROOF e in omega arith)
fault_kind Unsat e = absurd (let k = some_same STOP_REFUTED STOP_PROOF e in omega arith)
fault_kind Unknown e = absurd (none_some STOP_PROOF e)
fault_kind (NoHole lack) e = absurd (let k = some_same STOP_ROOM STOP_PROOF e in omega arith)
fault_kind ProofFault e = refl
fault_kind Memory e = absurd (let k = some_same STOP_MEMORY STOP_PROOF e in omega arith)

two_or_more : (n : ℕ) → 1 ≤ n → n ≢ 1 → 2 ≤ n
two_or_more zero le other = absurd (omega arith)
two_or_more (suc zero) le other = absurd (other refl)
two_or_more (suc (suc n)) le other = omega arith

-- in both cases the passes are gathered
pub gathered_of : {B : Type 0} (t : Shared B) (v : View) (home : List ℕ) (plan : Plan) (vars : ℕ) (left : Simplified) (p : Seat (Option B) View) (before tally : List Counts) (answer : Answer) → HasSearched t v home plan vars left.stack p before tally answer → IsGathered t v p
gathered_of t v home plan vars left p before tally answer (inl h) = h.run.gathered
gathered_of t v home plan vars left p before tally answer (inr h) = h.rested.gathered

module _ {S : Type 0} {d : Ghosts S} (written flushed target : S → Option (List ℕ)) (faults : S → ℕ) (sink : S) (plan : Plan) (F : FormulaData) (old : Book S d) (left : Simplified) (before : List Counts) (done limit : ℕ) (origin : BookOrigin)
    (on : All (All (IsOn F.vars)) F.clauses) (some_ring : 1 ≤ plan.threads) (few_rings : plan.threads ≤ 16)
    (was : IsPaused (pause_of written flushed target faults sink plan F left before done old)) (limit_is : limit ≡ round_limit plan.round plan.conflicts done)
    (l : Layout) (table_is : l ≡ layout_of plan left.vars limit) (t : Shared (Book S d)) (home : List ℕ) (p : Seat (Option (Book S d)) View) (counts : List Counts) (answer : Answer) (s : Seen p.me.0) where
  abbrev pause : Pause
  pause = pause_of written flushed target faults sink plan F left before done old

  abbrev J0 : List Entry
  J0 = journal_at pause was

  abbrev v : View
  v = first_view l (began_with F l (has_hints plan.format) J0 left) origin

  rings_are : l.rings ≡ plan.threads
  rings_are = ap (λ (x : Layout). x.rings) table_is

  few_rings_there : plan.threads ≤ RULER_RING
  few_rings_there = few_rings

  module _ (gathered : IsGathered t v p) where
    abbrev K : List Entry
    K = entries pause was limit l origin on some_ring few_rings_there limit_is table_is p.me.0 gathered.same s

    g : GoesOn pause was limit l K p.me.0 s
    g = goes_on pause was limit l origin on some_ring few_rings_there limit_is table_is p.me.0 gathered.same s

    rings_there : p.me.0.opening.rings ≡ plan.threads
    rings_there = ap (λ (o : CoreOpening). o.rings) gathered.same.opening ∙ rings_are

    -- the table is for the plan's rings
    threads_there : t.layout.rings ≡ plan.threads
    threads_there = ap (λ (x : Layout). x.rings) (sym gathered.pass.0.2 ∙ gathered.same.layout) ∙ rings_are

    idle_at : HaveRested t v p → (r : ℕ) → r < plan.threads → (s.core.part r).wrote ≡ []
    idle_at h r lt =
        let there = part_at r p.me.0.parts (h.gathered.whole r (subst (λ (n : ℕ). r < n) (sym rings_there) lt)) in
        ap (λ (q : Part). q.wrote) (sym ((s.parts there.0 there.1 there.2).part ∙ ap s.core.part there.3)) ∙ (h.idle there.0 there.1 there.2).0

    -- What the rings counted

    -- if all rings were spent the round is passed
    pub passed_there : (h : HasRunTo t v home plan F.vars left.stack p counts answer) → All (λ (e : End × Counts). e.0 ≡ Spent) h.ends → HavePassed plan F left.vars left.stack (add_tallies counts before) (done + limit) (run s) was.runs s.core.journal
    passed_there h spent = passed pause was limit l origin K p.me.0 s g home h.ends (h.run.many ∙ rings_are) h.run.ran counts h.tally_is spent

    -- each ring that ran counted little
    pub small_run : (h : HasRunTo t v home plan F.vars left.stack p counts answer) → (r : ℕ) (e : Counts) → r < length counts → IsSmall plan.threads limit (get_or counts r e)
    small_run h = small_at pause was limit l origin K p.me.0 s g home h.ends (h.run.many ∙ rings_are) h.run.ran counts h.tally_is

    -- The answer

    module _ (b : Book S d) (fault : Bool) (stands : StandsFor account_of (IsLogOf written flushed target faults) b p.me.0.origin p.me.0.layout p.me.0.opening s.core.journal fault) (tells : TellsFaults p.me.0.parts fault)
        (format_is : origin.format ≡ plan.format) (faults_are : origin.faults ≡ faults sink) (target_is : origin.target ≡ target sink) (keeps_are : origin.keeps ≡ plan.keep_lines) where
      abbrev tally : List Counts
      tally = add_tallies counts before

      -- the book has come to the journal
      book_records : Records written flushed target faults plan.format sink F.clauses s.core.journal b
      book_records = records written flushed target faults sink plan F J0 left l origin was.few (ap (λ (x : Layout). x.vars) table_is) p.me.0 gathered.same s.core.journal b fault format_is faults_are target_is stands

      -- if the answer is a fault of the proof, the book's lines are cut short
      abbrev Failed : Type 0
      Failed = b.log.lines.spent ≡ true

      abbrev Calm : Type 0
      Calm = fault ≡ false

      -- a lone ring that did not run was told of no failed write
      calm_idle : HaveRested t v p → plan.threads ≡ 1 → fault ≡ false
      calm_idle h one = not_true fault (λ is. let q = tells.teller is in true≢false (sym q.3 ∙ (h.idle q.0 q.1 q.2).1 (threads_there ∙ one)))

      by_starved : HasStarved t v p (replicate plan.threads no_counts) counts answer → IsDecided plan F answer tally Failed Calm s.core.journal
      by_starved h =
          subst (λ (x : Answer). IsDecided plan F x tally Failed Calm s.core.journal) (sym h.is)
          (starved pause was limit l origin K p.me.0 s g Failed Calm (calm_idle h.rested) tally (ap (λ (cs : List Counts). add_tallies cs before) h.tally_is ∙ none_added plan.threads before was.many) (idle_at h.rested))

      by_ends : (answer ≡ Unknown → done + limit ≡ plan.conflicts) → (h : HasRunTo t v home plan F.vars left.stack p counts answer) → AllSpent h.ends answer ⊎ WasWon p.me.0 F.vars left.stack h.ends answer → IsDecided plan F answer tally Failed Calm s.core.journal
      by_ends last h (inl spent) =
          decided_spent pause was limit l origin K p.me.0 s g home h.ends (h.run.many ∙ rings_are) h.run.ran counts h.tally_is Failed fault tells (h.run.gathered.many ∙ rings_are) (last spent.is) answer spent
      by_ends last h (inr won) =
          decided_won pause was limit l origin K p.me.0 s g home h.ends (h.run.many ∙ rings_are) h.run.ran counts h.tally_is Failed fault (λ e. stands.faulty ∙ e) tells (h.run.gathered.many ∙ rings_are) answer won

      by_search : (answer ≡ Unknown → done + limit ≡ plan.conflicts) → HasSearched t v home plan F.vars left.stack p (replicate plan.threads no_counts) counts answer → IsDecided plan F answer tally Failed Calm s.core.journal
      by_search last (inl h) = by_ends last h h.decided
      by_search last (inr h) = by_starved h

      -- the sink has failed since if the lines are cut short
      sink_failed : b.log.lines.spent ≡ true → Rose (faults sink) (faults b.log.lines.sink)
      sink_failed spent = subst (λ (n : ℕ). Rose n (faults b.log.lines.sink)) (ap (λ (x : BookOrigin). x.faults) gathered.same.origin ∙ faults_are) (stands.log.sink.cut spent).rose

      -- and has not if the book is whole
      sink_still : fault ≡ false → faults b.log.lines.sink ≡ faults sink
      sink_still whole = (book_records.log.whole (stands.faulty ∙ whole)).quiet ∙ book_records.faults_are

      -- lines are kept where that was asked for
      asked : is_some b.log.kept.lines ≡ plan.keep_lines
      asked = stands.log.keeps ∙ ap (λ (o : BookOrigin). o.keeps) gathered.same.origin ∙ keeps_are

      -- all of it
      pub has_reached : (answer ≡ Unknown → done + limit ≡ plan.conflicts) → HasSearched t v home plan F.vars left.stack p (replicate plan.threads no_counts) counts answer → HasReached written flushed target faults sink plan F answer tally b
      has_reached last searched =
          let h = by_search last searched in
          record {
            journal = s.core.journal;
            records = book_records;
            reached = record {
              stands = h.stands;
              ruled = h.ruled.ruled;
              held = h.held;
              rulings = h.rulings;
              again = h.again;
              stop = h.stop;
              holds = h.holds;
              through = λ _. h.ruled;
              faults_fit = record {
                rose = λ e. sink_failed (h.rose (fault_kind answer e));
                calm = λ ne. dite (ℕ_discrete plan.threads 1) (λ one. inl (sink_still (h.calm one ne))) (λ more. inr (two_or_more plan.threads some_ring more, h.running, h.ruled));
              };
            };
            asked = λ _. asked;
          }
