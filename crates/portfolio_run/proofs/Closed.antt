-- The table of a spent round is closed, and the ruler goes on with what it held: the run ends, or the rings rest again.
use Rattle.io_edge.specs.declared.edge.Sink.{Ghosts}
use Rattle.std.proofs.Common.{◌≡◌, ◌≢◌, ◌∙◌, ◌<◌, ◌≤◌, ℕ, zero, suc, Bool, true, false, List, ◌++◌, length, map, replicate, get_or, All, Ok, Err, None, refl, sym, ap, subst, inl, inr, arith, true≢false}
use Rattle.std.specs.Prelude.{◌⊎◌, is_some, Result}
use Rattle.std.specs.declared.option.Option.{Option}
use Rattle.std.specs.Io.KnownBytes.{append_known}
use Rattle.std.proofs.lemmas.Bool.{cases_Bool}
use Rattle.std.proofs.lemmas.List.Elements.{All-append}
use Rattle.io_edge.specs.Causes.{Rose}
use Rattle.io_edge.specs.Paths.{IsEmptyWhereTold}
use Rattle.atomic_table.specs.declared.shared.Seat.{Seat}
use Rattle.sat_words.specs.Formats.{has_hints}
use Rattle.sat_words.specs.Literal.{Literal, IsOn}
use Rattle.sat_words.specs.FormulaData.{FormulaData}
use Rattle.rup_model.specs.declared.journal.Entry.{Entry}
use Rattle.rup_model.specs.Journal.{book, lines, added}
use Rattle.rup_model.specs.NumberedLines.{numbered_lines}
use Rattle.model_stack.specs.declared.stack.Fix.{Fix}
use Rattle.model_stack.specs.Extend.{Lifts}
use Rattle.drat_text.specs.LineState.{LineState}
use Rattle.drat_text.specs.Spelling.{proof_bytes}
use Rattle.drat_text.specs.JournalText.{HasText}
use Rattle.drat_text.specs.declared.stop.LineStop.{LineStop}
use Rattle.share_core.specs.declared.part.CoreOpening.{CoreOpening}
use Rattle.share_core.specs.Sound.{Sound}
use Rattle.share_core.proofs.Leaving.{left_sound}
use Rattle.share_rule.specs.declared.Layout.{Layout}
use Rattle.share_rule.specs.declared.Shared.{Shared}
use Rattle.share_rule.specs.declared.rests.Rest.{Rest}
use Rattle.share_rule.specs.declared.view.BookOrigin.{BookOrigin}
use Rattle.share_rule.specs.declared.view.View.{View}
use Rattle.share_rule.specs.Books.{StandsFor}
use Rattle.share_rule.specs.Passes.{TellsFaults}
use Rattle.share_rule.specs.Rests.{NoneBuild, AreRests, AreListed, TellsRests}
use Rattle.share_rule.specs.Seen.{Seen}
use Rattle.share_rule.specs.Views.{first_view}
use Rattle.log_book.specs.declared.book.Book.{Book}
use Rattle.log_book.specs.Books.{begun, no_byte, account_of, IsLogOf, IsFilled, origin_of, told_new, told_of}
use Rattle.simp_base.specs.WorkState.{known, resumed, unit_cells}
use Rattle.simp_base.specs.Resumed.{Resumes}
use Rattle.ruler_simp.specs.declared.ruling.Outcome.{Outcome}
use Rattle.ruler_simp.specs.declared.ruling.Outcome.TheVariants.{Simplified as LeftOver, Refuted as NoModel}
use Rattle.ruler_simp.specs.declared.ruling.Simplified.{Simplified}
use Rattle.ring_run.specs.declared.job.Counts.{Counts}
use Rattle.ring_run.specs.declared.job.End.{End}
use Rattle.ring_run.specs.declared.job.End.TheVariants.{Spent}
use Rattle.ring_run.specs.Ended.{Cause, IsIntact}
use Rattle.portfolio_run.specs.declared.answer.Answer.{Answer}
use Rattle.portfolio_run.specs.declared.answer.Answer.TheVariants.{Unsat, Unknown, ProofFault, Memory}
use Rattle.portfolio_run.specs.declared.plan.Plan.{Plan}
use Rattle.portfolio_run.specs.Held.{no_counts}
use Rattle.portfolio_run.specs.Pauses.{IsPaused}
use Rattle.portfolio_run.specs.Reached.{Records, HasReached, IsGathered, RanAt, pause_of, stopped_answer, unread_answer}
use Rattle.portfolio_run.specs.Resumed.{cell_of, dropped_of, kept_of, AreLeftAfter, WasStopped, WentOn}
use Rattle.portfolio_run.specs.Room.{layout_of}
use Rattle.portfolio_run.specs.Ruled.{schedule_of}
use Rattle.portfolio_run.specs.Rulings.{AreDropped}
use Rattle.portfolio_run.specs.Searched.{AllSpent, WasWon, HasRunTo, HasSearched}
use Rattle.portfolio_run.specs.Tables.{HasSettled, WasSpent}
use Rattle.portfolio_run.proofs.Appending.{no_byte_there, kept_all}
use Rattle.portfolio_run.proofs.Closing.{rests_long, resumes, are_dropped, lifts}
use Rattle.portfolio_run.proofs.Gathered.{began_with, journal_at, records}
use Rattle.portfolio_run.proofs.GoneOn.{ComesTo, stopped_early, stopped_late, refuted, paused}
use Rattle.portfolio_run.proofs.Passed.{HavePassed}
use Rattle.portfolio_run.proofs.Pausing.{rests_still}
use Rattle.portfolio_run.proofs.Resting.{IsResting, journal_stands, no_memory, failed}
use Rattle.portfolio_run.proofs.RingsRun.{port, cause, calm}
use Rattle.portfolio_run.proofs.RoundOver.{run}
use Rattle.portfolio_run.proofs.Ruling.{LogLaw, CutLaw}
use Rattle.portfolio_run.proofs.Settled.{none_builds}
use Rattle.portfolio_run.proofs.Settling.{none_unknown, searched, gathered, settled_passed}
use Rattle.portfolio_run.proofs.Spelling.{wider}

two_or_more : (n : ℕ) → 1 ≤ n → n ≢ 1 → 2 ≤ n
two_or_more zero le other = absurd (omega arith)
two_or_more (suc zero) le other = absurd (other refl)
two_or_more (suc (suc n)) le other = omega arith

module _ {S : Type 0} {d : Ghosts S} (written flushed target : S → Option (List ℕ)) (faults : S → ℕ) (sink : S) (plan : Plan) (F : FormulaData) (on : All (All (IsOn F.vars)) F.clauses)
    (rings : 1 ≤ plan.threads) (few_rings : plan.threads ≤ 16) (empty : IsEmptyWhereTold (written sink)) (vars : ℕ) (stack : List Fix) (tally : List Counts) (done : ℕ) (t : Shared (Book S d)) (p : Seat (Option (Book S d)) View)
    (w : WasSpent written flushed target faults sink plan F vars stack tally done t p) where
  abbrev h : HasSettled written flushed target faults sink plan F vars stack w.before w.done_before w.limit t p w.counts Unknown
  h = w.settled

  abbrev left : Simplified
  left = h.left

  abbrev was : IsPaused (pause_of written flushed target faults sink plan F h.left w.before w.done_before h.opened.book)
  was = h.opened.was

  -- the journal before the round
  abbrev J0 : List Entry
  J0 = journal_at (pause_of written flushed target faults sink plan F h.left w.before w.done_before h.opened.book) was

  abbrev v : View
  v = first_view t.layout (began_with F t.layout (has_hints plan.format) J0 left) h.opened.origin

  has_searched : HasSearched t v h.home plan F.vars left.stack p (replicate plan.threads no_counts) w.counts Unknown
  has_searched = searched written flushed target faults sink plan F on rings few_rings vars stack w.before w.done_before w.limit t p w.counts Unknown h

  all_gathered : IsGathered t v p
  all_gathered = gathered written flushed target faults sink plan F on rings few_rings vars stack w.before w.done_before w.limit t p w.counts Unknown h

  -- no ring builds a cell
  pub built : NoneBuild p.me.0.parts
  built = none_builds p.me.0.parts all_gathered.settled

  -- each ring was spent

  ran_to : HasRunTo t v h.home plan F.vars left.stack p w.counts Unknown
  ran_to = by has_searched
    where
      by : HasSearched t v h.home plan F.vars left.stack p (replicate plan.threads no_counts) w.counts Unknown → HasRunTo t v h.home plan F.vars left.stack p w.counts Unknown
      by (inl r) = r
      by (inr r) = (let clash : Unknown ≡ Memory = r.is in absurd (cc clash))

  each_spent : All (λ (e : End × Counts). e.0 ≡ Spent) ran_to.ends
  each_spent = by ran_to.decided
    where
      by : AllSpent ran_to.ends Unknown ⊎ WasWon p.me.0 F.vars left.stack ran_to.ends Unknown → All (λ (e : End × Counts). e.0 ≡ Spent) ran_to.ends
      by (inl spent) = spent.each
      by (inr won) = (let e : End × Counts = (Spent, no_counts) in absurd (none_unknown F.vars left.stack (get_or ran_to.ends won.ring e).0 won.won.kind (won.won.decided e) (won.is e)))

  rings_are : v.opening.rings ≡ plan.threads
  rings_are = ap (λ (l : Layout). l.rings) h.opened.layout_is

  -- the end of the first ring
  abbrev end : End × Counts
  end = get_or ran_to.ends 0 (Spent, no_counts)

  some_end : 0 < length ran_to.ends
  some_end = (let many = ran_to.run.many in let are = rings_are in omega (arith, many, are, rings))

  end_is : end.0 ≡ Spent
  end_is = each_spent 0 (Spent, no_counts) some_end

  ran : RanAt v h.home plan p.me.0 0 end.0 end.1
  ran = ran_to.run.ran 0 (Spent, no_counts) some_end

  module _ (s : Seen p.me.0) where
    -- the journal after it
    abbrev J : List Entry
    J = s.core.journal

    passed : HavePassed plan F vars stack tally done (run s) was.runs J
    passed =
        subst (λ (y : (ℕ × List Fix) × (List Counts × ℕ)). HavePassed plan F y.0.0 y.0.1 y.1.0 y.1.1 (run s) was.runs J) (λ i. ((sym h.vars_is i, sym h.stack_is i), (sym w.tally_is i, sym w.done_is i)))
        (settled_passed written flushed target faults sink plan F on rings few_rings vars stack w.before w.done_before w.limit t p w.counts Unknown h s refl)

    core : Sound s.core
    core = left_sound s.core.opening s.core s.left

    opening_is : s.core.opening ≡ began_with F t.layout (has_hints plan.format) J0 left
    opening_is = sym s.opening ∙ all_gathered.same.opening

    rings_there : s.core.opening.rings ≡ plan.threads
    rings_there = ap (λ (o : CoreOpening). o.rings) opening_is ∙ rings_are

    below : 0 < s.core.opening.rings
    below = (let are = rings_there in omega (arith, are, rings))

    -- a lone ring that is spent was told of no failed write
    calm_alone : (fault : Bool) → TellsFaults p.me.0.parts fault → plan.threads ≡ 1 → fault ≡ false
    calm_alone fault tells one =
        let lt : 0 < plan.threads = rings in
        let wrote = core.entries.2 0 below in
        let intact : IsIntact (port v p.me.0 h.home plan s 0 end.0 end.1 ran plan.threads rings_are lt core.entries.0 (length s.core.opening.journal) wrote) =
        subst (Cause (port v p.me.0 h.home plan s 0 end.0 end.1 ran plan.threads rings_are lt core.entries.0 (length s.core.opening.journal) wrote)) end_is
        (cause v p.me.0 h.home plan s 0 end.0 end.1 ran plan.threads rings_are lt core.entries.0 (length s.core.opening.journal) wrote) in
        calm v p.me.0 h.home plan s 0 end.0 end.1 ran plan.threads rings_are lt core.entries.0 (length s.core.opening.journal) wrote one (all_gathered.many ∙ rings_are ∙ one) fault tells intact.usable

    module _ (more : done < plan.conflicts) (b : Book S d) (fault : Bool) (stands : StandsFor account_of (IsLogOf written flushed target faults) b p.me.0.origin p.me.0.layout p.me.0.opening J fault) (tells : TellsFaults p.me.0.parts fault) where
      origin_is : p.me.0.origin ≡ h.opened.origin
      origin_is = all_gathered.same.origin

      formula_is : p.me.0.opening.formula ≡ F.clauses
      formula_is = ap (λ (o : CoreOpening). o.formula) all_gathered.same.opening

      -- the book has come to the journal
      book_records : Records written flushed target faults plan.format sink F.clauses J b
      book_records =
          records written flushed target faults sink plan F J0 left t.layout h.opened.origin was.few (ap (λ (l : Layout). l.vars) h.opened.layout_is) p.me.0 all_gathered.same J b fault
          h.opened.format_is h.opened.faults_are h.opened.target_is stands

      asked : is_some b.log.kept.lines ≡ plan.keep_lines
      asked = stands.log.keeps ∙ ap (λ (o : BookOrigin). o.keeps) origin_is ∙ h.opened.keeps_are

      still : fault ≡ false → faults b.log.lines.sink ≡ faults sink
      still whole = (book_records.log.whole (stands.faulty ∙ whole)).quiet ∙ book_records.faults_are

      rested : IsResting plan F tally None J
      rested = rests_still plan F vars stack tally done (run s) was.runs J passed more

      -- Nothing was told, for want of memory

      closed_memory : fault ≡ false → HasReached written flushed target faults sink plan F Memory tally b
      closed_memory unbroken = record {
        journal = J;
        records = book_records;
        reached = no_memory plan F tally None J rested (faults sink) (faults b.log.lines.sink) passed.going (still unbroken);
        asked = λ _. asked;
      }

      -- A line had failed

      pub closed_broken : fault ≡ true → HasReached written flushed target faults sink plan F ProofFault tally b
      closed_broken broken = record {
        journal = J;
        records = book_records;
        reached = failed plan F tally None J rested (faults sink) (faults b.log.lines.sink) (subst (λ (n : ℕ). Rose n (faults b.log.lines.sink)) book_records.faults_are (book_records.log.cut (stands.faulty ∙ broken)).rose);
        asked = λ _. asked;
      }

      -- either, as nothing was told for want of memory
      pub closed_unread : HasReached written flushed target faults sink plan F (unread_answer b.log.lines.spent) tally b
      closed_unread = elim (cases_Bool fault) as (λ _. HasReached written flushed target faults sink plan F (unread_answer b.log.lines.spent) tally b) [
        | inl q ↦ subst (λ (failed : Bool). HasReached written flushed target faults sink plan F (unread_answer failed) tally b) (sym (stands.faulty ∙ q)) (closed_broken q)
        | inr q ↦ subst (λ (failed : Bool). HasReached written flushed target faults sink plan F (unread_answer failed) tally b) (sym (stands.faulty ∙ q)) (closed_memory q)
      ]

      -- None had

      module _ (unbroken : fault ≡ false) (held : List Rest) (units : List (Literal × ℕ)) (tells_rests : TellsRests s.core s.glue fault held units) where
        told : AreRests s.core s.glue held × AreListed s.core units
        told = subst (λ (f : Bool). TellsRests s.core s.glue f held units) unbroken tells_rests

        unspent : b.log.lines.spent ≡ false
        unspent = stands.faulty ∙ unbroken

        abbrev before : LineState
        before = told_new written flushed target faults plan.format (length F.clauses) sink plan.keep_lines

        abbrev old : LineState
        old = told_of written flushed target faults b

        last_is : suc b.log.lines.last ≡ (book F.clauses J).next
        last_is = stands.log.last ∙ ap (λ (G : List (List Literal)). (book G J).next) formula_is

        all_on : All (All (IsOn left.vars)) (F.clauses ++ added J)
        all_on = subst (λ (n : ℕ). All (All (IsOn n)) (F.clauses ++ added J)) h.vars_is (All-append (All (IsOn vars)) F.clauses (added J) (wider F.vars vars passed.more F.clauses on) passed.stood.on)

        log_there : IsLogOf written flushed target faults b p.me.0.origin p.me.0.layout F.clauses J
        log_there = subst (λ (G : List (List Literal)). IsLogOf written flushed target faults b p.me.0.origin p.me.0.layout G J) formula_is stands.log.sink

        format_there : p.me.0.origin.format ≡ plan.format
        format_there = ap (λ (o : BookOrigin). o.format) origin_is ∙ h.opened.format_is

        -- the lines are spelled as the plan says
        pub format_old : old.format ≡ plan.format
        format_old = (log_there.whole unspent).format ∙ format_there

        resumes_there : Resumes F.clauses left.vars (map cell_of held ++ unit_cells units) units left.stack old J
        resumes_there =
            let last = last_is in
            resumes F left t.layout (has_hints plan.format) J0 was.is_left p.me.0 s opening_is all_gathered.whole all_gathered.settled held units told.0 told.1 old stands.log.entries (omega (arith, last)) all_on passed.going (λ q. passed.hinted (ap has_hints (sym format_old) ∙ q))

        pub left_after : AreLeftAfter F.clauses vars held units stack old J
        left_after =
            subst (λ (y : ℕ × List Fix). AreLeftAfter F.clauses y.0 held units y.1 old J) (λ i. (sym h.vars_is i, sym h.stack_is i))
            (resumes_there, rests_long F left t.layout (has_hints plan.format) J0 was.is_left p.me.0 s opening_is all_gathered.whole all_gathered.settled held units told.0 told.1)

        dropped : AreDropped (run s) (dropped_of held)
        dropped = are_dropped F left t.layout (has_hints plan.format) J0 was.is_left p.me.0 s opening_is all_gathered.whole all_gathered.settled held units told.0 told.1 v h.home plan 0 end.0 end.1 ran all_gathered.same.opening below (run s) refl

        lifts_there : (out : LineState) → Lifts F.clauses (known (resumed vars (kept_of held ++ unit_cells units) units stack out)) stack
        lifts_there out =
            subst (λ (y : ℕ × List Fix). Lifts F.clauses (known (resumed y.0 (kept_of held ++ unit_cells units) units y.1 out)) y.1) (λ i. (sym h.vars_is i, sym h.stack_is i))
            (lifts F left t.layout (has_hints plan.format) J0 was.is_left p.me.0 s opening_is all_gathered.whole all_gathered.settled held units told.0 told.1 v h.home plan 0 end.0 end.1 ran all_gathered.same.opening below out)

        -- the output has the lines since the first

        tells_there : p.me.0.origin.tells ≡ is_some (written sink)
        tells_there = ap (λ (o : BookOrigin). o.tells) origin_is ∙ h.opened.tells_is

        text_there : HasText (begun F.clauses before) J old
        text_there =
            let text = log_there.whole unspent in
            record {
              quiet = text.quiet ∙ ap (λ (o : BookOrigin). o.faults) origin_is ∙ h.opened.faults_are;
              format = format_old;
              bytes =
                  text.bytes
                  ∙ (λ i. append_known (no_byte (tells_there i)) (proof_bytes (format_there i) (numbered_lines F.clauses J)))
                  ∙ (λ i. append_known (sym (no_byte_there (written sink) empty) i) (proof_bytes plan.format (numbered_lines F.clauses J)));
              kept = kept_all b.log.kept.lines plan.keep_lines (lines F.clauses J) asked (book_records.kept unspent);
            }

        filled_there : IsFilled (begun F.clauses before) J old
        filled_there = record {
          unspent = unspent;
          entries = stands.log.entries;
          last = last_is;
          text = text_there;
          target = log_there.target_is ∙ ap (λ (o : BookOrigin). o.target) origin_is ∙ h.opened.target_is;
          flushed = log_there.flushed_is ∙ ap (λ (o : BookOrigin). o.flushed) origin_is ∙ h.opened.flushed_is;
          spelled = (journal_stands plan F tally None J rested).spelled;
        }

        -- the ruler went on with the book
        module _ (new : Book S d) (law : LogLaw written flushed target faults new) (cut : CutLaw written flushed target faults new) (result : Result Outcome LineStop)
            (went : WentOn F.clauses (schedule_of plan) vars held units stack old (told_of written flushed target faults new) result) where
          abbrev now : LineState
          now = told_of written flushed target faults new

          module _ (answer : Answer) (c : ComesTo plan F answer tally before now) where
            records_whole : new.log.lines.spent ≡ false → Records written flushed target faults plan.format sink F.clauses c.journal new
            records_whole q =
                let l = law F.clauses c.journal (layout_of plan c.vars 0) plan.format sink plan.keep_lines empty (c.filled q) in
                record { origin = origin_of written flushed target faults new; layout = layout_of plan c.vars 0; few = c.few; format_is = l.1.format_is; faults_are = l.1.faults_are; target_is = l.1.target_is; log = l.0.sink; kept = l.0.kept }

            records_cut : new.log.lines.spent ≡ true → Records written flushed target faults plan.format sink F.clauses c.journal new
            records_cut q =
                let l = cut F.clauses c.journal (layout_of plan c.vars 0) plan.format sink plan.keep_lines empty (c.cut q) in
                record { origin = l.origin; layout = layout_of plan c.vars 0; few = c.few; format_is = l.format_is; faults_are = l.faults_are; target_is = l.target_is; log = l.log; kept = λ unbroken. absurd (true≢false (sym q ∙ unbroken)) }

            book_reached : HasReached written flushed target faults sink plan F answer tally new
            book_reached = record {
              journal = c.journal;
              records = elim (cases_Bool new.log.lines.spent) as (λ _. Records written flushed target faults plan.format sink F.clauses c.journal new) [
                | inl q ↦ records_cut q
                | inr q ↦ records_whole q
              ];
              reached = c.reached;
              asked = λ q. (law F.clauses c.journal (layout_of plan c.vars 0) plan.format sink plan.keep_lines empty (c.filled q)).1.keeps;
            }

          early : (stop : LineStop) → result ≡ Err stop → (e : WasStopped F.clauses vars held units stack old now result) → ComesTo plan F (stopped_answer stop) tally before now
          early stop is e =
              let same : e.stop ≡ stop = (let both : Err e.stop ≡ Err stop = sym e.is ∙ is in cc both) in
              subst (λ (x : LineStop). ComesTo plan F (stopped_answer x) tally before now) same
              (stopped_early plan F vars stack tally done (run s) was.runs J passed more held units dropped before old refl filled_there left_after now result e)

          pub over_stopped : (stop : LineStop) → result ≡ Err stop → HasReached written flushed target faults sink plan F (stopped_answer stop) tally new
          over_stopped stop is = book_reached (stopped_answer stop) (by went)
            where
              by : WentOn F.clauses (schedule_of plan) vars held units stack old now result → ComesTo plan F (stopped_answer stop) tally before now
              by (inl e) = early stop is e
              by (inr e) = stopped_late plan F vars stack tally done (run s) was.runs J passed more held units dropped before old refl filled_there left_after now result e stop is

          pub over_refuted : result ≡ Ok NoModel → HasReached written flushed target faults sink plan F Unsat tally new
          over_refuted is = book_reached Unsat (by went)
            where
              by : WentOn F.clauses (schedule_of plan) vars held units stack old now result → ComesTo plan F Unsat tally before now
              by (inl e) = (let clash : Ok NoModel ≡ Err e.stop = sym is ∙ e.is in absurd (cc clash))
              by (inr e) = refuted plan F vars stack tally done (run s) was.runs J passed more held units dropped before old refl filled_there left_after now result e is

          pub paused_again : (l : Simplified) → result ≡ Ok (LeftOver l) → IsPaused (pause_of written flushed target faults sink plan F l tally done new)
          paused_again l is = by went
            where
              by : WentOn F.clauses (schedule_of plan) vars held units stack old now result → IsPaused (pause_of written flushed target faults sink plan F l tally done new)
              by (inl e) = (let clash : Ok (LeftOver l) ≡ Err e.stop = sym is ∙ e.is in absurd (cc clash))
              by (inr e) = paused plan F vars stack tally done (run s) was.runs J passed more held units dropped before old refl filled_there left_after now result e l is (lifts_there e.middle)
