use Rattle.std.proofs.Common.{◌≡◌, ◌∙◌, ◌+◌, ℕ, List, length, replicate, refl, ap, sym, subst, true≢false}
use Rattle.std.proofs.lemmas.Result.{IfOk-weaker, IfErr-weaker}
use Rattle.ring_pass.specs.RingState.{home_of}
use Rattle.ring_run.specs.declared.job.Counts.{Counts}
use Rattle.portfolio_run.specs.declared.answer.Answer.{Answer}
use Rattle.portfolio_run.specs.declared.answer.Answer.TheVariants.{Unknown}
use Rattle.portfolio_run.specs.Held.{no_counts}
use Rattle.portfolio_run.specs.Reached.{HasReached}
use Rattle.portfolio_run.specs.Tables.{HasSettled}
use Rattle.portfolio_run.proofs.Settling.{has_settled, gathered, settled_reached, settled_all, settled_small, settled_many, settled_tally}
use Rattle.portfolio_run.proofs.Tabling.{first_rights, first_hinted}
use Rattle.portfolio_run.proofs.rounds.run_table.Goals as goal

pub search-answer-requires-clause-first : goal.search-answer-requires-clause-first
search-answer-requires-clause-first g c κs within = let o = c.requires.1.1.1.1.1.1.1.1.1.1.1.1.0 in first_rights c.args.opened.0 c.args.opened.1 _ _ _ o.pass o.me

pub search-answer-requires-clause-hinted : goal.search-answer-requires-clause-hinted
search-answer-requires-clause-hinted g c κs within = let o = c.requires.1.1.1.1.1.1.1.1.1.1.1.1.0 in first_hinted c.args.opened.1 _ _ _ o.me

pub add_counts-requires-clause-small : goal.add_counts-requires-clause-small
add_counts-requires-clause-small g c = λ ring d lt.
    let q = c.requires.1.1.1.1.1.1 in
    let h = has_settled g.S.Sink.written g.S.Sink.flushed g.S.Sink.target g.S.Sink.faults g.known c.args.plan.now c.args.formula.now c.args.left c.args.tally.items c.args.done c.args.limit c.args.opened.0 c.args.opened.1 c.args.opened.2.items (home_of c.args.opened.1) c.search-answer.new.first c.args.counts.items c.search-answer.new.tally.items c.search-answer.result q.1.1.1.1.1.1.0 q.1.1.1.1.1.1.1.0 c.search-answer.ensures in
    settled_small g.S.Sink.written g.S.Sink.flushed g.S.Sink.target g.S.Sink.faults g.known c.args.plan.now c.args.formula.now q.1.1.1.1.0 q.0.0 q.0.1 c.args.left.vars c.args.left.stack c.args.tally.items c.args.done c.args.limit c.args.opened.0 c.search-answer.new.first c.search-answer.new.tally.items c.search-answer.result h q.1.0 ring d lt

pub close-requires-clause-pass : goal.close-requires-clause-pass
close-requires-clause-pass g c =
    let q = c.requires.1.1.1.1.1.1 in
    let h = has_settled g.S.Sink.written g.S.Sink.flushed g.S.Sink.target g.S.Sink.faults g.known c.args.plan.now c.args.formula.now c.args.left c.args.tally.items c.args.done c.args.limit c.args.opened.0 c.args.opened.1 c.args.opened.2.items (home_of c.args.opened.1) c.search-answer.new.first c.args.counts.items c.search-answer.new.tally.items c.search-answer.result q.1.1.1.1.1.1.0 q.1.1.1.1.1.1.1.0 c.search-answer.ensures in
    (gathered g.S.Sink.written g.S.Sink.flushed g.S.Sink.target g.S.Sink.faults g.known c.args.plan.now c.args.formula.now q.1.1.1.1.0 q.0.0 q.0.1 c.args.left.vars c.args.left.stack c.args.tally.items c.args.done c.args.limit c.args.opened.0 c.search-answer.new.first c.search-answer.new.tally.items c.search-answer.result h).pass

pub returns-then-not-is_passed-clause-over : goal.returns-then-not-is_passed-clause-over
returns-then-not-is_passed-clause-over g c =
    let q = c.requires.1.1.1.1.1.1 in
    let h = has_settled g.S.Sink.written g.S.Sink.flushed g.S.Sink.target g.S.Sink.faults g.known c.args.plan.now c.args.formula.now c.args.left c.args.tally.items c.args.done c.args.limit c.args.opened.0 c.args.opened.1 c.args.opened.2.items (home_of c.args.opened.1) c.search-answer.new.first c.args.counts.items c.search-answer.new.tally.items c.search-answer.result q.1.1.1.1.1.1.0 q.1.1.1.1.1.1.1.0 c.search-answer.ensures in
    let e = c.close.ensures in
    let last : c.search-answer.result ≡ Unknown → c.args.done + c.args.limit ≡ c.args.plan.now.conflicts = λ is.
    settled_all g.S.Sink.written g.S.Sink.flushed g.S.Sink.target g.S.Sink.faults g.known c.args.plan.now c.args.formula.now q.1.1.1.1.0 q.0.0 q.0.1 c.args.left.vars c.args.left.stack c.args.tally.items c.args.done c.args.limit c.args.opened.0 c.search-answer.new.first c.search-answer.new.tally.items c.search-answer.result h (λ lt. true≢false (sym (c.is_passed.ensures.1 (is, lt)) ∙ c.if-not-is_passed.true)) in
    subst (λ (cs : List Counts). HasReached g.S.Sink.written g.S.Sink.flushed g.S.Sink.target g.S.Sink.faults g.known c.args.plan.now c.args.formula.now c.search-answer.result cs c.close.result) (sym c.add_counts.ensures.added)
    (settled_reached g.S.Sink.written g.S.Sink.flushed g.S.Sink.target g.S.Sink.faults g.known c.args.plan.now c.args.formula.now q.1.1.1.1.0 q.0.0 q.0.1 c.args.left.vars c.args.left.stack c.args.tally.items c.args.done c.args.limit c.args.opened.0 c.search-answer.new.first c.search-answer.new.tally.items c.search-answer.result h c.close.result e.0 e.1 e.2 e.3 last)

pub returns-then-not-is_passed-clause-counted : goal.returns-then-not-is_passed-clause-counted
returns-then-not-is_passed-clause-counted g c =
    let q = c.requires.1.1.1.1.1.1 in
    let h = has_settled g.S.Sink.written g.S.Sink.flushed g.S.Sink.target g.S.Sink.faults g.known c.args.plan.now c.args.formula.now c.args.left c.args.tally.items c.args.done c.args.limit c.args.opened.0 c.args.opened.1 c.args.opened.2.items (home_of c.args.opened.1) c.search-answer.new.first c.args.counts.items c.search-answer.new.tally.items c.search-answer.result q.1.1.1.1.1.1.0 q.1.1.1.1.1.1.1.0 c.search-answer.ensures in
    ap (λ (cs : List Counts). length cs) c.add_counts.ensures.added ∙ settled_tally g.S.Sink.written g.S.Sink.flushed g.S.Sink.target g.S.Sink.faults g.known c.args.plan.now c.args.formula.now q.1.1.1.1.0 q.0.0 q.0.1 c.args.left.vars c.args.left.stack c.args.tally.items c.args.done c.args.limit c.args.opened.0 c.search-answer.new.first c.search-answer.new.tally.items c.search-answer.result h

pub pause-requires : goal.pause-requires
pause-requires g c κs within =
    let q = c.requires.1.1.1.1.1.1 in
    let h = has_settled g.S.Sink.written g.S.Sink.flushed g.S.Sink.target g.S.Sink.faults g.known c.args.plan.now c.args.formula.now c.args.left c.args.tally.items c.args.done c.args.limit c.args.opened.0 c.args.opened.1 c.args.opened.2.items (home_of c.args.opened.1) c.search-answer.new.first c.args.counts.items c.search-answer.new.tally.items c.search-answer.result q.1.1.1.1.1.1.0 q.1.1.1.1.1.1.1.0 c.search-answer.ensures in
    let many = settled_many g.S.Sink.written g.S.Sink.flushed g.S.Sink.target g.S.Sink.faults g.known c.args.plan.now c.args.formula.now q.1.1.1.1.0 q.0.0 q.0.1 c.args.left.vars c.args.left.stack c.args.tally.items c.args.done c.args.limit c.args.opened.0 c.search-answer.new.first c.search-answer.new.tally.items c.search-answer.result h in
    let passed = c.is_passed.ensures.0 c.if-not-is_passed.false in (
      within,
      (
        q.0,
        (
          q.1.0,
          (
            q.1.1.1.0,
            (
              q.1.1.1.1.0,
              (
                q.1.1.1.1.1.0,
                (
                  record {
                    before = c.args.tally.items;
                    done_before = c.args.done;
                    limit = c.args.limit;
                    counts = c.search-answer.new.tally.items;
                    settled = subst (λ (x : Answer). HasSettled g.S.Sink.written g.S.Sink.flushed g.S.Sink.target g.S.Sink.faults g.known c.args.plan.now c.args.formula.now c.args.left.vars c.args.left.stack c.args.tally.items c.args.done c.args.limit c.args.opened.0 c.search-answer.new.first c.search-answer.new.tally.items x) passed.0 h;
                    tally_is = c.add_counts.ensures.added;
                    done_is = refl;
                  },
                  (passed.1, (c.add_counts.ensures.none ∙ ap (λ (n : ℕ). replicate n no_counts) many, q.1.1.1.1.1.1.1.1)),
                ),
              ),
            ),
          ),
        ),
      ),
    )

pub returns-clause-none : goal.returns-clause-none
returns-clause-none g c =
    let q = c.requires.1.1.1.1.1.1 in
    let h = has_settled g.S.Sink.written g.S.Sink.flushed g.S.Sink.target g.S.Sink.faults g.known c.args.plan.now c.args.formula.now c.args.left c.args.tally.items c.args.done c.args.limit c.args.opened.0 c.args.opened.1 c.args.opened.2.items (home_of c.args.opened.1) c.search-answer.new.first c.args.counts.items c.search-answer.new.tally.items c.search-answer.result q.1.1.1.1.1.1.0 q.1.1.1.1.1.1.1.0 c.search-answer.ensures in
    let many = settled_many g.S.Sink.written g.S.Sink.flushed g.S.Sink.target g.S.Sink.faults g.known c.args.plan.now c.args.formula.now q.1.1.1.1.0 q.0.0 q.0.1 c.args.left.vars c.args.left.stack c.args.tally.items c.args.done c.args.limit c.args.opened.0 c.search-answer.new.first c.search-answer.new.tally.items c.search-answer.result h in
    IfOk-weaker c.pause.result _ _ (λ x s. s.1 ∙ c.add_counts.ensures.none ∙ ap (λ (n : ℕ). replicate n no_counts) many) c.pause.ensures.same

pub returns-clause-counted : goal.returns-clause-counted
returns-clause-counted g c =
    let q = c.requires.1.1.1.1.1.1 in
    let h = has_settled g.S.Sink.written g.S.Sink.flushed g.S.Sink.target g.S.Sink.faults g.known c.args.plan.now c.args.formula.now c.args.left c.args.tally.items c.args.done c.args.limit c.args.opened.0 c.args.opened.1 c.args.opened.2.items (home_of c.args.opened.1) c.search-answer.new.first c.args.counts.items c.search-answer.new.tally.items c.search-answer.result q.1.1.1.1.1.1.0 q.1.1.1.1.1.1.1.0 c.search-answer.ensures in
    let long : length c.add_counts.new.tally.items ≡ c.args.plan.now.threads = ap (λ (cs : List Counts). length cs) c.add_counts.ensures.added ∙ settled_tally g.S.Sink.written g.S.Sink.flushed g.S.Sink.target g.S.Sink.faults g.known c.args.plan.now c.args.formula.now q.1.1.1.1.0 q.0.0 q.0.1 c.args.left.vars c.args.left.stack c.args.tally.items c.args.done c.args.limit c.args.opened.0 c.search-answer.new.first c.search-answer.new.tally.items c.search-answer.result h in
    IfErr-weaker c.pause.result _ _ (λ x s. ap (λ (cs : List Counts). length cs) s ∙ long) c.pause.ensures.counted
