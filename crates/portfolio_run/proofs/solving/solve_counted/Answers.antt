use Rattle.std.proofs.Common.{◌∙◌, sym, subst, ap, Ok, length}
use Rattle.sat_words.specs.Formats.{has_hints}
use Rattle.drat_text.specs.LineState.{LineState}
use Rattle.log_book.specs.Books.{told_new, told_of}
use Rattle.ruler_simp.specs.Ruled.{Ruled}
use Rattle.portfolio_run.specs.Reached.{WasRuled, HasReached}
use Rattle.portfolio_run.specs.Ruled.{schedule_of}
use Rattle.portfolio_run.specs.declared.answer.Answer.{Answer}
use Rattle.portfolio_run.proofs.Ruling.{refuted_book, stopped_book, paused_first}
use Rattle.portfolio_run.proofs.solving.solve_counted.Goals as goal

pub simplify-outcome-requires-clause-plain : goal.simplify-outcome-requires-clause-plain
simplify-outcome-requires-clause-plain g c added = let q = c.requires.1.1.1.1.1.1 in ap (λ (s : LineState). has_hints s.format) c.in-Ok.ensures.told ∙ q.1.1.1.1.1.1.1.1.1.1 added

pub solve_left-requires : goal.solve_left-requires
solve_left-requires g c κs within =
    let w = g.S.Sink.written in
    let f = g.S.Sink.flushed in
    let t = g.S.Sink.target in
    let fa = g.S.Sink.faults in
    let plan = c.args.plan.now in
    let F = c.args.formula.now in
    let b = c.simplify-outcome.result.1 in
    let q = c.requires.1.1.1.1.1.1 in
    let was : WasRuled w f t fa g.given plan F b c.simplify-outcome.result.0 = record {
      empty = q.1.1.1.1.1.1.1.1.0;
      ruled = subst (λ (s : LineState). Ruled F (schedule_of plan) s (told_of w f t fa b) c.simplify-outcome.result.0)
          (c.in-Ok.ensures.told ∙ (λ i. told_new w f t fa plan.format (length (c.clauses.ensures i)) (q.0 i) plan.keep_lines)) c.simplify-outcome.ensures;
    } in
    let paused = paused_first w f t fa g.given plan F b c.simplify-outcome.result.0 c.args.tally.items q.1.1.1.1.1.1.0 q.1.1.1.1.1.1.1.0 q.1.0.0 q.1.1.1.1.1.1.1.1.1.0.0 was c.in-Ok-Simplified.left (c.in-Ok-Simplified.is ∙ ap Ok c.in-Ok-Simplified.field-0-is) in
    (within.0, (within.1.0, (within.1.1, (c.requires.1.1.1.0, (c.requires.1.1.1.1.0, (c.requires.1.1.1.1.1.0, (q.1.0, (q.1.1.0, (q.1.1.1.0, (q.1.1.1.1.0, (q.1.1.1.1.1.0, (q.1.1.1.1.1.1.0, (q.1.1.1.1.1.1.1.0, (q.1.1.1.1.1.1.1.1.0, (paused, (q.1.1.1.1.1.1.1.1.1.0.1, q.1.1.1.1.1.1.1.1.1.1))))))))))))))))

pub finish-requires : goal.finish-requires
finish-requires g c κs within =
    let w = g.S.Sink.written in
    let f = g.S.Sink.flushed in
    let t = g.S.Sink.target in
    let fa = g.S.Sink.faults in
    let plan = c.args.plan.now in
    let F = c.args.formula.now in
    let b = c.simplify-outcome.result.1 in
    let q = c.requires.1.1.1.1.1.1 in
    let was : WasRuled w f t fa g.given plan F b c.simplify-outcome.result.0 = record {
      empty = q.1.1.1.1.1.1.1.1.0;
      ruled = subst (λ (s : LineState). Ruled F (schedule_of plan) s (told_of w f t fa b) c.simplify-outcome.result.0)
          (c.in-Ok.ensures.told ∙ (λ i. told_new w f t fa plan.format (length (c.clauses.ensures i)) (q.0 i) plan.keep_lines)) c.simplify-outcome.ensures;
    } in (
      within,
      refuted_book w f t fa g.given plan F b c.simplify-outcome.result.0 c.args.tally.items q.1.1.1.1.1.1.0 q.1.1.1.1.1.1.1.0 q.1.0.0 q.1.1.1.1.1.1.1.1.1.0.0 was c.has_its_log.ensures.whole c.has_its_log.ensures.cut (c.in-Ok-Refuted.is ∙ ap Ok c.in-Ok-Refuted.field-0-is),
    )

pub finish-requires-in-Err-outcome : goal.finish-requires-in-Err-outcome
finish-requires-in-Err-outcome g c κs within =
    let w = g.S.Sink.written in
    let f = g.S.Sink.flushed in
    let t = g.S.Sink.target in
    let fa = g.S.Sink.faults in
    let plan = c.args.plan.now in
    let F = c.args.formula.now in
    let b = c.simplify-outcome.result.1 in
    let q = c.requires.1.1.1.1.1.1 in
    let was : WasRuled w f t fa g.given plan F b c.simplify-outcome.result.0 = record {
      empty = q.1.1.1.1.1.1.1.1.0;
      ruled = subst (λ (s : LineState). Ruled F (schedule_of plan) s (told_of w f t fa b) c.simplify-outcome.result.0)
          (c.in-Ok.ensures.told ∙ (λ i. told_new w f t fa plan.format (length (c.clauses.ensures i)) (q.0 i) plan.keep_lines)) c.simplify-outcome.ensures;
    } in (
      within,
      subst (λ (a : Answer). HasReached w f t fa g.given plan F a c.args.tally.items b) (sym c.answer_of_stop.ensures)
          (stopped_book w f t fa g.given plan F b c.simplify-outcome.result.0 c.args.tally.items q.1.1.1.1.1.1.0 q.1.1.1.1.1.1.1.0 q.1.0.0 q.1.1.1.1.1.1.1.1.1.0.0 was c.has_its_log.ensures.whole c.has_its_log.ensures.cut c.in-Err-outcome.stop c.in-Err-outcome.is),
    )
