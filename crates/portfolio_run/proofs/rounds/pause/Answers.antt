use Rattle.std.proofs.Common.{◌∙◌, sym, ap, subst, Ok}
use Rattle.sat_words.specs.Formats.{has_hints}
use Rattle.portfolio_run.specs.Reached.{HasReached}
use Rattle.portfolio_run.specs.declared.answer.Answer.{Answer}
use Rattle.portfolio_run.proofs.Closed.{built, closed_broken, closed_unread, format_old, left_after, over_stopped, over_refuted, paused_again}
use Rattle.portfolio_run.proofs.rounds.pause.Goals as goal

pub close_round-requires-clause-built : goal.close_round-requires-clause-built
close_round-requires-clause-built g c =
    let a = c.args in
    let r = c.requires.1 in
    built g.S.Sink.written g.S.Sink.flushed g.S.Sink.target g.S.Sink.faults g.known a.plan.now a.formula.now r.1.1.1.0 r.0.0 r.0.1 r.1.1.1.1.0 a.vars a.stack a.tally.items a.done a.table a.first r.1.1.1.1.1.0

pub returns-in-Err-clause-over : goal.returns-in-Err-clause-over
returns-in-Err-clause-over g c =
    let a = c.args in
    let r = c.requires.1 in
    let t = c.in-Err.ensures.back in
    subst (λ (x : Answer). HasReached g.S.Sink.written g.S.Sink.flushed g.S.Sink.target g.S.Sink.faults g.known a.plan.now a.formula.now x a.tally.items c.in-Err.refused.value) (sym c.unread_answer.ensures)
    (closed_unread g.S.Sink.written g.S.Sink.flushed g.S.Sink.target g.S.Sink.faults g.known a.plan.now a.formula.now r.1.1.1.0 r.0.0 r.0.1 r.1.1.1.1.0 a.vars a.stack a.tally.items a.done a.table a.first r.1.1.1.1.1.0
    t.0 r.1.1.1.1.1.1.0 c.in-Err.refused.value t.1 t.2 t.3)

pub returns-then-is_broken-clause-over : goal.returns-then-is_broken-clause-over
returns-then-is_broken-clause-over g c =
    let a = c.args in
    let r = c.requires.1 in
    let t = c.in-Ok.ensures.closed in
    closed_broken g.S.Sink.written g.S.Sink.flushed g.S.Sink.target g.S.Sink.faults g.known a.plan.now a.formula.now r.1.1.1.0 r.0.0 r.0.1 r.1.1.1.1.0 a.vars a.stack a.tally.items a.done a.table a.first r.1.1.1.1.1.0
    t.0 r.1.1.1.1.1.1.0 c.in-Ok.closed.book t.1 t.2 t.3 (sym t.2.faulty ∙ sym c.is_broken.ensures ∙ c.if-is_broken.true)

pub resume-outcome-requires-clause-plain : goal.resume-outcome-requires-clause-plain
resume-outcome-requires-clause-plain g c added =
    let a = c.args in
    let r = c.requires.1 in
    let t = c.in-Ok.ensures.closed in
    ap has_hints (format_old g.S.Sink.written g.S.Sink.flushed g.S.Sink.target g.S.Sink.faults g.known a.plan.now a.formula.now r.1.1.1.0 r.0.0 r.0.1 r.1.1.1.1.0 a.vars a.stack a.tally.items a.done a.table a.first r.1.1.1.1.1.0
    t.0 r.1.1.1.1.1.1.0 c.in-Ok.closed.book t.1 t.2 t.3 (sym t.2.faulty ∙ sym c.is_broken.ensures ∙ c.if-is_broken.false) c.in-Ok.closed.rests.items c.in-Ok.closed.units.items t.4)
    ∙ r.1.1.1.1.1.1.1.1 added

pub resume-outcome-requires-clause-left : goal.resume-outcome-requires-clause-left
resume-outcome-requires-clause-left g c =
    let a = c.args in
    let r = c.requires.1 in
    let t = c.in-Ok.ensures.closed in (
      t.0.core.journal,
      left_after g.S.Sink.written g.S.Sink.flushed g.S.Sink.target g.S.Sink.faults g.known a.plan.now a.formula.now r.1.1.1.0 r.0.0 r.0.1 r.1.1.1.1.0 a.vars a.stack a.tally.items a.done a.table a.first r.1.1.1.1.1.0
          t.0 r.1.1.1.1.1.1.0 c.in-Ok.closed.book t.1 t.2 t.3 (sym t.2.faulty ∙ sym c.is_broken.ensures ∙ c.if-is_broken.false) c.in-Ok.closed.rests.items c.in-Ok.closed.units.items t.4,
    )

pub returns-in-Ok-Simplified-clause-paused : goal.returns-in-Ok-Simplified-clause-paused
returns-in-Ok-Simplified-clause-paused g c =
    let a = c.args in
    let r = c.requires.1 in
    let t = c.in-Ok.ensures.closed in
    paused_again g.S.Sink.written g.S.Sink.flushed g.S.Sink.target g.S.Sink.faults g.known a.plan.now a.formula.now r.1.1.1.0 r.0.0 r.0.1 r.1.1.1.1.0 a.vars a.stack a.tally.items a.done a.table a.first r.1.1.1.1.1.0
    t.0 r.1.1.1.1.1.1.0 c.in-Ok.closed.book t.1 t.2 t.3 (sym t.2.faulty ∙ sym c.is_broken.ensures ∙ c.if-is_broken.false) c.in-Ok.closed.rests.items c.in-Ok.closed.units.items t.4
    c.resume-outcome.result.1 c.has_its_log.ensures.whole c.has_its_log.ensures.cut c.resume-outcome.result.0 c.resume-outcome.ensures c.in-Ok-Simplified.left (c.in-Ok-Simplified.is ∙ ap Ok c.in-Ok-Simplified.field-0-is)

pub returns-in-Ok-Refuted-clause-over : goal.returns-in-Ok-Refuted-clause-over
returns-in-Ok-Refuted-clause-over g c =
    let a = c.args in
    let r = c.requires.1 in
    let t = c.in-Ok.ensures.closed in
    over_refuted g.S.Sink.written g.S.Sink.flushed g.S.Sink.target g.S.Sink.faults g.known a.plan.now a.formula.now r.1.1.1.0 r.0.0 r.0.1 r.1.1.1.1.0 a.vars a.stack a.tally.items a.done a.table a.first r.1.1.1.1.1.0
    t.0 r.1.1.1.1.1.1.0 c.in-Ok.closed.book t.1 t.2 t.3 (sym t.2.faulty ∙ sym c.is_broken.ensures ∙ c.if-is_broken.false) c.in-Ok.closed.rests.items c.in-Ok.closed.units.items t.4
    c.resume-outcome.result.1 c.has_its_log.ensures.whole c.has_its_log.ensures.cut c.resume-outcome.result.0 c.resume-outcome.ensures (c.in-Ok-Refuted.is ∙ ap Ok c.in-Ok-Refuted.field-0-is)

pub returns-in-Err-outcome-clause-over : goal.returns-in-Err-outcome-clause-over
returns-in-Err-outcome-clause-over g c =
    let a = c.args in
    let r = c.requires.1 in
    let t = c.in-Ok.ensures.closed in
    subst (λ (x : Answer). HasReached g.S.Sink.written g.S.Sink.flushed g.S.Sink.target g.S.Sink.faults g.known a.plan.now a.formula.now x a.tally.items c.resume-outcome.result.1) (sym c.answer_of_stop.ensures)
    (over_stopped g.S.Sink.written g.S.Sink.flushed g.S.Sink.target g.S.Sink.faults g.known a.plan.now a.formula.now r.1.1.1.0 r.0.0 r.0.1 r.1.1.1.1.0 a.vars a.stack a.tally.items a.done a.table a.first r.1.1.1.1.1.0
    t.0 r.1.1.1.1.1.1.0 c.in-Ok.closed.book t.1 t.2 t.3 (sym t.2.faulty ∙ sym c.is_broken.ensures ∙ c.if-is_broken.false) c.in-Ok.closed.rests.items c.in-Ok.closed.units.items t.4
    c.resume-outcome.result.1 c.has_its_log.ensures.whole c.has_its_log.ensures.cut c.resume-outcome.result.0 c.resume-outcome.ensures c.in-Err-outcome.stop c.in-Err-outcome.is)
