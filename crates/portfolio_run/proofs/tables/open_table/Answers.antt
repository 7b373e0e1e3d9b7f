use Rattle.std.proofs.Common.{◌∙◌, false, refl, sym, subst, ap}
use Rattle.portfolio_run.specs.declared.answer.Answer.{Answer}
use Rattle.portfolio_run.specs.Reached.{HasReached, stopped_answer}
use Rattle.portfolio_run.proofs.Lives.{within_book}
use Rattle.portfolio_run.proofs.Tabling.{begins, logged, whole, opened, unmade, unopened}
use Rattle.portfolio_run.proofs.tables.open_table.Goals as goal

pub returns-in-Err-clause-unopened : goal.returns-in-Err-clause-unopened
returns-in-Err-clause-unopened g c =
    let w = g.S.Sink.written in
    let f = g.S.Sink.flushed in
    let t = g.S.Sink.target in
    let fa = g.S.Sink.faults in
    let q = c.requires.1 in
    let full = c.in-Err.ensures.counted in
    unopened w f t fa g.known.0 c.args.plan.now c.args.formula.now (record c.args.book { ended = false; counted = _; few = _ }) c.args.left.now g.known.1 g.known.2 q.1.1.1.1.1.0 q.0.0 q.1.1.1.1.1.1.0 g.known.3 q.1.1.1.1.1.1.1.1
    c.open_round-begun.new.self full.same c.answer_of_stop.result (c.answer_of_stop.ensures ∙ ap stopped_answer full.is) c.has_its_log.ensures.whole full.last

pub make-requires : goal.make-requires
make-requires g c κs within =
    let w = g.S.Sink.written in
    let f = g.S.Sink.flushed in
    let t = g.S.Sink.target in
    let fa = g.S.Sink.faults in
    let q = c.requires.1 in
    let ss = c.as_slice.result.now in
    let us = c.as_slice-2.result.now in (
      within_book κs.1.1.1.0 g.row.S.lives within,
      (
        begins w f t fa g.known.0 c.args.plan.now c.args.formula.now (record c.args.book { ended = false; counted = _; few = _ }) c.args.left.now g.known.1 g.known.2 q.1.1.1.1.1.0 q.0.0 q.1.1.1.1.1.1.0 g.known.3 q.1.1.1.1.1.1.1.1 c.open_round-begun.new.self c.in_default.ensures.counted c.has_its_log.ensures.whole c.in_default.ensures.filled c.args.limit q.1.1.1.1.1.1.1.0 q.0.1 q.1.0 q.1.1.0 q.1.1.1.0.0 q.1.1.1.0.1 ss c.as_slice.ensures.value us c.as_slice-2.ensures.value,
        (
          logged w f t fa g.known.0 c.args.plan.now c.args.formula.now (record c.args.book { ended = false; counted = _; few = _ }) c.args.left.now g.known.1 g.known.2 q.1.1.1.1.1.0 q.0.0 q.1.1.1.1.1.1.0 g.known.3 q.1.1.1.1.1.1.1.1 c.open_round-begun.new.self c.in_default.ensures.counted c.has_its_log.ensures.whole c.in_default.ensures.filled c.args.limit q.1.1.1.1.1.1.1.0 ss c.as_slice.ensures.value us c.as_slice-2.ensures.value,
          whole w f t fa g.known.0 c.args.plan.now c.args.formula.now (record c.args.book { ended = false; counted = _; few = _ }) c.args.left.now g.known.1 g.known.2 q.1.1.1.1.1.0 q.0.0 q.1.1.1.1.1.1.0 g.known.3 q.1.1.1.1.1.1.1.1 c.open_round-begun.new.self c.in_default.ensures.counted c.has_its_log.ensures.whole c.in_default.ensures.filled c.args.limit q.1.1.1.1.1.1.1.0,
        ),
      ),
    )

pub returns-in-Ok-clause-opened : goal.returns-in-Ok-clause-opened
returns-in-Ok-clause-opened g c =
    let w = g.S.Sink.written in
    let f = g.S.Sink.flushed in
    let t = g.S.Sink.target in
    let fa = g.S.Sink.faults in
    let q = c.requires.1 in
    opened w f t fa g.known.0 c.args.plan.now c.args.formula.now (record c.args.book { ended = false; counted = _; few = _ }) c.args.left.now g.known.1 g.known.2 q.1.1.1.1.1.0 q.0.0 q.1.1.1.1.1.1.0 g.known.3 q.1.1.1.1.1.1.1.1 c.open_round-begun.new.self c.in_default.ensures.counted c.has_its_log.ensures.whole c.in_default.ensures.filled c.args.limit q.1.1.1.1.1.1.1.0
    (record { rings = c.args.plan.now.threads; vars = c.args.left.now.vars; words = c.args.plan.now.words; depth = c.args.plan.now.slots; conflicts = c.args.limit }) refl
    c.as_slice.result.now c.as_slice.ensures.value c.as_slice-2.result.now c.as_slice-2.ensures.value c.in-Ok.opened c.in-Ok.ensures.made c.in-Ok.ensures.cells

pub returns-in-Err-make-clause-unopened : goal.returns-in-Err-make-clause-unopened
returns-in-Err-make-clause-unopened g c =
    let w = g.S.Sink.written in
    let f = g.S.Sink.flushed in
    let t = g.S.Sink.target in
    let fa = g.S.Sink.faults in
    let q = c.requires.1 in
    subst (λ (a : Answer). HasReached w f t fa g.known.0 c.args.plan.now c.args.formula.now a g.known.1 c.in-Err-make.field-0.book) (sym c.answer_of_hole.ensures)
    (unmade w f t fa g.known.0 c.args.plan.now c.args.formula.now (record c.args.book { ended = false; counted = _; few = _ }) c.args.left.now g.known.1 g.known.2 q.1.1.1.1.1.0 q.0.0 q.1.1.1.1.1.1.0 g.known.3 q.1.1.1.1.1.1.1.1 c.open_round-begun.new.self c.in_default.ensures.counted c.has_its_log.ensures.whole c.in_default.ensures.filled c.args.limit q.1.1.1.1.1.1.1.0
    (record { rings = c.args.plan.now.threads; vars = c.args.left.now.vars; words = c.args.plan.now.words; depth = c.args.plan.now.slots; conflicts = c.args.limit }) refl
    c.as_slice.result.now c.as_slice.ensures.value c.in-Err-make.field-0.why c.in-Err-make.ensures.stopped c.in-Err-make.field-0.book c.in-Err-make.ensures.back)
