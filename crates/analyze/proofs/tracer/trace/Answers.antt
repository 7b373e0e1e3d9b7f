use Rattle.std.proofs.Common.{◌∙◌, sym, ap, subst}
use Rattle.analyze.specs.MarksData.{MarksData}
use Rattle.analyze.specs.Noting.{IsNoting}
use Rattle.analyze.specs.declared.tracer.Note.{Note}
use Rattle.analyze.proofs.Noting.{IsNoting-none, IsNoting-sorted}
use Rattle.analyze.proofs.Tracing.{AreUsed-from, IsStarted-from, IsStartSet-from}
use Rattle.analyze.proofs.tracer.trace.Goals as goal

pub mark_given-requires-clause-noting : goal.mark_given-requires-clause-noting
mark_given-requires-clause-noting g c = rw c.requires.blank (IsNoting-none c.args.trail.now)

pub note_all-requires-clause-started : goal.note_all-requires-clause-started
note_all-requires-clause-started g c =
    rw c.note_source.ensures.same (IsStarted-from _ c.args.trail.now _ _ c.requires.can _ _ c.note_source.ensures.noting (rw c.requires.blank at c.mark_given.ensures.given) c.note_source.ensures.noted)

pub write_hints-requires-clause-noting : goal.write_hints-requires-clause-noting
write_hints-requires-clause-noting g c =
    subst (λ (m : MarksData Note). IsNoting c.args.trail.now.steps c.args.trail.now.vars m) (sym c.sort.ensures.same)
    (IsNoting-sorted _ _ c.note_all.new.table c.sort.new.self.touched c.note_all.ensures.noted.noting c.sort.ensures.order)

pub write_hints-requires-clause-closed : goal.write_hints-requires-clause-closed
write_hints-requires-clause-closed g c =
    let values = ap (λ (m : MarksData Note). m.values) c.sort.ensures.same in
    rw (values, c.note_all.ensures.same) c.note_all.ensures.noted.closed

pub write_hints-requires-clause-used : goal.write_hints-requires-clause-used
write_hints-requires-clause-used g c =
    let values = ap (λ (m : MarksData Note). m.values) c.sort.ensures.same in
    let same = c.note_all.ensures.same ∙ c.note_source.ensures.same in
    rw (values, same) (AreUsed-from _ c.args.trail.now _ _ c.requires.can _ _ c.note_source.ensures.noting (rw c.requires.blank at c.mark_given.ensures.given) c.note_source.ensures.noted _ (rw c.note_source.ensures.same at c.note_all.ensures.noted))

pub returns-clause-order : goal.returns-clause-order
returns-clause-order g c = rw (c.note_all.ensures.same ∙ c.note_source.ensures.same) at c.write_hints.ensures.order

pub returns-clause-hints : goal.returns-clause-hints
returns-clause-hints g c =
    let values = ap (λ (m : MarksData Note). m.values) c.sort.ensures.same in
    let same = c.note_all.ensures.same ∙ c.note_source.ensures.same in
    let hints = rw (values, same) at c.write_hints.ensures.hints in
    hints _ (IsStartSet-from _ c.args.trail.now _ _ c.requires.can _ _ c.note_source.ensures.noting (rw c.requires.blank at c.mark_given.ensures.given) c.note_source.ensures.noted _ (rw c.note_source.ensures.same at c.note_all.ensures.noted))
