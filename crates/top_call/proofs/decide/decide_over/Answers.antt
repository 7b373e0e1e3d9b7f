use Rattle.std.proofs.Common.{ℕ, [], refl, subst, sym}
use Rattle.std.specs.declared.option.Option.{Option}
use Rattle.std.specs.Prelude.{Err}
use Rattle.dimacs_read.specs.Answer.{IsAnswer}
use Rattle.dimacs_read.specs.declared.stop.ReadStop.{ReadStop}
use Rattle.top_call.specs.Input.{WasGiven}
use Rattle.top_call.proofs.Finishes.{no_formula, unread, unread_end}
use Rattle.top_call.proofs.Lawful.{rose_once, still_run, read_failed}
use Rattle.top_call.proofs.decide.decide_over.Goals as goal

pub returns-in-Err-clause-outcome : goal.returns-in-Err-clause-outcome
returns-in-Err-clause-outcome g c =
    let flush = c.flush in
    let none = unread c.args.plan.now _ _ _ _ _ _ _ _ _ flush.result c.requires.quiet c.requires.empty flush.ensures.bytes flush.ensures.cause flush.ensures.flushed in
    record {
      formula = no_formula;
      journal = [];
      outcome = unread_end c.in-Err.stop c.read_end-end.result c.args.tally.now _ _ _ c.read_end-end.ensures c.requires.unmade c.in-Err.ensures.answer (λ other. c.in-Err.ensures.quiet (λ e. other (cc e))) (λ e. rose_once _ _ (c.in-Err.ensures.fault (cc e))) c.requires.uncounted c.note.ensures refl none;
    }

pub returns-clause-outcome : goal.returns-clause-outcome
returns-clause-outcome g c =
    let text = g.S.Source.left c.args.source.now in
    c.decide_formula.ensures.outcome text _ (subst (λ (m : Option ℕ). WasGiven m text c.in-Ok.formula) (sym c.requires.unmade) c.in-Ok.ensures.answer) (c.in-Ok.ensures.quiet (λ e. cc e))

pub returns-in-Err-clause-failed : goal.returns-in-Err-clause-failed
returns-in-Err-clause-failed g c = λ e.
    let failed = read_failed c.in-Err.stop c.read_end-end.result c.read_end-end.ensures e in
    record { unread = subst (λ (stop : ReadStop). IsAnswer (g.S.Source.left c.args.source.now) (g.S.Source.left c.read.new.source) (Err stop)) failed c.in-Err.ensures.answer; last = c.in-Err.ensures.failed (cc failed); once = c.in-Err.ensures.fault (cc failed) }

pub returns-clause-failed : goal.returns-clause-failed
returns-clause-failed g c = λ e. absurd
    (let text = g.S.Source.left c.args.source.now in
    still_run c.decide_formula.result.end _ _ (c.decide_formula.ensures.outcome text (record { before = 0; after = 0 }) (subst (λ (m : Option ℕ). WasGiven m text c.in-Ok.formula) (sym c.requires.unmade) c.in-Ok.ensures.answer) refl) refl e)
