use Rattle.std.proofs.Common.{ap, refl, subst, sym, ◌∙◌}
use Rattle.std.proofs.lemmas.Result.{err_from_is_err_and}
use Rattle.std.specs.Prelude.{Err}
use Rattle.ring_port.specs.PlainPort.{HasTidyCause}
use Rattle.ring_port.specs.Port.{is_usable}
use Rattle.ring_port.proofs.Tidying.{tidied_none, tidied_more, tidy_cause}
use Rattle.ring_port.proofs.plain_calls.PlainPortPort.tidy.Goals as goal

pub loop-init : goal.loop-init
loop-init g c = record {
  tidied = tidied_none c.args.self.now.state;
  end = c.waits-end.ensures.many;
  usable = c.requires.usable;
  faults = refl;
  log = λ o h. h;
  port = c.waits-end.ensures.port;
  loads = refl;
}

pub loop-preserved : goal.loop-preserved
loop-preserved g c = record {
  tidied = tidied_more c.args.self.now.state c.loop.self.state c.delete_first.new.self.state c.loop.counter c.loop.invariant.tidied c.in_ok-delete_first.ensures.tidied;
  end = c.loop.invariant.end;
  usable = ap (λ s. is_usable s.refused) c.in_ok-delete_first.ensures.tidied.state ∙ c.loop.invariant.usable;
  faults = c.in_ok-delete_first.ensures.cause.1 ∙ c.loop.invariant.faults;
  log = λ o h. c.in_ok-delete_first.ensures.log o (c.loop.invariant.log o h);
  port = c.in_ok-delete_first.ensures.port;
  loads = c.in_ok-delete_first.ensures.loads ∙ c.loop.invariant.loads;
}

pub returns-in_err-delete_first-clause-cause : goal.returns-in_err-delete_first-clause-cause
returns-in_err-delete_first-clause-cause g c =
    let p = err_from_is_err_and c.from_residual.result c.from_residual.ensures.1 in
    subst (HasTidyCause c.args.self.now.state c.delete_first.new.self.state) (sym (p.1 ∙ ap Err p.2))
    (tidy_cause c.args.self.now.state c.loop.self.state c.delete_first.new.self.state c.loop.counter c.in_err-delete_first.field-0.0 c.loop.invariant.tidied c.loop.invariant.faults c.in_err-delete_first.ensures.tidied c.in_err-delete_first.ensures.cause)
