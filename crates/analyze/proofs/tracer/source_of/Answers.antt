use Rattle.std.proofs.Common.{◌∙◌, sym, inr}
use Rattle.analyze.proofs.Causes.{IsHeldCause, forced_untold, held_cause}
use Rattle.analyze.proofs.tracer.source_of.Goals.{In-Some-reason_at}
use Rattle.analyze.proofs.tracer.source_of.Given as Given
use Rattle.analyze.proofs.tracer.source_of.Goals as goal

pub unreachable-requires : goal.unreachable-requires
unreachable-requires g c =
    let f = forced_untold (g.P.Port.state c.args.port.now) c.args.trail.now.steps c.args.place (c.has_hints-hinted.ensures.port.named c.requires.hinted) c.requires.reasoned c.requires.in_range c.requires.backed c.in_default.ensures.told in
    c.in_default-reason_at.not-Some f.reason (c.reason_at.ensures ∙ f.reason_is)

held : (g : Given.Over) → (c : In-Some-reason_at g) → IsHeldCause (g.P.Port.state c.args.port.now) c.args.trail.now.steps c.args.place c.in-Some-reason_at.reason
held g c =
    let f = forced_untold (g.P.Port.state c.args.port.now) c.args.trail.now.steps c.args.place (c.has_hints-hinted.ensures.port.named c.requires.hinted) c.requires.reasoned c.requires.in_range c.requires.backed c.in_default.ensures.told in
    held_cause (g.P.Port.state c.args.port.now) c.args.trail.now.steps c.args.place c.in-Some-reason_at.reason f (sym c.reason_at.ensures ∙ c.in-Some-reason_at.is)

pub returns-clause-source : goal.returns-clause-source
returns-clause-source g c = (held g c).held

pub returns-clause-cause : goal.returns-clause-cause
returns-clause-cause g c = inr (c.in_default.ensures.told, (held g c).reason)

pub returns-clause-unit : goal.returns-clause-unit
returns-clause-unit g c = (held g c).unit
