use Rattle.std.proofs.Common.{◌∙◌, sym}
use Rattle.analyze.proofs.Starting.{seen_told, CanTrace-unit}
use Rattle.analyze.proofs.tracer.trace_unit.Goals as goal

pub trace-requires-clause-can : goal.trace-requires-clause-can
trace-requires-clause-can g c = CanTrace-unit _ c.args.trail.now _ c.len-places.ensures.trail c.requires.level c.requires.opposed

pub unreachable-requires : goal.unreachable-requires
unreachable-requires g c =
    let s = g.P.Port.state c.args.port.now in
    let told = seen_told s c.args.unit (c.unit_number.ensures.port.named (sym c.has_hints.ensures.value ∙ c.if-not-has_hints.false)) c.requires.seen in
    c.in_default.ensures.told told.0 told.1
