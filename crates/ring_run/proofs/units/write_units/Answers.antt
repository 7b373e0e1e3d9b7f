use Rattle.std.proofs.Common.{◌∙◌, refl}
use Rattle.ring_run.proofs.Offering.{nothing_none, nothing_then}
use Rattle.ring_run.proofs.Progress.{wrote_none, wrote_by}
use Rattle.ring_run.specs.Ending.{end_refused}
use Rattle.ring_run.proofs.Told.{units_none, units_then, halted_then}
use Rattle.ring_run.proofs.units.write_units.Goals as goal

pub loop-place-init : goal.loop-place-init
loop-place-init g c = record {
  keeps = λ start n p. p;
  stands = c.requires.stands;
  held = refl;
  told = c.requires.told;
  units = c.requires.units;
  looks = refl;
  waiting = refl;
  wrote = wrote_none (g.P.Port.state c.args.port.now);
  lines = units_none (g.P.Port.state c.args.port.now);
  nothing = nothing_none (g.P.Port.state c.args.port.now);
  analysis = refl;
  port = c.requires.port;
}

pub write_unit-requires-clause-refused : goal.write_unit-requires-clause-refused
write_unit-requires-clause-refused g c = c.loop-place.invariant.wrote.refused ∙ c.requires.refused

pub returns-in-Err-clause-over : goal.returns-in-Err-clause-over
returns-in-Err-clause-over g c = λ n start p. c.in-Err.ensures.over n start (c.loop-place.invariant.keeps start n p)

pub loop-place-preserved : goal.loop-place-preserved
loop-place-preserved g c = record {
  keeps = λ start n p. c.in-Ok.ensures.ok start n (c.loop-place.invariant.keeps start n p);
  stands = c.in-Ok.ensures.stands;
  held = c.in-Ok.ensures.held ∙ c.loop-place.invariant.held;
  told = c.in-Ok.ensures.told;
  units = c.in-Ok.ensures.units;
  looks = c.in-Ok.ensures.looks ∙ c.loop-place.invariant.looks;
  waiting = c.in-Ok.ensures.waiting ∙ c.loop-place.invariant.waiting;
  wrote = wrote_by (g.P.Port.state c.args.port.now) (g.P.Port.state c.loop-place.port) (g.P.Port.state c.write_unit.new.port) c.loop-place.invariant.wrote c.in-Ok.ensures.wrote;
  lines = units_then (g.P.Port.state c.args.port.now) (g.P.Port.state c.loop-place.port) (g.P.Port.state c.write_unit.new.port) c.loop-place.invariant.lines c.in-Ok.ensures.lines;
  nothing = nothing_then (g.P.Port.state c.args.port.now) (g.P.Port.state c.loop-place.port) (g.P.Port.state c.write_unit.new.port) c.loop-place.invariant.nothing c.in-Ok.ensures.nothing;
  analysis = c.in-Ok.ensures.analysis ∙ c.loop-place.invariant.analysis;
  port = c.in-Ok.ensures.port;
}

pub returns-in-Err-clause-nothing : goal.returns-in-Err-clause-nothing
returns-in-Err-clause-nothing g c = nothing_then (g.P.Port.state c.args.port.now) (g.P.Port.state c.loop-place.port) (g.P.Port.state c.write_unit.new.port) c.loop-place.invariant.nothing c.in-Err.ensures.nothing

pub returns-in-Err-clause-halts : goal.returns-in-Err-clause-halts
returns-in-Err-clause-halts g c =
    halted_then (g.P.Port.state c.args.port.now) (g.P.Port.state c.loop-place.port) (g.P.Port.state c.write_unit.new.port) c.args.trail.now.steps (end_refused c.in-Err.stop) c.loop-place.invariant.lines c.in-Err.ensures.halts
