use Rattle.std.proofs.Common.{◌≡◌}
use Rattle.ring_port.specs.PortState.{IsPort}
use Rattle.ring_run.specs.Searching.{OffersNothing, Stands, AreTold, UnitsSeen, OnlyWrote, ToldUnits, KeepsOn}
use Rattle.ring_run.proofs.units.write_units.Given as goal

abbrev pub invariant-loop-place : goal.invariant-loop-place
invariant-loop-place g l = record {
  keeps : KeepsOn (g.P.Port.state l.fn.port) (g.P.Port.state l.port);
  stands : Stands (g.P.Port.state l.port) l.trail;
  held : (g.P.Port.state l.port).held ≡ (g.P.Port.state l.fn.port).held;
  told : AreTold (g.P.Port.state l.port) l.trail l.place;
  units : UnitsSeen (g.P.Port.state l.port);
  looks : (g.P.Port.state l.port).looks ≡ (g.P.Port.state l.fn.port).looks;
  waiting : (g.P.Port.state l.port).waiting ≡ (g.P.Port.state l.fn.port).waiting;
  wrote : OnlyWrote (g.P.Port.state l.fn.port) (g.P.Port.state l.port);
  lines : ToldUnits (g.P.Port.state l.fn.port) (g.P.Port.state l.port);
  nothing : OffersNothing (g.P.Port.state l.fn.port) (g.P.Port.state l.port);
  analysis : l.analysis.vars ≡ l.fn.analysis.vars;
  port : IsPort (g.P.Port.state l.port);
}
