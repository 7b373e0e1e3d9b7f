use Rattle.std.proofs.Common.{◌≡◌, length, take}
use Rattle.ring_port.specs.PortState.{lits_at}
use Rattle.analyze.specs.Noting.{IsNoting, HasNoted}
use Rattle.analyze.specs.declared.tracer.Note.TheVariants.{Noted}
use Rattle.analyze.proofs.tracer.note_clause.Given as goal

abbrev pub invariant-loop-i : goal.invariant-loop-i
invariant-loop-i g l = record {
  same : g.P.Port.state l.port ≡ g.P.Port.state l.fn.port;
  size : l.size ≡ length (lits_at (g.P.Port.state l.fn.port) l.c.address);
  noting : IsNoting l.trail.steps l.trail.vars l.table;
  noted : HasNoted l.trail.steps Noted l.fn.table l.table (take l.i (lits_at (g.P.Port.state l.fn.port) l.c.address));
}
