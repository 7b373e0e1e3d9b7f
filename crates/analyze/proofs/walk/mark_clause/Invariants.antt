use Rattle.std.proofs.Common.{◌≡◌, ◌≤◌, length, take}
use Rattle.ring_port.specs.PortState.{lits_at}
use Rattle.analyze.specs.Marks.{IsMarking, HasMarked}
use Rattle.analyze.proofs.walk.mark_clause.Given as goal

abbrev pub invariant-loop-i : goal.invariant-loop-i
invariant-loop-i g l = record {
  same : g.P.Port.state l.port ≡ g.P.Port.state l.fn.port;
  size : l.size ≡ length (lits_at (g.P.Port.state l.fn.port) l.c.address);
  counted : l.count ≤ l.i;
  marking : IsMarking l.trail.steps l.trail.vars l.level l.marks;
  marks : HasMarked l.trail.steps l.level l.fn.marks.values l.marks.values l.bound (take l.i (lits_at (g.P.Port.state l.fn.port) l.c.address)) l.count;
}
