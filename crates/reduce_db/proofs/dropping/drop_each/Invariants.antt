use Rattle.std.proofs.Common.{take}
use Rattle.ring_port.specs.PortState.{IsPort}
use Rattle.ring_port.specs.Log.{KeepsLog}
use Rattle.reduce_db.specs.Dropping.{DroppedAll}
use Rattle.reduce_db.proofs.dropping.drop_each.Given as goal

abbrev pub invariant-loop-c : goal.invariant-loop-c
invariant-loop-c g l = record {
  dropped : DroppedAll (g.P.Port.state l.fn.port) (g.P.Port.state l.port) (take l.c-index l.lemmas);
  log : KeepsLog (g.P.Port.state l.fn.port) (g.P.Port.state l.port);
  port : IsPort (g.P.Port.state l.port);
}
