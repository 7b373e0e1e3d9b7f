use Rattle.std.proofs.Common.{◌≡◌, ◌+◌, ◌-◌, ◌*◌, ◌^◌, min, length}
use Rattle.ring_port.specs.PortState.{IsPort}
use Rattle.ring_run.specs.Searching.{KeepsOn, OnlyPolled}
use Rattle.ring_run.specs.Course.{InSearch}
use Rattle.ring_run.proofs.Polling.{others_below}
use Rattle.ring_run.specs.Renewal.{TookSlots}
use Rattle.ring_run.proofs.Rounds.{round_below}
use Rattle.ring_run.proofs.imports.take_clauses.Given as goal

abbrev pub invariant-loop-from : goal.invariant-loop-from
invariant-loop-from g l = record {
  keeps : KeepsOn (g.P.Port.state l.fn.port) (g.P.Port.state l.port);
  search : InSearch (g.P.Port.state l.port) l.ring;
  polled : (g.P.Port.state l.port).polled ≡ min ((g.P.Port.state l.fn.port).polled + 4 * (g.P.Port.state l.fn.port).depth * length (others_below (g.P.Port.state l.fn.port).ring l.from)) (2 ^ 64 - 1);
  took : TookSlots (g.P.Port.state l.fn.port) (g.P.Port.state l.port) l.fn.ring l.ring (round_below (g.P.Port.state l.fn.port).depth (g.P.Port.state l.fn.port).ring l.from);
  only : OnlyPolled (g.P.Port.state l.fn.port) (g.P.Port.state l.port);
  same : l.ring ≡ record l.fn.ring { watches = l.ring.watches; imports = l.ring.imports };
  port : IsPort (g.P.Port.state l.port);
}
