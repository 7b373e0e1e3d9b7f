use Rattle.std.proofs.Common.{◌≡◌, ◌+◌, ◌-◌, ◌^◌, min}
use Rattle.ring_port.specs.PortState.{IsPort}
use Rattle.ring_run.specs.Searching.{KeepsOn, OnlyPolled}
use Rattle.ring_run.specs.Course.{InSearch}
use Rattle.ring_run.specs.Renewal.{TookSlots}
use Rattle.ring_run.proofs.Rounds.{places_below}
use Rattle.ring_run.proofs.imports.take_class.Given as goal

abbrev pub invariant-loop-place : goal.invariant-loop-place
invariant-loop-place g l = record {
  keeps : KeepsOn (g.P.Port.state l.fn.port) (g.P.Port.state l.port);
  search : InSearch (g.P.Port.state l.port) l.ring;
  polled : (g.P.Port.state l.port).polled ≡ min ((g.P.Port.state l.fn.port).polled + l.place) (2 ^ 64 - 1);
  took : TookSlots (g.P.Port.state l.fn.port) (g.P.Port.state l.port) l.fn.ring l.ring (places_below l.from l.class l.place);
  only : OnlyPolled (g.P.Port.state l.fn.port) (g.P.Port.state l.port);
  same : l.ring ≡ record l.fn.ring { watches = l.ring.watches; imports = l.ring.imports };
  port : IsPort (g.P.Port.state l.port);
}
