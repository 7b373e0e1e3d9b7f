use Rattle.std.proofs.Common.{◌≡◌, ◌≤◌, Bool, length, take}
use Rattle.std.specs.List.{AllZip}
use Rattle.std.specs.Vec.{vec_capacity}
use Rattle.sat_words.specs.Literal.{Literal}
use Rattle.rup_model.specs.Hints.{numbered}
use Rattle.ring_port.specs.PortState.{known_at}
use Rattle.analyze.specs.HintOrder.{NamesCause}
use Rattle.analyze.specs.Noting.{source_lits, IsStartSet}
use Rattle.analyze.proofs.Climbing.{IsClimbed}
use Rattle.analyze.proofs.Ordering.{noted_of}
use Rattle.analyze.proofs.tracer.write_hints.Given as goal

abbrev pub invariant-loop-place : goal.invariant-loop-place
invariant-loop-place g l = record {
  same : g.P.Port.state l.port ≡ g.P.Port.state l.fn.port;
  room : vec_capacity l.hints ≡ vec_capacity l.fn.hints;
  few : length l.hints.items ≤ l.place-index;
  climbed : (A : Literal → Bool) → IsStartSet l.trail.steps l.table.values (source_lits (g.P.Port.state l.fn.port) l.last) A
      → IsClimbed (numbered (known_at (g.P.Port.state l.fn.port))) l.trail.steps A l.table.values (take l.place-index l.table.touched) l.hints.items;
  ordered : AllZip (NamesCause (g.P.Port.state l.fn.port) l.trail.steps) (noted_of l.table.values (take l.place-index l.table.touched)) l.hints.items;
}
