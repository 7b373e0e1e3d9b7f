use Rattle.std.proofs.Common.{ap}
use Rattle.ring_port.specs.PlainPort.{starts_of}
use Rattle.test_search.proofs.PortCalls.{opens_unit, given_seen, seen_follows, seen_on}
use Rattle.test_search.proofs.port.write_unit.Goals as goal

pub new-requires-clause-opening : goal.new-requires-clause-opening
new-requires-clause-opening g c = opens_unit _ _ c.new-one.result _ (ap starts_of c.new-starts.ensures) c.in_ok-units.ensures.items c.requires.none c.requires.last

pub unit-told-requires-clause-rup : goal.unit-told-requires-clause-rup
unit-told-requires-clause-rup g c = seen_follows _ _ (given_seen _ _ _ c.in-Some.ensures.took)

pub unit-told-requires-clause-on : goal.unit-told-requires-clause-on
unit-told-requires-clause-on g c = seen_on _ _ c.in-Some.ensures.port (given_seen _ _ _ c.in-Some.ensures.took)
