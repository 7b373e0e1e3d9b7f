use Rattle.std.proofs.Common.{◌≡◌}
use Rattle.test_tables.specs.Samples.{IsRing}
use Rattle.test_units.proofs.tests_meeting.go_through.Given as goal

abbrev pub invariant-loop-round : goal.invariant-loop-round
invariant-loop-round g l = IsRing l.table l.ring.pass l.ring.ring × (l.ring.ring ≡ l.fn.ring.ring)
