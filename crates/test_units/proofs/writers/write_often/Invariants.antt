use Rattle.std.proofs.Common.{◌≡◌}
use Rattle.test_units.specs.Doings.{HasWritten}
use Rattle.test_units.specs.Samples.{IsWriter, plus}
use Rattle.test_units.proofs.writers.write_often.Given as goal

abbrev pub invariant-loop : goal.invariant-loop
invariant-loop g l = IsWriter l.table l.writer.ring.pass l.writer.ring.ring (plus 2) × (l.writer.ring.ring ≡ l.fn.writer.ring.ring) × HasWritten (plus 2) l.counter l.fn.writer l.writer
