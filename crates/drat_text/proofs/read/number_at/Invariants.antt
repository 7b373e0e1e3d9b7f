use Rattle.std.proofs.Common.{◌≡◌, drop}
use Rattle.drat_text.specs.Number.{number_from}
use Rattle.drat_text.proofs.read.number_at.Given as goal

abbrev pub invariant-loop-byte : goal.invariant-loop-byte
invariant-loop-byte l = number_from 0 l.bytes ≡ number_from l.value (drop l.byte-index l.bytes)
