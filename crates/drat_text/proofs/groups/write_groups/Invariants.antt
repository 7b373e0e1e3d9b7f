use Rattle.std.proofs.Common.{◌≡◌, ◌<◌, ◌+◌, ◌-◌, ◌++◌, take}
use Rattle.drat_text.specs.Binary.{groups}
use Rattle.drat_text.proofs.SevenBits.{Fits}
use Rattle.drat_text.proofs.groups.write_groups.Given as goal

abbrev pub invariant-loop-rest : goal.invariant-loop-rest
invariant-loop-rest l = record {
  low : l.size < 5;
  fits : Fits (5 - l.size) l.rest;
  whole : take (l.at + l.size) l.bytes ++ groups (5 - l.size) l.rest ≡ take l.at l.fn.bytes ++ groups 5 l.number;
}

abbrev pub decreases-loop-rest : goal.decreases-loop-rest
decreases-loop-rest l = l.rest
