use Rattle.std.proofs.Common.{◌≡◌, ◌++◌, length}
use Rattle.drat_text.specs.Text.{text, CanBeSpelled}
use Rattle.drat_text.proofs.read.read_lines.Given as goal

abbrev pub invariant-loop-rest : goal.invariant-loop-rest
invariant-loop-rest l = record {
  read : l.bytes ≡ text l.lines.items ++ l.rest;
  spelled : CanBeSpelled l.lines.items;
}

abbrev pub decreases-loop-rest : goal.decreases-loop-rest
decreases-loop-rest l = length l.rest
