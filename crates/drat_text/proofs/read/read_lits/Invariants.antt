use Rattle.std.proofs.Common.{◌≡◌, ◌++◌, ◌^◌, length, All}
use Rattle.sat_words.specs.Literal.{IsOn}
use Rattle.drat_text.specs.Text.{lits_text}
use Rattle.drat_text.proofs.read.read_lits.Given as goal

abbrev pub invariant-loop-lit : goal.invariant-loop-lit
invariant-loop-lit l = record {
  read : l.bytes ≡ lits_text l.lits.items ++ l.rest;
  on : All (IsOn (2 ^ 30)) l.lits.items;
}

abbrev pub decreases-loop-lit : goal.decreases-loop-lit
decreases-loop-lit l = length l.rest
