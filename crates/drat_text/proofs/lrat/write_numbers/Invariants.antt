use Rattle.std.proofs.Common.{◌≡◌, ◌≤◌, ◌+◌, ◌*◌, ◌++◌, take}
use Rattle.drat_text.specs.Lrat.{numbers_text}
use Rattle.drat_text.specs.declared.lrat.TheConstants.{WORD}
use Rattle.drat_text.proofs.lrat.write_numbers.Given as goal

abbrev pub invariant-loop-number : goal.invariant-loop-number
invariant-loop-number l = record {
  written : take l.at l.bytes ≡ take l.start l.fn.bytes ++ numbers_text (take l.number-index l.numbers);
  end : l.at ≤ l.start + WORD * l.number-index;
}
