use Rattle.std.proofs.Common.{◌≡◌, ◌≤◌, ◌+◌, ◌*◌, ◌++◌, take}
use Rattle.drat_text.specs.Text.{lits_text}
use Rattle.drat_text.specs.declared.literals.TheConstants.{LONGEST}
use Rattle.drat_text.proofs.literals.write_lits.Given as goal

abbrev pub invariant-loop-lit : goal.invariant-loop-lit
invariant-loop-lit l = record {
  written : take l.at l.bytes ≡ take l.start l.fn.bytes ++ lits_text (take l.lit-index l.lits);
  end : l.at ≤ l.start + LONGEST * l.lit-index;
}
