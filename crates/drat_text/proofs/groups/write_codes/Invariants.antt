use Rattle.std.proofs.Common.{◌≡◌, ◌≤◌, ◌+◌, ◌*◌, ◌++◌, take}
use Rattle.drat_text.specs.Binary.{lits_bytes}
use Rattle.drat_text.specs.declared.groups.TheConstants.{MOST}
use Rattle.drat_text.proofs.groups.write_codes.Given as goal

abbrev pub invariant-loop-lit : goal.invariant-loop-lit
invariant-loop-lit l = record {
  written : take l.at l.bytes ≡ take l.start l.fn.bytes ++ lits_bytes (take l.lit-index l.lits);
  end : l.at ≤ l.start + MOST * l.lit-index;
}
