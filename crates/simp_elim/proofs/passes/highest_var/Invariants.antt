use Rattle.std.proofs.Common.{◌≤◌, ◌^◌, take}
use Rattle.std.specs.List.{All}
use Rattle.sat_words.specs.Literal.{IsOn}
use Rattle.simp_elim.proofs.passes.highest_var.Given as goal

abbrev pub invariant-loop-cell : goal.invariant-loop-cell
invariant-loop-cell g l = record {
  few : l.highest ≤ 2 ^ 30;
  within : l.highest ≤ l.work.vars;
  all : All (λ c. All (IsOn l.highest) c.1) (take l.cell-index l.work.clauses);
}
