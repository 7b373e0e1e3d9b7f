use Rattle.std.proofs.Common.{ℕ, ◌≤◌, ◌^◌, take}
use Rattle.std.specs.List.{All}
use Rattle.sat_words.specs.Literal.{IsOn}
use Rattle.simp_elim.proofs.passes.highest_in.Given as goal

abbrev pub invariant-loop-lit : goal.invariant-loop-lit
invariant-loop-lit l = record {
  above : l.highest ≤ l.top;
  all : All (IsOn l.top) (take l.lit-index l.lit-items);
  few : l.highest ≤ 2 ^ 30 → l.top ≤ 2 ^ 30;
  within : (h : ℕ) → l.highest ≤ h → All (IsOn h) l.lit-items → l.top ≤ h;
}
