use Rattle.std.proofs.Common.{◌⊎◌, ℕ, take}
use Rattle.std.specs.List.{Contains}
use Rattle.simp_subsume.specs.Signed.{IsRuledOut}
use Rattle.simp_subsume.proofs.candidates.append_alike.Given as goal

abbrev pub invariant-loop-number : goal.invariant-loop-number
invariant-loop-number l = record {
  kept : (n : ℕ) → Contains l.initial.others.items n → Contains l.others.items n;
  every : (n : ℕ) → Contains (take l.number-index l.numbers) n → IsRuledOut l.signatures l.wanted n ⊎ Contains l.others.items n;
}
