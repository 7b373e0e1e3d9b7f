use Rattle.std.proofs.Common.{ℕ, ◌≡◌, ◌+◌, ◌++◌}
use Rattle.random_bits.specs.Bits.{bits_from, rest_from}
use Rattle.random_bits.proofs.bits.lowest_bits.Given as goal

abbrev pub invariant-loop-i : goal.invariant-loop-i
invariant-loop-i l = record {
  bits : (m : ℕ) → bits_from l.fn.generator (l._i + m) ≡ l.bits.items ++ bits_from l.generator m;
  rest : (m : ℕ) → rest_from l.fn.generator (l._i + m) ≡ rest_from l.generator m;
}
