use Rattle.std.proofs.Common.{◌≡◌, ℕ, List, [], length, ap, arith}
use Rattle.circular_buffer.specs.Buffer.{Buffer}
use Rattle.restart_plan.proofs.restarts.Restarts.new.Goals as goal

pub invariant_of-result : goal.invariant_of-result
invariant_of-result c =
    let e = c.in_ok-with_capacity.ensures in
    let w : c.in_ok-with_capacity.field-0.items ≡ [] = ap (λ (b : Buffer ℕ). b.items) e in
    let n : length c.in_ok-with_capacity.field-0.items ≡ 0 = ap (λ (xs : List ℕ). length xs) w in
    (ap (λ (b : Buffer ℕ). b.capacity) e, record { few = omega arith; window = omega arith; recent = omega arith; low = omega arith; fits = omega arith })
