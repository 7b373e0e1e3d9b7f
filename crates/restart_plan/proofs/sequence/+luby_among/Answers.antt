use Rattle.std.proofs.Common.{◌≡◌, ◌∙◌, ◌≤◌, ◌<◌, ◌^◌, ℕ, ◌+◌, ◌-◌, zero, suc, ap, sym, arith}
use Rattle.restart_plan.specs.Luby.{luby_among}
use Rattle.restart_plan.proofs.LubyLemmas.{by_low, by_last, by_rest, half_twice}
use Rattle.restart_plan.proofs.sequence.+luby_among.Goals as goal

some_bits : (b i : ℕ) → 1 ≤ i → i < 2 ^ b → 1 ≤ b
some_bits zero i low high = absurd (omega arith)
some_bits (suc b) i low high = omega arith

pub returns-then-i-half : goal.returns-then-i-half
returns-then-i-half t c =
    let some = some_bits c.args.bits c.args.i c.requires.low c.requires.high in
    c.luby_among.ensures ∙ sym (by_low c.args.bits c.args.i some (omega arith))

pub returns-then-past-half : goal.returns-then-past-half
returns-then-past-half t c =
    let some = some_bits c.args.bits c.args.i c.requires.low c.requires.high in
    let h = c.power-half.ensures in
    h ∙ sym (by_last c.args.bits c.args.i some (omega arith))

pub luby_among-requires-2 : goal.luby_among-requires-2
luby_among-requires-2 t c =
    let some = some_bits c.args.bits c.args.i c.requires.low c.requires.high in
    let h = c.power-half.ensures in
    let d = half_twice c.args.bits some in
    (omega arith, (omega arith, (omega arith, omega arith)))

pub returns : goal.returns
returns t c =
    let some = some_bits c.args.bits c.args.i c.requires.low c.requires.high in
    let h = c.power-half.ensures in
    let d = half_twice c.args.bits some in
    let e : c.args.i - c.power-half.result + 1 ≡ c.args.i - 2 ^ (c.args.bits - 1) + 1 = omega arith in
    c.luby_among-2.ensures ∙ ap (λ (n : ℕ). luby_among (c.args.bits - 1) n) e ∙ sym (by_rest c.args.bits c.args.i some (omega arith) (omega arith))
