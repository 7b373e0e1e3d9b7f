use Rattle.std.proofs.Common.{◌≡◌, ◌∙◌, ℕ, ◌+◌, ◌++◌, ◌%◌, ◌==◌, [], ◌∷◌, List, Bool, sym, ap, arith, append-nil, length, subst}
use Rattle.random_bits.specs.Bits.{bits_from, rest_from}
use Rattle.random_bits.proofs.BitLemmas.{bits-next, bits-zero, bits-length, rest-next, rest-zero}
use Rattle.random_bits.proofs.bits.lowest_bits.Goals as goal

pub returns-clause-bits : goal.returns-clause-bits
returns-clause-bits c =
    let e : c.loop-i._i + 0 ≡ c.args.count = omega (arith, c.loop-i-test.false, c.loop-i.auto) in
    sym (ap (bits_from c.args.generator.now) (sym e) ∙ c.loop-i.invariant.bits 0 ∙ ap (λ (xs : List Bool). c.loop-i.bits.items ++ xs) (bits-zero c.loop-i.generator) ∙ append-nil c.loop-i.bits.items)

pub returns-clause-len : goal.returns-clause-len
returns-clause-len c = ap (λ (xs : List Bool). length xs) (returns-clause-bits c) ∙ bits-length c.args.generator.now c.args.count

pub returns-clause-rest : goal.returns-clause-rest
returns-clause-rest c =
    let e : c.loop-i._i + 0 ≡ c.args.count = omega (arith, c.loop-i-test.false, c.loop-i.auto) in
    sym (ap (rest_from c.args.generator.now) (sym e) ∙ c.loop-i.invariant.rest 0 ∙ rest-zero c.loop-i.generator)

pub loop-i-preserved : goal.loop-i-preserved
loop-i-preserved c =
    let i : (m : ℕ) → bits_from c.args.generator.now (c.loop-i._i + 1 + m) ≡ (c.loop-i.bits.items ++ (c.next_word.result % 2 == 1) ∷ []) ++ bits_from c.next_word.new.self m
    = bits-next c.args.generator.now c.loop-i.generator c.next_word.new.self c.loop-i.bits.items c.next_word.result c.loop-i._i c.next_word.ensures c.loop-i.invariant.bits in
    record {
      bits = subst (λ (xs : List Bool). (m : ℕ) → bits_from c.args.generator.now (c.loop-i._i + 1 + m) ≡ xs ++ bits_from c.next_word.new.self m) (sym c.in_ok-push.ensures.items) i;
      rest = rest-next c.args.generator.now c.loop-i.generator c.next_word.new.self c.next_word.result c.loop-i._i c.next_word.ensures c.loop-i.invariant.rest;
    }
