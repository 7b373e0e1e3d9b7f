use Rattle.std.proofs.Common.{◌≡◌, ◌∙◌, ℕ, ◌-◌, ◌≤◌, Bool, true, not, List, length, get_or, sym, ap, subst, inl, inr, arith}
use Rattle.std.proofs.Math.ListN.{set}
use Rattle.std.proofs.lemmas.Bool.{cases_lt}
use Rattle.std.proofs.lemmas.List.{length-set, get_or_default}
use Rattle.sat_words.specs.Literal.{Literal, IsOn}
use Rattle.sat_words.specs.Truth.{value_of, lit_true}
use Rattle.ring_walk.proofs.Units.{true_own, true_kept, others_kept}
use Rattle.ring_walk.proofs.starting.make_true.Goals as goal

pub loop-unit-preserved : goal.loop-unit-preserved
loop-unit-preserved c =
    let us = c.args.units.now in
    let k = c.loop-unit.unit-index in
    let u = c.unit-item.result in
    let a = c.loop-unit.values in
    let lt = c.loop-unit-test.true in
    let on = subst (λ (l : Literal). IsOn (length c.args.values.now) l) (sym c.unit-item.is) (c.requires.on k u lt) in
    let len = c.loop-unit.invariant.len in
    let low = on.low in
    let high0 = on.high in
    let high : u.var ≤ length a = omega arith in
    let is : c.set.new.self ≡ set a (u.var - 1) (not u.neg) = c.set.ensures ∙ ap (λ (v : ℕ). set a (v - 1) (not c.is_neg.result)) c.var.ensures.value ∙ ap (λ (b : Bool). set a (u.var - 1) (not b)) c.is_neg.ensures in
    record {
      len = ap (λ (b : List Bool). length b) is ∙ length-set a (u.var - 1) (not u.neg) ∙ len;
      units = λ j d up. ap (λ (b : List Bool). lit_true b (get_or us j d)) is ∙ elim (cases_lt j k) as (λ _. lit_true (set a (u.var - 1) (not u.neg)) (get_or us j d) ≡ true) [
        | inl before ↦ true_kept a us c.requires.apart j k d u (omega arith) lt c.unit-item.is low high (c.loop-unit.invariant.units j d before)
        | inr here ↦ (
            let e : k ≡ j = omega arith in
            subst (λ (l : Literal). lit_true (set a (u.var - 1) (not u.neg)) l ≡ true) (c.unit-item.is ∙ get_or_default us k u d lt ∙ ap (λ (i : ℕ). get_or us i d) e) (true_own a u low high))
      ];
      others = λ v none. ap (λ (b : List Bool). value_of b v) is ∙ others_kept a c.args.values.now us k u lt c.unit-item.is low c.loop-unit.invariant.others v none;
    }
