use Rattle.std.proofs.Common.{◌≡◌, ◌∙◌, ◌+◌, ◌-◌, ◌||◌, Bool, true, false, List, length, get_or, take, sym, ap, inl, inr, arith}
use Rattle.std.specs.Prelude.{if◌then◌else◌}
use Rattle.std.proofs.Math.ListN.{set}
use Rattle.std.proofs.lemmas.Bool.{cases_eq, eq-eqb, ne_eqb}
use Rattle.std.proofs.lemmas.List.{length-set}
use Rattle.sat_words.specs.Truth.{value_of}
use Rattle.ring_walk.specs.Truths.{is_in}
use Rattle.ring_walk.proofs.Taking.{in_more}
use Rattle.ring_walk.proofs.Values.{value_set, value_kept}
use Rattle.ring_walk.proofs.kept.copy_values.Goals as goal

pub loop-var-preserved : goal.loop-var-preserved
loop-var-preserved c =
    let vars = c.args.vars.now in
    let k = c.loop-var.var-index in
    let w = get_or vars k 0 in
    let on = c.requires.on k c.loop-var-test.true in
    let low = on.0 in
    let high = on.1 in
    let len = c.loop-var.invariant.len in
    let to = c.loop-var.to in
    let from = c.args.from.now in
    let was = c.args.to.now in
    record {
      len = ap (λ (a : List Bool). length a) c.set.ensures ∙ length-set to (w - 1) c.value.result ∙ len;
      each = λ v. elim (cases_eq v w) as (λ _. value_of c.set.new.self v ≡ (if is_in (take (k + 1) vars) v then value_of from v else value_of was v)) [
        | inl is ↦ (
            ap (λ (a : List Bool). value_of a v) c.set.ensures ∙ ap (value_of (set to (w - 1) c.value.result)) is ∙ value_set to w c.value.result low (omega arith) ∙ c.value.ensures ∙ ap (value_of from) (sym is)
            ∙ sym (ap (λ (b : Bool). if b then value_of from v else value_of was v) (in_more vars k v c.loop-var-test.true ∙ ap (λ (b : Bool). is_in (take k vars) v || b) (eq-eqb w v (sym is)) ∙ or_true (is_in (take k vars) v))))
        | inr ne ↦ (
            ap (λ (a : List Bool). value_of a v) c.set.ensures ∙ value_kept to w v c.value.result low ne ∙ c.loop-var.invariant.each v
            ∙ ap (λ (b : Bool). if b then value_of from v else value_of was v) (sym (in_more vars k v c.loop-var-test.true ∙ ap (λ (b : Bool). is_in (take k vars) v || b) (ne_eqb w v (λ e. ne (sym e))) ∙ or_false (is_in (take k vars) v))))
      ];
    }
  where
    or_true : (b : Bool) → (b || true) ≡ true
    or_true b = by b
      where
        by : (b : Bool) → (b || true) ≡ true
        by true = λ i. true
        by false = λ i. true

    or_false : (b : Bool) → (b || false) ≡ b
    or_false b = by b
      where
        by : (b : Bool) → (b || false) ≡ b
        by true = λ i. true
        by false = λ i. false
