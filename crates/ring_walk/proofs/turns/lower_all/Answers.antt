use Rattle.std.proofs.Common.{◌≡◌, ◌∙◌, ℕ, ◌<◌, ◌+◌, ◌||◌, Bool, true, false, length, List, get_or, take, sym, ap, subst, inl, inr, arith}
use Rattle.std.specs.Prelude.{if◌then◌else◌}
use Rattle.std.proofs.Math.ListN.{set}
use Rattle.std.proofs.lemmas.Bool.{cases_eq, eq-eqb, ne_eqb}
use Rattle.std.proofs.lemmas.List.{length-set, get_or-set_same, get_or-set_other}
use Rattle.ring_walk.specs.declared.tally.Count.{Count}
use Rattle.ring_walk.specs.Tally.{CanLower, count_at, nothing, lowered}
use Rattle.ring_walk.specs.Truths.{is_in}
use Rattle.ring_walk.proofs.Taking.{in_more, next_out}
use Rattle.ring_walk.proofs.turns.lower_all.Goals as goal

-- a choice by a test
yes : {A : Type 0} (b : Bool) (x y : A) → b ≡ true → (if b then x else y) ≡ x
yes b x y e = ap (λ (t : Bool). if t then x else y) e

no_choice : {A : Type 0} (b : Bool) (x y : A) → b ≡ false → (if b then x else y) ≡ y
no_choice b x y e = ap (λ (t : Bool). if t then x else y) e

-- the clause at hand has its count from before
still : (now was : List Count) (xs : List ℕ) (k v : ℕ) → ((i : ℕ) → i < length was → count_at now i ≡ (if is_in (take k xs) i then lowered (count_at was i) v else count_at was i))
    → get_or xs k 0 < length was → is_in (take k xs) (get_or xs k 0) ≡ false → count_at now (get_or xs k 0) ≡ count_at was (get_or xs k 0)
still now was xs k v each lt out = each (get_or xs k 0) lt ∙ no_choice (is_in (take k xs) (get_or xs k 0)) (lowered (count_at was (get_or xs k 0)) v) (count_at was (get_or xs k 0)) out

pub lower-requires-clause-can : goal.lower-requires-clause-can
lower-requires-clause-can c =
    let xs = c.args.clauses.now in
    let k = c.loop-clause.clause-index in
    let lt = c.requires.low k c.loop-clause-test.true in
    let e = still c.loop-clause.tally.counts c.args.tally.now.counts xs k c.args.var c.loop-clause.invariant.each lt (next_out xs k c.requires.once c.loop-clause-test.true) in
    subst (λ (n : ℕ). CanLower n (count_at c.loop-clause.tally.counts (get_or xs k 0)) c.args.var) (sym c.loop-clause.invariant.vars)
    (subst (λ (x : Count). CanLower c.args.tally.now.vars x c.args.var) (sym e) (c.requires.can k c.loop-clause-test.true))

pub loop-clause-preserved : goal.loop-clause-preserved
loop-clause-preserved c =
    let xs = c.args.clauses.now in
    let k = c.loop-clause.clause-index in
    let n = get_or xs k 0 in
    let v = c.args.var in
    let was = c.args.tally.now.counts in
    let now = c.loop-clause.tally.counts in
    let lt = c.requires.low k c.loop-clause-test.true in
    let out = next_out xs k c.requires.once c.loop-clause-test.true in
    let e = still now was xs k v c.loop-clause.invariant.each lt out in
    let counts : c.lower.new.self.counts ≡ set now n (lowered (count_at now n) v) = c.lower.ensures.counts in
    let len = c.loop-clause.invariant.len in
    record {
      vars = c.lower.ensures.vars ∙ c.loop-clause.invariant.vars;
      len = ap (λ (ys : List Count). length ys) counts ∙ length-set now n (lowered (count_at now n) v) ∙ c.loop-clause.invariant.len;
      each = λ i low. elim (cases_eq i n) as (λ _. count_at c.lower.new.self.counts i ≡ (if is_in (take (k + 1) xs) i then lowered (count_at was i) v else count_at was i)) [
        | inl is ↦ (
            ap (λ (ys : List Count). count_at ys i) counts ∙ ap (λ (j : ℕ). count_at (set now n (lowered (count_at now n) v)) j) is
            ∙ get_or-set_same now n (lowered (count_at now n) v) nothing (omega arith) ∙ ap (λ (x : Count). lowered x v) e ∙ ap (λ (j : ℕ). lowered (count_at was j) v) (sym is)
            ∙ sym (yes (is_in (take (k + 1) xs) i) (lowered (count_at was i) v) (count_at was i) (in_more xs k i c.loop-clause-test.true ∙ ap (λ (b : Bool). is_in (take k xs) i || b) (eq-eqb n i (sym is)) ∙ or_true (is_in (take k xs) i))))
        | inr other ↦ (
            ap (λ (ys : List Count). count_at ys i) counts ∙ get_or-set_other now n i (lowered (count_at now n) v) nothing other ∙ c.loop-clause.invariant.each i low
            ∙ ap (λ (b : Bool). if b then lowered (count_at was i) v else count_at was i) (sym (in_more xs k i c.loop-clause-test.true ∙ ap (λ (b : Bool). is_in (take k xs) i || b) (ne_eqb n i (λ q. other (sym q))) ∙ or_false (is_in (take k xs) i))))
      ];
    }
  where
    or_true : (b : Bool) → (b || true) ≡ true
    or_true b = by b
      where
        by : (b : Bool) → (b || true) ≡ true
        by true = λ i. true
        by false = λ i. true

    or_false : (b : Bool) → (b || false) ≡ b
    or_false b = by b
      where
        by : (b : Bool) → (b || false) ≡ b
        by true = λ i. true
        by false = λ i. false
