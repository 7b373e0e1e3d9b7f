use Rattle.std.proofs.Common.{◌≡◌, ◌∙◌, ◌⊎◌, ◌++◌, ◌∷◌, [], ℕ, List, get_or, sym, ap, subst, inl, inr}
use Rattle.std.specs.List.{Contains}
use Rattle.simp_base.proofs.Lists.{Contains_left, Contains_last}
use Rattle.simp_subsume.specs.Signed.{IsRuledOut}
use Rattle.simp_subsume.proofs.Fronts.{take_all}
use Rattle.simp_subsume.proofs.Signing.{listed_more}
use Rattle.simp_subsume.proofs.candidates.append_alike.Goals as goal
use Rattle.simp_subsume.proofs.candidates.append_alike.Goals.{then-may_have+in_ok-push, else-may_have}

pub loop-number-preserved : goal.loop-number-preserved
loop-number-preserved c =
    let numbers = c.args.numbers.now in let i = c.loop-number.number-index in let m : ℕ = get_or numbers i 0 in
    let old = c.loop-number.others.items in let new = c.if-may_have.others.items in
    let t : ((n : ℕ) → Contains old n → Contains new n) × (IsRuledOut c.args.signatures.now c.args.wanted m ⊎ Contains new m) = elim c.if-may_have.branch [
      | then-may_have+in_ok-push w ↦ (
          let is : new ≡ old ++ m ∷ [] = ap (λ v. v.items) w.others-is ∙ w.in_ok-push.ensures.ok in
          (λ n h. subst (λ (xs : List ℕ). Contains xs n) (sym is) (Contains_left old (m ∷ []) n h), inr (subst (λ (xs : List ℕ). Contains xs m) (sym is) (Contains_last old m))))
      | else-may_have w ↦ (λ n h. subst (λ v. Contains v.items n) (sym w.others-is) h, inl (c.may_have.ensures w.if-may_have.false))
    ] in
    record {
      kept = λ n h. t.0 n (c.loop-number.invariant.kept n h);
      every = listed_more numbers old new c.args.signatures.now c.args.wanted i c.loop-number-test.true t.0 t.1 c.loop-number.invariant.every;
    }

pub returns-clause-every : goal.returns-clause-every
returns-clause-every c n h = c.loop-number.invariant.every n (subst (λ (xs : List ℕ). Contains xs n) (sym (take_all c.args.numbers.now c.loop-number.number-index c.loop-number-test.false)) h)
