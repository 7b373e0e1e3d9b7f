use Rattle.std.proofs.Common.{◌≡◌, ◌<◌, ◌+◌, ◌∙◌, ℕ, List, length, ap, sym, subst, get_or, drop, add-one, ◌∷◌, Contains}
use Rattle.std.proofs.Math.Seq.{drop-cons}
use Rattle.simp_units.specs.Tidied.{Tidied, WasTidied}
use Rattle.simp_units.proofs.Cleaning.{tidied_start, stopped_tidying}
use Rattle.simp_units.proofs.clean.clean.Goals as goal

front : (numbers : List ℕ) (i : ℕ) → i < length numbers → drop i numbers ≡ get_or numbers i 0 ∷ drop (i + 1) numbers
front numbers i lt = drop-cons numbers i 0 lt ∙ ap (λ j. get_or numbers i 0 ∷ drop j numbers) (sym (add-one i))

pub loop-number-init : goal.loop-number-init
loop-number-init g c =
    tidied_start c.args.work.now c.args.values.now c.deref-number-items.result.now c.requires.set c.requires.settled
    (λ n d i. subst (λ (xs : List ℕ). Contains xs n) (sym c.deref-number-items.ensures.value) (c.in_ok-numbers.ensures.every n d i))

pub loop-number-preserved : goal.loop-number-preserved
loop-number-preserved g c =
    let start = c.args.work.now in let a = c.args.values.now in let now = c.loop-number.work in let new = c.tidy.new.work in
    let numbers = c.deref-number-items.result.now in let i = c.loop-number.number-index in let q : ℕ = get_or numbers i 0 in
    subst (λ r. WasTidied now new a q r) c.in-Ok.is c.tidy.ensures.tidied start (drop (i + 1) numbers)
    (subst (λ rest. Tidied start now a rest) (front numbers i c.loop-number-test.true) c.loop-number.invariant)

pub returns-in-Err-clause-cleaned : goal.returns-in-Err-clause-cleaned
returns-in-Err-clause-cleaned g c =
    let start = c.args.work.now in let a = c.args.values.now in let now = c.loop-number.work in let new = c.tidy.new.work in
    let numbers = c.deref-number-items.result.now in let i = c.loop-number.number-index in let q : ℕ = get_or numbers i 0 in
    stopped_tidying start now new a (drop i numbers) c.in-Err.stop c.loop-number.invariant (subst (λ r. WasTidied now new a q r) c.in-Err.is c.tidy.ensures.tidied)
