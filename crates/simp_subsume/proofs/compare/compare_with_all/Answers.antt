use Rattle.std.proofs.Common.{◌≡◌, ◌<◌, ◌+◌, ◌∙◌, ℕ, List, length, ap, sym, subst, get_or, drop, add-one, ◌∷◌}
use Rattle.std.proofs.Math.Seq.{drop-cons}
use Rattle.simp_subsume.specs.Compared.{Comparing, WasCompared}
use Rattle.simp_subsume.proofs.Replacing.{stopped_comparing}
use Rattle.simp_subsume.proofs.compare.compare_with_all.Goals as goal

front : (numbers : List ℕ) (i : ℕ) → i < length numbers → drop i numbers ≡ get_or numbers i 0 ∷ drop (i + 1) numbers
front numbers i lt = drop-cons numbers i 0 lt ∙ ap (λ j. get_or numbers i 0 ∷ drop j numbers) (sym (add-one i))

pub loop-other-preserved : goal.loop-other-preserved
loop-other-preserved g c =
    let start = c.args.work.now in let x = c.args.clause.now in let now = c.loop-other.work in let new = c.compare.new.work in
    let numbers = c.args.others.now in let i = c.loop-other.other-index in let m : ℕ = get_or numbers i 0 in
    subst (λ r. WasCompared now new c.args.number x m r) c.in-Ok.is c.compare.ensures.compared start (drop (i + 1) numbers)
    (subst (λ rest. Comparing start now c.args.number x rest) (front numbers i c.loop-other-test.true) c.loop-other.invariant)

pub returns-in-Err-clause-compared : goal.returns-in-Err-clause-compared
returns-in-Err-clause-compared g c =
    let start = c.args.work.now in let x = c.args.clause.now in let now = c.loop-other.work in let new = c.compare.new.work in
    let numbers = c.args.others.now in let i = c.loop-other.other-index in let m : ℕ = get_or numbers i 0 in
    stopped_comparing start now new c.args.number x (drop i numbers) c.in-Err.stop c.loop-other.invariant (subst (λ r. WasCompared now new c.args.number x m r) c.in-Err.is c.compare.ensures.compared)
