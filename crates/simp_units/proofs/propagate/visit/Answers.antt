use Rattle.std.proofs.Common.{◌≡◌, ◌<◌, ◌+◌, ℕ, List, length, ap, sym, ◌∙◌, subst, get_or, drop, add-one, ◌∷◌, Ok}
use Rattle.std.proofs.Math.Seq.{drop-cons}
use Rattle.simp_units.specs.Progress.{Passed, WasLookedAt}
use Rattle.simp_units.proofs.Steps.{passed_more, stuck_here, stopped_here}
use Rattle.simp_units.proofs.propagate.visit.Goals as goal

front : (numbers : List ℕ) (i : ℕ) → i < length numbers → drop i numbers ≡ get_or numbers i 0 ∷ drop (i + 1) numbers
front numbers i lt = drop-cons numbers i 0 lt ∙ ap (λ j. get_or numbers i 0 ∷ drop j numbers) (sym (add-one i))

pub loop-number-preserved : goal.loop-number-preserved
loop-number-preserved g c =
    let old = c.args.work.now in let a = c.args.values.now in let now = c.loop-number.work in let b = c.loop-number.values in
    let new = c.look_at.new.work in let e = c.look_at.new.values in let numbers = c.args.numbers.now in let i = c.loop-number.number-index in
    let q : ℕ = get_or numbers i 0 in
    passed_more old now new a b e numbers q (drop (i + 1) numbers)
    (subst (λ rest. Passed old a now b numbers rest) (front numbers i c.loop-number-test.true) c.loop-number.invariant)
    c.look_at.ensures.work c.look_at.ensures.log
    (subst (λ r. WasLookedAt now b new e q r) (c.in-Ok-Quiet.is ∙ ap Ok c.in-Ok-Quiet.field-0-is) c.look_at.ensures.looked)

pub returns-in-Ok-Conflict-clause-visited : goal.returns-in-Ok-Conflict-clause-visited
returns-in-Ok-Conflict-clause-visited g c =
    let old = c.args.work.now in let a = c.args.values.now in let now = c.loop-number.work in let b = c.loop-number.values in
    let new = c.look_at.new.work in let e = c.look_at.new.values in let numbers = c.args.numbers.now in let i = c.loop-number.number-index in
    let q : ℕ = get_or numbers i 0 in
    stuck_here old now new a b e numbers q (drop (i + 1) numbers)
    (subst (λ rest. Passed old a now b numbers rest) (front numbers i c.loop-number-test.true) c.loop-number.invariant)
    c.look_at.ensures.work c.look_at.ensures.log
    (subst (λ r. WasLookedAt now b new e q r) (c.in-Ok-Conflict.is ∙ ap Ok c.in-Ok-Conflict.field-0-is) c.look_at.ensures.looked)

pub returns-in-Err-clause-visited : goal.returns-in-Err-clause-visited
returns-in-Err-clause-visited g c =
    let old = c.args.work.now in let a = c.args.values.now in let now = c.loop-number.work in let b = c.loop-number.values in
    let new = c.look_at.new.work in let e = c.look_at.new.values in let numbers = c.args.numbers.now in let i = c.loop-number.number-index in
    let q : ℕ = get_or numbers i 0 in
    stopped_here old now new a b e numbers q (drop (i + 1) numbers)
    (subst (λ rest. Passed old a now b numbers rest) (front numbers i c.loop-number-test.true) c.loop-number.invariant)
    c.look_at.ensures.work c.look_at.ensures.log c.in-Err.stop
    (subst (λ r. WasLookedAt now b new e q r) c.in-Err.is c.look_at.ensures.looked)
