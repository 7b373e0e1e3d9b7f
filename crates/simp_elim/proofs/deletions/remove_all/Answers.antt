use Rattle.std.proofs.Common.{◌≡◌, ℕ, [], ◌∷◌, get_or, subst, Contains, ⊎_elim}
use Rattle.rup_model.proofs.Lists.{Contains_In}
use Rattle.simp_base.proofs.Known.{first_or_rest}
use Rattle.simp_elim.specs.Stages.{WasRemoved}
use Rattle.simp_elim.proofs.Counting.{at_place}
use Rattle.simp_elim.proofs.Growing.{stopped_after}
use Rattle.simp_elim.proofs.Removing.{removed_next}
use Rattle.simp_elim.proofs.deletions.remove_all.Goals as goal

pub remove_at-requires-clause-long : goal.remove_at-requires-clause-long
remove_at-requires-clause-long g c n x h i =
    let numbers = c.args.numbers.now in let m : ℕ = get_or numbers c.loop-number.number-index 0 in
    let there : Contains numbers n = ⊎_elim
    (λ (e : m ≡ n). subst (λ (k : ℕ). Contains numbers k) e (at_place numbers c.loop-number.number-index c.loop-number-test.true))
    (λ (z : Contains [] n). absurd (Contains_In [] n z))
    (first_or_rest m [] n h) in
    c.requires.long n x there (c.loop-number.invariant.fewer n x i)

pub returns-in-Err-clause-removed : goal.returns-in-Err-clause-removed
returns-in-Err-clause-removed g c =
    let m : ℕ = get_or c.args.numbers.now c.loop-number.number-index 0 in
    stopped_after c.args.work.now c.loop-number.work c.remove_at.new.work c.in-Err.stop c.loop-number.invariant.on
    (subst (λ r. WasRemoved c.loop-number.work c.remove_at.new.work (m ∷ []) r) c.in-Err.is c.remove_at.ensures.removed)

pub loop-number-preserved : goal.loop-number-preserved
loop-number-preserved g c =
    let m : ℕ = get_or c.args.numbers.now c.loop-number.number-index 0 in
    removed_next c.args.work.now c.loop-number.work c.remove_at.new.work c.args.numbers.now c.loop-number.number-index c.loop-number-test.true c.loop-number.invariant
    (subst (λ r. WasRemoved c.loop-number.work c.remove_at.new.work (m ∷ []) r) c.in-Ok.is c.remove_at.ensures.removed)
