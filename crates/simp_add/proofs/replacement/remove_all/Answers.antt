use Rattle.std.proofs.Common.{ℕ, [], ◌∷◌, get_or, map, subst, Contains}
use Rattle.std.proofs.lemmas.List.Elements.{Contains-get_or}
use Rattle.simp_base.specs.Calls.{ruler_deletes}
use Rattle.simp_base.proofs.Widening.{continues_grows}
use Rattle.simp_add.specs.Stages.{WasRemoved}
use Rattle.simp_add.proofs.Growing.{stopped_after}
use Rattle.simp_add.proofs.Removing.{only, removed_next}
use Rattle.simp_add.proofs.replacement.remove_all.Goals as goal

pub remove_at-requires-clause-long : goal.remove_at-requires-clause-long
remove_at-requires-clause-long g c n x h i =
    let numbers = c.args.numbers.now in let m : ℕ = get_or numbers c.loop-number.number-index 0 in
    c.requires.long n x (subst (λ (k : ℕ). Contains numbers k) (only m n h) (Contains-get_or numbers c.loop-number.number-index 0 c.loop-number-test.true)) ((c.loop-number.invariant.clauses n x).0 i).0

pub returns-in-Err-clause-removed : goal.returns-in-Err-clause-removed
returns-in-Err-clause-removed g c =
    let m : ℕ = get_or c.args.numbers.now c.loop-number.number-index 0 in
    let inv = c.loop-number.invariant in
    stopped_after c.args.work.now c.loop-number.work c.remove_at.new.work c.in-Err.stop inv.on.quiet (map ruler_deletes inv.gone, continues_grows (map ruler_deletes inv.gone) c.args.work.now c.loop-number.work inv.log)
    (subst (λ r. WasRemoved c.loop-number.work c.remove_at.new.work (m ∷ []) r) c.in-Err.is c.remove_at.ensures.removed)

pub loop-number-preserved : goal.loop-number-preserved
loop-number-preserved g c =
    let m : ℕ = get_or c.args.numbers.now c.loop-number.number-index 0 in
    removed_next c.args.work.now c.loop-number.work c.remove_at.new.work c.args.numbers.now c.loop-number.number-index c.loop-number-test.true c.loop-number.invariant
    (subst (λ r. WasRemoved c.loop-number.work c.remove_at.new.work (m ∷ []) r) c.in-Ok.is c.remove_at.ensures.removed)
