use Rattle.std.proofs.Common.{ℕ, List, ◌∷◌, [], get_or, map, take, subst}
use Rattle.std.proofs.lemmas.List.Elements.{Contains-get_or}
use Rattle.sat_words.specs.Literal.{opposite}
use Rattle.simp_add.specs.Stages.{Grown, WasGrown, set_at}
use Rattle.simp_add.proofs.OneMore.{take_whole}
use Rattle.simp_add.proofs.Growing.{stopped_after, grown_log, commons_come, commons_next}
use Rattle.simp_add.proofs.replacement.add_commons.Goals as goal

pub add_common-requires-clause-comes : goal.add_common-requires-clause-comes
add_common-requires-clause-comes g c =
    let a = c.args.work.now in let i = c.loop-number.number-index in
    commons_come a c.loop-number.work c.args.fresh c.args.lit c.args.firsts.now i c.requires.work c.requires.come c.loop-number.invariant (get_or c.args.firsts.now i 0) (Contains-get_or c.args.firsts.now i 0 c.loop-number-test.true)

pub returns-in-Err-clause-grown : goal.returns-in-Err-clause-grown
returns-in-Err-clause-grown g c =
    let a = c.args.work.now in let now = c.loop-number.work in let n : ℕ = get_or c.args.firsts.now c.loop-number.number-index 0 in
    stopped_after a now c.add_common.new.work c.in-Err.stop c.loop-number.invariant.on.quiet (grown_log a now (map (λ m. opposite c.args.fresh ∷ set_at a.clauses c.args.lit m) (take c.loop-number.number-index c.args.firsts.now)) c.loop-number.invariant)
    (subst (λ r. WasGrown now c.add_common.new.work ((opposite c.args.fresh ∷ set_at now.clauses c.args.lit n) ∷ []) r) c.in-Err.is c.add_common.ensures.grown)

pub loop-number-preserved : goal.loop-number-preserved
loop-number-preserved g c =
    let a = c.args.work.now in let now = c.loop-number.work in let i = c.loop-number.number-index in let n : ℕ = get_or c.args.firsts.now i 0 in
    commons_next a now c.args.fresh c.args.lit c.args.firsts.now i c.requires.work c.requires.come c.loop-number.invariant c.add_common.new.work c.loop-number-test.true
    (subst (λ r. WasGrown now c.add_common.new.work ((opposite c.args.fresh ∷ set_at now.clauses c.args.lit n) ∷ []) r) c.in-Ok.is c.add_common.ensures.grown)

pub returns-clause-grown : goal.returns-clause-grown
returns-clause-grown g c =
    let a = c.args.work.now in
    subst (λ (ns : List ℕ). Grown a c.loop-number.work (map (λ m. opposite c.args.fresh ∷ set_at a.clauses c.args.lit m) ns)) (take_whole c.args.firsts.now c.loop-number.number-index c.loop-number-test.false) c.loop-number.invariant
