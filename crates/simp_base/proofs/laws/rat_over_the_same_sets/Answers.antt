use Rattle.rup_model.proofs.Lists.{Contains_In, In_Contains}
use Rattle.simp_base.proofs.WiderClauses.{rat_covered}
use Rattle.simp_base.proofs.laws.rat_over_the_same_sets.Goals as goal

pub returns : goal.returns
returns x = λ G H c forth back r. rat_covered G H c
    (λ d i. (let t = forth d (In_Contains G d i) in (t.0, Contains_In H t.0 t.1, t.2)))
    (λ d i. (let t = back d (In_Contains H d i) in (t.0, Contains_In G t.0 t.1, t.2))) r
