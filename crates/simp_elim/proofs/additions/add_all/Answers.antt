use Rattle.std.proofs.Common.{◌≡◌, ◌∙◌, ◌∷◌, ◌++◌, ◌+◌, [], List, sym, ap, subst, take}
use Rattle.sat_words.specs.Literal.{Literal}
use Rattle.simp_elim.specs.Stages.{CanCome, Grown, WasGrown}
use Rattle.simp_elim.proofs.Growing.{comes_later, grown_along, stopped_after}
use Rattle.simp_elim.proofs.Within.{take_next}
use Rattle.simp_elim.proofs.additions.add_all.Goals as goal

pub add_clause-requires-clause-comes : goal.add_clause-requires-clause-comes
add_clause-requires-clause-comes g c =
    let i = c.loop-clause.clause-index in let x : List Literal = c.clause-item.result in
    subst (λ (xs : List Literal). CanCome c.loop-clause.work xs) (sym c.lits.ensures.value)
    (comes_later c.args.work.now c.loop-clause.work (take i c.args.clauses.now) x c.loop-clause.invariant (c.requires.each x (i, c.loop-clause-test.true, sym c.clause-item.is)))

pub returns-in-Err-clause-grown : goal.returns-in-Err-clause-grown
returns-in-Err-clause-grown g c =
    stopped_after c.args.work.now c.loop-clause.work c.add_clause.new.work c.in-Err.stop c.loop-clause.invariant.on
    (subst (λ r. WasGrown c.loop-clause.work c.add_clause.new.work (c.lits.result.now ∷ []) r) c.in-Err.is c.add_clause.ensures.grown)

pub loop-clause-preserved : goal.loop-clause-preserved
loop-clause-preserved g c =
    let old = c.args.work.now in let now = c.loop-clause.work in let new = c.add_clause.new.work in let i = c.loop-clause.clause-index in let x : List Literal = c.clause-item.result in
    let one = subst (λ r. WasGrown now new (c.lits.result.now ∷ []) r) c.in-Ok.is c.add_clause.ensures.grown in
    let whole : take (i + 1) c.args.clauses.now ≡ take i c.args.clauses.now ++ c.lits.result.now ∷ [] =
    take_next c.args.clauses.now i x c.loop-clause-test.true ∙ ap (λ (y : List Literal). take i c.args.clauses.now ++ y ∷ []) (sym (c.lits.ensures.value ∙ c.clause-item.is)) in
    subst (λ (xs : List (List Literal)). Grown old new xs) (sym whole) (grown_along old now new (take i c.args.clauses.now) (c.lits.result.now ∷ []) c.loop-clause.invariant one)
