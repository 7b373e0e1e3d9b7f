use Rattle.std.proofs.Common.{◌∙◌, ◌≤◌, All, List, map, subst, arith}
use Rattle.std.proofs.lemmas.List.Elements.{All-more, All-weaker}
use Rattle.sat_words.specs.Literal.{Literal}
use Rattle.rup_model.proofs.Items.{map_below, map_item, map_end}
use Rattle.rup_model.proofs.range.greatest_of_all.Goals as goal

pub loop-clause-preserved : goal.loop-clause-preserved
loop-clause-preserved g c =
    let f = g.C.Literals.lits in
    let item = c.clause-item.result in
    All-more (All (λ (k : Literal). k.var ≤ c.max-most.result)) (map f c.args.clauses.now) c.loop-clause.clause-index (f item) (map_below f c.args.clauses.now c.loop-clause.clause-index c.loop-clause-test.true)
    (All-weaker (All (λ (k : Literal). k.var ≤ c.loop-clause.most)) (All (λ (k : Literal). k.var ≤ c.max-most.result))
    (λ d. All-weaker (λ (k : Literal). k.var ≤ c.loop-clause.most) (λ (k : Literal). k.var ≤ c.max-most.result) (λ k h. omega arith) d) _ c.loop-clause.invariant)
    (subst (λ (d : List Literal). All (λ (k : Literal). k.var ≤ c.max-most.result) d) (c.lits.ensures ∙ map_item f c.args.clauses.now c.loop-clause.clause-index item c.clause-item.is)
    (All-weaker (λ (k : Literal). k.var ≤ c.greatest.result) (λ (k : Literal). k.var ≤ c.max-most.result) (λ k h. omega arith) _ c.greatest.ensures))

pub returns : goal.returns
returns g c =
    subst (λ (xs : List (List Literal)). All (All (λ (k : Literal). k.var ≤ c.loop-clause.most)) xs) (map_end g.C.Literals.lits c.args.clauses.now c.loop-clause.clause-index c.loop-clause-test.false) c.loop-clause.invariant
