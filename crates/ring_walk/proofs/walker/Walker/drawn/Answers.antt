use Rattle.std.proofs.Common.{◌≡◌, ◌∙◌, ◌<◌, false, List, [], length, get_or, sym, ap, arith}
use Rattle.std.proofs.lemmas.Bool.{not-true}
use Rattle.std.proofs.lemmas.List.{length-map, get_or_default}
use Rattle.sat_words.specs.Literal.{Literal}
use Rattle.sat_words.specs.Truth.{lit_true, clause_true}
use Rattle.ring_walk.specs.declared.tally.Count.{Count}
use Rattle.ring_walk.specs.Tally.{is_false, count_at}
use Rattle.ring_walk.specs.Truths.{count_of}
use Rattle.ring_walk.specs.WalkData.{WalkData}
use Rattle.ring_walk.proofs.Ordered.{short}
use Rattle.ring_walk.proofs.Truths.{false_is}
use Rattle.ring_walk.proofs.Flipping.{count_get}
use Rattle.ring_walk.proofs.walker.Walker.drawn.Goals as goal
use Rattle.ring_walk.proofs.walker.Walker.drawn.Goals.{After-lits}

inside : (c : After-lits) → c.false_at-clause.result < length c.self.inside.clauses.now
inside c =
    let w = c.self.inside in
    let l = ap (λ (xs : List Count). length xs) c.self.invariant.counts ∙ length-map w.clauses.now (count_of (lit_true w.kept.values)) in
    let low = c.false_at-clause.ensures.low in
    omega arith

lits_are : (c : After-lits) → c.lits.result.now ≡ get_or c.self.inside.clauses.now c.false_at-clause.result []
lits_are c = c.lits.ensures.value ∙ get_or_default c.self.inside.clauses.now c.false_at-clause.result c.index-self-clause.result [] (inside c)

pub returns-clause-is_false : goal.returns-clause-is_false
returns-clause-is_false c =
    let at = (goal.at.returns-clause-is_false c).After-lits in
    let w = c.self.inside in
    let i = c.false_at-clause.result in
    let T = lit_true w.kept.values in
    let counted : count_at w.tally.counts i ≡ count_of T (get_or w.clauses.now i []) = ap (λ (xs : List Count). count_at xs i) c.self.invariant.counts ∙ count_get T w.clauses.now i (inside at) in
    let none : clause_true w.kept.values (get_or w.clauses.now i []) ≡ false =
    not-true (clause_true w.kept.values (get_or w.clauses.now i [])) (sym (false_is T (get_or w.clauses.now i [])) ∙ sym (ap is_false counted) ∙ c.false_at-clause.ensures.is) in
    ap (λ (d : WalkData). clause_true d.values c.lits.result.now) (sym c.self.view_is) ∙ ap (clause_true w.kept.values) (lits_are at) ∙ none

pub returns-clause-small : goal.returns-clause-small
returns-clause-small c =
    let at = (goal.at.returns-clause-small c).After-lits in
    let w = c.self.inside in
    let i = c.false_at-clause.result in
    let s = short w.tally.vars (get_or w.clauses.now i []) (c.self.invariant.ordered i [] (inside at)) (c.self.invariant.on i [] (inside at)) in
    let e = ap (λ (d : List Literal). length d) (lits_are at) in
    let small = c.self.invariant.small in
    omega arith
