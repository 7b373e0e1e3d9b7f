use Rattle.std.proofs.Common.{◌≡◌, ◌∙◌, ◌++◌, ℕ, ◌<◌, ◌≤◌, ap, sym, subst, List, length, get_or, take}
use Rattle.std.specs.List.{All}
use Rattle.std.proofs.lemmas.List.{take_all}
use Rattle.sat_words.specs.Literal.{Literal, IsOn}
use Rattle.rup_model.proofs.Lists.{In_map, In_get_or}
use Rattle.simp_base.specs.WorkState.{has_unit, lists}
use Rattle.simp_base.proofs.Lists.{All_In}
use Rattle.simp_equiv.specs.Arrows.{Arrow, Draws, arrows, arrows_in}
use Rattle.simp_equiv.proofs.Edges.{flat_more}
use Rattle.simp_equiv.proofs.graph.graph_of.Goals as goal

pub add_arrows-requires-clause-on : goal.add_arrows-requires-clause-on
add_arrows-requires-clause-on g c =
    let w = c.args.work.now in let i = c.loop-cell.cell-index in let cell : ℕ × List Literal = c.cell-item.result in
    let same = c.clauses-cell-items.ensures.clauses in
    let lt : i < length w.clauses = subst (λ (xs : List (ℕ × List Literal)). i < length xs) same c.loop-cell-test.true in
    let is : cell ≡ get_or w.clauses i cell = c.cell-item.is ∙ ap (λ (xs : List (ℕ × List Literal)). get_or xs i cell) same in
    subst (λ (ls : List Literal). All (IsOn w.vars) ls) (ap (λ (x : ℕ × List Literal). x.1) (sym is) ∙ sym c.lits.ensures.value)
    (All_In (All (IsOn w.vars)) (lists w.clauses) (get_or w.clauses i cell).1 c.clauses-cell-items.ensures.work.clauses_on (In_map (λ (x : ℕ × List Literal). x.1) w.clauses (get_or w.clauses i cell) (In_get_or w.clauses i cell lt)))

pub loop-cell-preserved : goal.loop-cell-preserved
loop-cell-preserved g c =
    let w = c.args.work.now in let i = c.loop-cell.cell-index in let cell : ℕ × List Literal = c.cell-item.result in
    let same = c.clauses-cell-items.ensures.clauses in
    let lt : i < length w.clauses = subst (λ (xs : List (ℕ × List Literal)). i < length xs) same c.loop-cell-test.true in
    let is : cell ≡ get_or w.clauses i cell = c.cell-item.is ∙ ap (λ (xs : List (ℕ × List Literal)). get_or xs i cell) same in
    let f : ℕ × List Literal → List Arrow = λ x. arrows (has_unit w) x.1 in
    let given : List Arrow = arrows_in (has_unit w) (take i w.clauses) in
    subst (λ (gs : List Arrow). Draws w.vars gs c.add_arrows.new.graph.items)
    (ap (λ (x : List Literal). given ++ arrows (has_unit w) x) c.lits.ensures.value ∙ sym (flat_more f w.clauses i cell lt is))
    (c.in_ok-add_arrows.ensures given c.loop-cell.invariant)

pub returns : goal.returns
returns g c =
    let w = c.args.work.now in let i = c.loop-cell.cell-index in
    let same = c.clauses-cell-items.ensures.clauses in
    subst (λ (xs : List (ℕ × List Literal)). Draws w.vars (arrows_in (has_unit w) xs) c.loop-cell.graph.items)
    (take_all i w.clauses (subst (λ (xs : List (ℕ × List Literal)). length xs ≤ i) same c.loop-cell-test.false))
    c.loop-cell.invariant
