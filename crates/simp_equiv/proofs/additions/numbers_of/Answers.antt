use Rattle.std.proofs.Common.{◌≡◌, ◌∙◌, ℕ, ◌<◌, List, length, get_or, sym, ap, subst}
use Rattle.sat_words.specs.Literal.{Literal}
use Rattle.simp_equiv.proofs.Adding.{all_stand}
use Rattle.simp_equiv.proofs.additions.numbers_of.Goals as goal

pub is_replaced-requires : goal.is_replaced-requires
is_replaced-requires g c =
    let w = c.args.work.now in let i = c.loop-cell.cell-index in let cell : ℕ × List Literal = c.cell-item.result in
    let same = c.clauses-cell-items.ensures.clauses in
    let lt : i < length w.clauses = subst (λ (xs : List (ℕ × List Literal)). i < length xs) same c.loop-cell-test.true in
    let is : cell ≡ get_or w.clauses i cell = c.cell-item.is ∙ ap (λ (xs : List (ℕ × List Literal)). get_or xs i cell) same in
    all_stand w c.args.table.now c.clauses-cell-items.ensures.work c.requires cell.0 cell.1 (i, lt, sym is)
