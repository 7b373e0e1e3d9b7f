use Rattle.std.proofs.Common.{◌≡◌, ◌∙◌, ◌≤◌, ◌<◌, ℕ, List, length, get_or, sym, ap, subst}
use Rattle.std.specs.List.{All}
use Rattle.sat_words.specs.Literal.{Literal, IsOn}
use Rattle.simp_base.proofs.Known.{on_alive}
use Rattle.simp_base.proofs.Lists.{In_All}
use Rattle.simp_elim.proofs.Heights.{wider_all, all_next, all_lists}
use Rattle.simp_elim.proofs.Within.{take_whole}
use Rattle.simp_elim.proofs.passes.highest_var.Goals as goal

pub loop-cell-preserved : goal.loop-cell-preserved
loop-cell-preserved g c =
    let w = c.args.work.now in let i = c.loop-cell.cell-index in let cell : ℕ × List Literal = c.cell-item.result in let top = c.loop-cell.highest in let new = c.highest_in-highest.result in
    let same = c.clauses-cell-items.ensures.clauses in
    let lt : i < length w.clauses = subst (λ (xs : List (ℕ × List Literal)). i < length xs) same c.loop-cell-test.true in
    let is : cell ≡ get_or w.clauses i cell = c.cell-item.is ∙ ap (λ (xs : List (ℕ × List Literal)). get_or xs i cell) same in
    let on : All (IsOn w.vars) cell.1 = In_All (IsOn w.vars) cell.1 (λ k j. on_alive w c.clauses-cell-items.ensures.work cell.0 cell.1 (i, lt, sym is) k j) in
    record {
      few = c.highest_in-highest.ensures.few c.loop-cell.invariant.few;
      within = c.highest_in-highest.ensures.within w.vars c.loop-cell.invariant.within on;
      all = all_next (λ (x : ℕ × List Literal). All (IsOn top) x.1) (λ (x : ℕ × List Literal). All (IsOn new) x.1) w.clauses i cell lt is (λ y h. wider_all top new c.highest_in-highest.ensures.above y.1 h) c.loop-cell.invariant.all c.highest_in-highest.ensures.all;
    }

pub returns : goal.returns
returns g c =
    let w = c.args.work.now in let same = c.clauses-cell-items.ensures.clauses in
    let end : length w.clauses ≤ c.loop-cell.cell-index = subst (λ (xs : List (ℕ × List Literal)). length xs ≤ c.loop-cell.cell-index) same c.loop-cell-test.false in
    record {
      few = c.loop-cell.invariant.few;
      within = c.loop-cell.invariant.within;
      all = all_lists (All (IsOn c.loop-cell.highest)) w.clauses (subst (λ (xs : List (ℕ × List Literal)). All (λ x. All (IsOn c.loop-cell.highest) x.1) xs) (take_whole w.clauses c.loop-cell.cell-index end) c.loop-cell.invariant.all);
    }
