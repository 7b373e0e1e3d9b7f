use Rattle.std.proofs.Common.{sym, subst, List, ℕ}
use Rattle.sat_words.specs.Literal.{IsOn}
use Rattle.simp_base.specs.WorkState.{has_unit, lists}
use Rattle.std.specs.List.{All}
use Rattle.simp_base.proofs.Lists.{All_In}
use Rattle.simp_equiv.specs.Graphs.{AreComponents, InRange}
use Rattle.simp_equiv.specs.Leasts.{AreLeast}
use Rattle.simp_equiv.proofs.Tabled.{table_from}
use Rattle.simp_equiv.proofs.table.representatives.Goals as goal

pub components-requires : goal.components-requires
components-requires g c = subst (λ (D : List (List ℕ)). InRange D) (sym c.as_slice.ensures.value) c.in_ok-graph.ensures.range

pub returns : goal.returns
returns g c =
    let w = c.args.work.now in
    table_from (has_unit w) w.clauses w.vars c.in_ok-graph.graph.items c.in_ok-numbers.numbers.items c.in_ok-least.least.items
    (λ d i l j. All_In (IsOn w.vars) d l (All_In (All (IsOn w.vars)) (lists w.clauses) d c.clauses-clauses.ensures.work.clauses_on i) j)
    c.in_ok-graph.ensures
    (subst (λ (D : List (List ℕ)). AreComponents D c.in_ok-numbers.numbers.items) c.as_slice.ensures.value c.in_ok-numbers.ensures)
    (subst (λ (ns : List ℕ). AreLeast ns c.in_ok-least.least.items) c.as_slice-2.ensures.value c.in_ok-least.ensures)
