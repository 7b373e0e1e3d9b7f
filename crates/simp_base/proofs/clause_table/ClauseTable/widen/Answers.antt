use Rattle.std.proofs.Common.{◌∙◌, ℕ, Option, None, List, [], ◌∷◌, ◌++◌, ap, sym, subst}
use Rattle.simp_base.specs.Tables.{IsTable}
use Rattle.simp_base.proofs.TableWidening.{table_wider}
use Rattle.simp_base.proofs.clause_table.ClauseTable.widen.Goals as goal

pub invariant_of-self-2 : goal.invariant_of-self-2
invariant_of-self-2 c =
    let i = c.self.inside in
    subst (λ (ns : List (List ℕ)). IsTable i.cells.items i.places.items c.push_reserved-2.new.self.items i.clash ns) (sym c.in_ok-widen.ensures.ok)
    (subst (λ (bs : List (Option ℕ)). IsTable i.cells.items i.places.items bs i.clash (i.occurrences ++ [] ∷ [] ∷ []))
    (sym (c.push_reserved-2.ensures.items ∙ ap (λ (bs : List (Option ℕ)). bs ++ None ∷ []) (c.push_reserved.ensures.items ∙ ap (λ (bs : List (Option ℕ)). bs ++ None ∷ []) c.reserve.ensures.items)))
    (table_wider i.cells.items i.places.items i.alone.items i.clash i.occurrences c.self.invariant))
