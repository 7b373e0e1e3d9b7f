use Rattle.std.proofs.Common.{sym, subst, List, ℕ}
use Rattle.sat_words.specs.Literal.{Literal}
use Rattle.simp_base.specs.Tables.{IsTable}
use Rattle.simp_base.proofs.TableLemmas.{table_noted}
use Rattle.simp_base.proofs.clause_table.ClauseTable.make_ready.Goals as goal

pub invariant_of-self-in_err-note_all : goal.invariant_of-self-in_err-note_all
invariant_of-self-in_err-note_all c =
    let i = c.self.inside in
    subst (λ (cs : List (ℕ × List Literal)). IsTable cs c.reserve-2.new.self.items i.alone.items i.clash c.note_all.new.self) (sym c.reserve.ensures.items)
    (subst (λ (ps : List ℕ). IsTable i.cells.items ps i.alone.items i.clash c.note_all.new.self) (sym c.reserve-2.ensures.items)
    (table_noted i.cells.items i.places.items i.alone.items i.clash i.occurrences c.self.invariant c.note_all.new.self c.note_all.ensures.kept))

pub invariant_of-self-2 : goal.invariant_of-self-2
invariant_of-self-2 c =
    let i = c.self.inside in
    subst (λ (cs : List (ℕ × List Literal)). IsTable cs c.reserve-2.new.self.items i.alone.items i.clash c.note_all.new.self) (sym c.reserve.ensures.items)
    (subst (λ (ps : List ℕ). IsTable i.cells.items ps i.alone.items i.clash c.note_all.new.self) (sym c.reserve-2.ensures.items)
    (table_noted i.cells.items i.places.items i.alone.items i.clash i.occurrences c.self.invariant c.note_all.new.self c.note_all.ensures.kept))
