use Rattle.std.proofs.Common.{◌<◌, sym, ap, ◌∙◌, subst, List, ℕ, length, Contains, arith}
use Rattle.std.proofs.lemmas.List.{get_or_default}
use Rattle.sat_words.specs.Literal.{Literal}
use Rattle.sat_words.specs.Clause.{two_or_more}
use Rattle.simp_base.specs.Tables.{ClauseData, RemovedNumber}
use Rattle.simp_base.proofs.TableLemmas.{found_number, found_clause, table_less, table_less_last}
use Rattle.simp_base.proofs.clause_table.ClauseTable.remove.Goals as goal

pub invariant_of-self : goal.invariant_of-self
invariant_of-self c =
    let i = c.self.inside in
    let place = c.index-place.result.now in
    let k : Contains i.cells.items (c.args.number, c.requires.0) = subst (λ (t : ClauseData). Contains t.clauses (c.args.number, c.requires.0)) (sym c.self.view_is) c.requires.1 in
    let y : ℕ × List Literal = c.index.result.now in
    let lt : place < length c.remove_at.new.cells.items = omega (arith, c.if-place-len.true, c.len.ensures) in
    table_less i.cells.items i.places.items i.alone.items i.clash i.occurrences c.self.invariant c.remove_at.new.cells.items place c.remove_at.ensures
    (λ d. ap two_or_more (found_clause i.cells.items i.places.items i.alone.items i.clash i.occurrences c.self.invariant c.args.number place c.requires.0 k c.index-place.ensures d) ∙ c.requires.2)
    y.0 lt (λ d. ap (λ (z : ℕ × List Literal). z.0) (c.index.ensures ∙ get_or_default c.remove_at.new.cells.items place y d lt))

pub invariant_of-self-else-place-len : goal.invariant_of-self-else-place-len
invariant_of-self-else-place-len c =
    let i = c.self.inside in
    let place = c.index-place.result.now in
    let k : Contains i.cells.items (c.args.number, c.requires.0) = subst (λ (t : ClauseData). Contains t.clauses (c.args.number, c.requires.0)) (sym c.self.view_is) c.requires.1 in
    table_less_last i.cells.items i.places.items i.alone.items i.clash i.occurrences c.self.invariant c.remove_at.new.cells.items place c.remove_at.ensures
    (λ d. ap two_or_more (found_clause i.cells.items i.places.items i.alone.items i.clash i.occurrences c.self.invariant c.args.number place c.requires.0 k c.index-place.ensures d) ∙ c.requires.2)
    (omega (arith, c.if-place-len.false, c.len.ensures))

pub returns-then-place-len-clause-clauses : goal.returns-then-place-len-clause-clauses
returns-then-place-len-clause-clauses c =
    let i = c.self.inside in
    let place = c.index-place.result.now in
    let k : Contains i.cells.items (c.args.number, c.requires.0) = subst (λ (t : ClauseData). Contains t.clauses (c.args.number, c.requires.0)) (sym c.self.view_is) c.requires.1 in
    subst (λ (t : ClauseData). RemovedNumber t.clauses c.remove_at.new.cells.items c.args.number) c.self.view_is (record {
      place = place;
      here = found_number i.cells.items i.places.items i.alone.items i.clash i.occurrences c.self.invariant c.args.number place c.requires.0 k c.index-place.ensures;
      removed = c.remove_at.ensures;
    })

pub returns-else-place-len-clause-clauses : goal.returns-else-place-len-clause-clauses
returns-else-place-len-clause-clauses c =
    let i = c.self.inside in
    let place = c.index-place.result.now in
    let k : Contains i.cells.items (c.args.number, c.requires.0) = subst (λ (t : ClauseData). Contains t.clauses (c.args.number, c.requires.0)) (sym c.self.view_is) c.requires.1 in
    subst (λ (t : ClauseData). RemovedNumber t.clauses c.remove_at.new.cells.items c.args.number) c.self.view_is (record {
      place = place;
      here = found_number i.cells.items i.places.items i.alone.items i.clash i.occurrences c.self.invariant c.args.number place c.requires.0 k c.index-place.ensures;
      removed = c.remove_at.ensures;
    })
