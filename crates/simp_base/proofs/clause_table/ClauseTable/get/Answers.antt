use Rattle.std.proofs.Common.{◌≡◌, ◌<◌, sym, ap, ◌∙◌, subst, List, ℕ, length, get_or, Contains, arith}
use Rattle.std.proofs.lemmas.List.{get_or_default}
use Rattle.sat_words.specs.Literal.{Literal}
use Rattle.rup_model.proofs.Lists.{In_get_or, In_has}
use Rattle.simp_base.specs.Tables.{ClauseData}
use Rattle.simp_base.proofs.TableLemmas.{at_place, found_number, found_clause, found_place}
use Rattle.simp_base.proofs.clause_table.ClauseTable.get.Goals as goal
use Rattle.simp_base.proofs.clause_table.ClauseTable.get.Goals.{else-place-len-via-then-place-len+else-index-number, else-place-len-via-else-place-len}

pub returns-then-index-number-clause-some : goal.returns-then-index-number-clause-some
returns-then-index-number-clause-some c =
    let i = c.self.inside in
    let place = c.index-place.result.now in
    let x : ℕ × List Literal = c.index-then-index-number.result.now in
    let y : ℕ × List Literal = c.index.result.now in
    let lt : place < length i.cells.items = omega (arith, c.if-place-len.true, c.len-2.ensures) in
    let same : x.0 ≡ y.0 = ap (λ (z : ℕ × List Literal). z.0) (c.index-then-index-number.ensures ∙ get_or_default i.cells.items place x y lt ∙ sym c.index.ensures) in
    let is : x.0 ≡ c.args.number = same ∙ c.if-index-number.true in
    subst (λ (t : ClauseData). Contains t.clauses (c.args.number, x.1)) c.self.view_is (at_place i.cells.items i.places.items i.alone.items i.clash i.occurrences c.self.invariant c.args.number place x lt c.index-then-index-number.ensures is)

pub returns-else-place-len-clause-none : goal.returns-else-place-len-clause-none
returns-else-place-len-clause-none c d h =
    let i = c.self.inside in
    let place = c.index-place.result.now in
    let k : Contains i.cells.items (c.args.number, d) = subst (λ (t : ClauseData). Contains t.clauses (c.args.number, d)) (sym c.self.view_is) h in
    let lt = found_place i.cells.items i.places.items i.alone.items i.clash i.occurrences c.self.invariant c.args.number place d k c.index-place.ensures in
    let n = found_number i.cells.items i.places.items i.alone.items i.clash i.occurrences c.self.invariant c.args.number place d k c.index-place.ensures in
    elim c.else-place-len.branch [
      | else-place-len-via-then-place-len+else-index-number w ↦ w.if-index-number.false (ap (λ (z : ℕ × List Literal). z.0) w.index.ensures ∙ n w.index.result.now)
      | else-place-len-via-else-place-len w ↦ absurd (omega (arith, w.if-place-len.false, c.len-2.ensures, lt))
    ]

-- what was read stands in the table
there : (c : goal.After-index-then-index-number) → Contains c.self.inside.cells.items (c.args.number, c.index-then-index-number.result.now.1)
there c =
    let i = c.self.inside in
    let place = c.index-place.result.now in
    let x : ℕ × List Literal = c.index-then-index-number.result.now in
    let y : ℕ × List Literal = c.index.result.now in
    let lt : place < length i.cells.items = omega (arith, c.if-place-len.true, c.len-2.ensures) in
    let same : x.0 ≡ y.0 = ap (λ (z : ℕ × List Literal). z.0) (c.index-then-index-number.ensures ∙ get_or_default i.cells.items place x y lt ∙ sym c.index.ensures) in
    at_place i.cells.items i.places.items i.alone.items i.clash i.occurrences c.self.invariant c.args.number place x lt c.index-then-index-number.ensures (same ∙ c.if-index-number.true)

pub returns-then-index-number-clause-only : goal.returns-then-index-number-clause-only
returns-then-index-number-clause-only c d h =
    let i = c.self.inside in
    let x : ℕ × List Literal = c.index-then-index-number.result.now in
    let k : Contains i.cells.items (c.args.number, d) = subst (λ (t : ClauseData). Contains t.clauses (c.args.number, d)) (sym c.self.view_is) h in
    sym (ap (λ (z : ℕ × List Literal). z.1) c.index-then-index-number.ensures ∙ found_clause i.cells.items i.places.items i.alone.items i.clash i.occurrences c.self.invariant c.args.number c.index-place.result.now d k c.index-place.ensures x)

pub returns-then-index-number-clause-codes : goal.returns-then-index-number-clause-codes
returns-then-index-number-clause-codes c k d lt =
    let i = c.self.inside in
    let x : ℕ × List Literal = c.index-then-index-number.result.now in
    let low = c.self.invariant.inside c.args.number x.1 (get_or x.1 k d) (there c) (In_has x.1 (get_or x.1 k d) (In_get_or x.1 k d lt)) in
    omega (arith, low, ap (λ (t : ClauseData). t.codes) c.self.view_is, i.alone.ok)
