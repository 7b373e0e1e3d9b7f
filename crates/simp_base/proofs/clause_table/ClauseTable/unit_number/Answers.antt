use Rattle.std.proofs.Common.{◌≡◌, ◌∙◌, ◌<◌, ◌≤◌, ap, subst, sym, None, [], ◌∷◌, get_or, length, Contains, arith}
use Rattle.sat_words.specs.Literal.{code_of}
use Rattle.simp_base.specs.Tables.{ClauseData, IsUnitNumber}
use Rattle.simp_base.proofs.TableLemmas.{unit_noted, unit_beyond}
use Rattle.simp_base.proofs.clause_table.ClauseTable.unit_number.Goals as goal

pub returns-in-Some : goal.returns-in-Some
returns-in-Some c =
    let i = c.self.inside in
    let k = c.in-Some.ensures.lookup in
    let lt : code_of c.args.lit < length i.alone.items = omega (arith, k.3.0, ap length c.deref.ensures.value, c.code.ensures) in
    let read : get_or i.alone.items (code_of c.args.lit) None ≡ c.in-Some.number.now =
    sym (k.3.1 None ∙ ap (λ xs. get_or xs c.code.result None) c.deref.ensures.value ∙ ap (λ n. get_or i.alone.items n None) c.code.ensures) in
    subst (λ (t : ClauseData). IsUnitNumber t.clauses c.args.lit c.in-Some.number.now) c.self.view_is
    (unit_noted i.cells.items i.places.items i.alone.items i.clash i.occurrences c.self.invariant c.args.lit c.in-Some.number.now lt read)

pub returns-in-None : goal.returns-in-None
returns-in-None c n h =
    let i = c.self.inside in
    let k = c.in-None.ensures.lookup in
    let ge : length i.alone.items ≤ code_of c.args.lit = omega (arith, k.3, ap length c.deref.ensures.value, c.code.ensures) in
    unit_beyond i.cells.items i.places.items i.alone.items i.clash i.occurrences c.self.invariant c.args.lit ge n
    (subst (λ (t : ClauseData). Contains t.clauses (n, c.args.lit ∷ [])) (sym c.self.view_is) h)
