use Rattle.std.proofs.Common.{◌≡◌, ◌∙◌, ◌<◌, ap, sym, None, get_or, length, arith}
use Rattle.std.specs.List.{list_any}
use Rattle.std.proofs.lemmas.List.{get_or_default}
use Rattle.sat_words.specs.Literal.{code_of}
use Rattle.simp_base.specs.WorkState.{lists, is_only}
use Rattle.simp_base.specs.Tables.{ClauseData}
use Rattle.simp_base.proofs.TableLemmas.{unit_noted}
use Rattle.simp_base.proofs.TrueSet.{unit_stands}
use Rattle.simp_base.proofs.clause_table.ClauseTable.is_alone.Goals as goal

pub returns : goal.returns
returns c =
    let i = c.self.inside in
    let lt : code_of c.args.lit < length i.alone.items = omega (arith, c.requires, ap (λ (t : ClauseData). t.codes) c.self.view_is, i.alone.ok) in
    let read : get_or i.alone.items (code_of c.args.lit) None ≡ c.index.result.now =
    get_or_default i.alone.items (code_of c.args.lit) None c.index.result.now lt ∙ ap (λ k. get_or i.alone.items k c.index.result.now) (sym c.code.ensures) ∙ sym c.index.ensures in
    c.is_some.ensures
    ∙ unit_stands i.cells.items c.args.lit c.index.result.now
    (unit_noted i.cells.items i.places.items i.alone.items i.clash i.occurrences c.self.invariant c.args.lit c.index.result.now lt read)
    ∙ ap (λ (t : ClauseData). list_any (is_only c.args.lit) (lists t.clauses)) c.self.view_is
