use Rattle.std.proofs.Common.{◌≡◌, ◌<◌, sym, ap, ◌∙◌, subst, List, ℕ, None, [], ◌∷◌, ◌++◌, length, All, get_or, Contains, arith}
use Rattle.sat_words.specs.Literal.{Literal, code_of}
use Rattle.simp_base.specs.WorkState.{is_only}
use Rattle.simp_base.specs.Tables.{IsTable, ClauseData, IsClashAfter, alone_after}
use Rattle.simp_base.proofs.TableLemmas.{table_more}
use Rattle.simp_base.proofs.clause_table.ClauseTable.push.Goals as goal

pub invariant_of-self : goal.invariant_of-self
invariant_of-self c =
    let i = c.self.inside in
    let view = c.self.view_is in
    let next : c.args.number ≡ length i.places.items = omega (arith, c.requires.next, ap (λ (t : ClauseData). t.next) view, i.places.ok) in
    let place : c.len.result ≡ length i.cells.items = omega (arith, c.len.ensures, i.cells.ok) in
    let wide : length c.note_alone.new.alone.items ≡ length i.alone.items = omega (arith, c.note_alone.ensures.len, c.note_alone.new.alone.ok, i.alone.ok) in
    let codes : c.args.self.now.codes ≡ length i.alone.items = omega (arith, ap (λ (t : ClauseData). t.codes) view, i.alone.ok) in
    let after = c.clash_after-clash.result in
    subst (λ (cs : List (ℕ × List Literal)). IsTable cs c.push_reserved.new.self.items c.note_alone.new.alone.items after i.occurrences) (sym c.push_reserved-2.ensures.items)
    (subst (λ (ps : List ℕ). IsTable (i.cells.items ++ (c.args.number, c.args.clause) ∷ []) ps c.note_alone.new.alone.items after i.occurrences)
    (sym (c.push_reserved.ensures.items ∙ ap (λ n. i.places.items ++ n ∷ []) place))
    (table_more i.cells.items i.places.items i.alone.items i.clash i.occurrences c.self.invariant c.args.number c.args.clause c.note_alone.new.alone.items after wide
    (λ l lt. c.note_alone.ensures.noted l (omega (arith, lt, i.alone.ok)) ∙ ap (λ x. alone_after (get_or i.alone.items (code_of l) None) (is_only l x) c.args.number) c.lits.ensures.value)
    (subst (λ xs. IsClashAfter xs c.args.clause i.clash after) c.as_slice.ensures.value (subst (λ x. IsClashAfter c.as_slice.result.now x i.clash after) c.lits-2.ensures.value c.clash_after-clash.ensures))
    (subst (λ n. All (λ l. code_of l < n) c.args.clause) codes c.requires.codes)
    (λ l h. subst (λ (t : ClauseData). Contains (get_or t.noted (code_of l) []) c.args.number) (sym view)
    (subst (λ (m : ℕ). Contains (get_or c.args.self.now.noted (code_of l) []) m) (sym c.requires.next) (c.requires.ready.noted l h))) next))
