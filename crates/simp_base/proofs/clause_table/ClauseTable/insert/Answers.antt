use Rattle.std.proofs.Common.{◌≡◌, ◌<◌, ◌∙◌, sym, ap, subst, List, ℕ, None, [], ◌∷◌, ◌++◌, length, All, set, get_or, Contains, arith}
use Rattle.sat_words.specs.Literal.{Literal, code_of}
use Rattle.sat_words.specs.Clause.{has}
use Rattle.simp_base.specs.WorkState.{is_only}
use Rattle.simp_base.specs.Tables.{IsTable, ClauseData, IsClashAfter, alone_after}
use Rattle.simp_base.proofs.TableLemmas.{table_noted, table_put}
use Rattle.simp_base.proofs.clause_table.ClauseTable.insert.Goals as goal

pub invariant_of-self-in_err-note_all : goal.invariant_of-self-in_err-note_all
invariant_of-self-in_err-note_all c =
    let i = c.self.inside in
    subst (λ (cs : List (ℕ × List Literal)). IsTable cs i.places.items i.alone.items i.clash c.note_all.new.self) (sym c.reserve.ensures.items)
    (table_noted i.cells.items i.places.items i.alone.items i.clash i.occurrences c.self.invariant c.note_all.new.self c.note_all.ensures.kept)

pub invariant_of-self-2 : goal.invariant_of-self-2
invariant_of-self-2 c =
    let i = c.self.inside in
    let view = c.self.view_is in
    let noted = table_noted i.cells.items i.places.items i.alone.items i.clash i.occurrences c.self.invariant c.note_all.new.self c.note_all.ensures.kept in
    let within : c.args.number < length i.places.items = omega (arith, c.requires.given, ap (λ (t : ClauseData). t.next) view, i.places.ok) in
    let place : c.len.result ≡ length i.cells.items = omega (arith, c.len.ensures, ap length c.reserve.ensures.items, c.reserve.new.self.ok) in
    let wide : length c.note_alone.new.alone.items ≡ length i.alone.items = omega (arith, c.note_alone.ensures.len, c.note_alone.new.alone.ok, i.alone.ok) in
    let codes : c.args.self.now.codes ≡ length i.alone.items = omega (arith, ap (λ (t : ClauseData). t.codes) view, i.alone.ok) in
    let after = c.clash_after-clash.result in
    subst (λ (cs : List (ℕ × List Literal)). IsTable cs (set i.places.items c.args.number c.len.result) c.note_alone.new.alone.items after c.note_all.new.self)
    (sym (c.push_reserved.ensures.items ∙ ap (λ (cs : List (ℕ × List Literal)). cs ++ (c.args.number, c.args.clause) ∷ []) c.reserve.ensures.items))
    (subst (λ (n : ℕ). IsTable (i.cells.items ++ (c.args.number, c.args.clause) ∷ []) (set i.places.items c.args.number n) c.note_alone.new.alone.items after c.note_all.new.self) (sym place)
    (table_put i.cells.items i.places.items i.alone.items i.clash c.note_all.new.self noted c.args.number c.args.clause c.note_alone.new.alone.items after wide
    (λ l lt. c.note_alone.ensures.noted l (omega (arith, lt, i.alone.ok)) ∙ ap (λ x. alone_after (get_or i.alone.items (code_of l) None) (is_only l x) c.args.number) c.lits-2.ensures.value)
    (subst (λ xs. IsClashAfter xs c.args.clause i.clash after) c.as_slice.ensures.value (subst (λ x. IsClashAfter c.as_slice.result.now x i.clash after) c.lits-3.ensures.value c.clash_after-clash.ensures))
    (subst (λ n. All (λ l. code_of l < n) c.args.clause) codes c.requires.codes)
    (λ l h. c.in_ok-note_all.ensures.ok.there l (ap (λ x. has x l) c.lits.ensures.value ∙ h))
    within (λ d k. c.requires.free d (subst (λ (t : ClauseData). Contains t.clauses (c.args.number, d)) view k))))
