use Rattle.std.proofs.Common.{◌≡◌, ◌∙◌, ◌++◌, ◌∷◌, [], true, ap, sym, subst, refl, List}
use Rattle.sat_words.specs.Literal.{Literal}
use Rattle.rup_model.specs.Rup.{rup}
use Rattle.simp_base.specs.WorkState.{lists}
use Rattle.simp_base.specs.Parts.{takes_part}
use Rattle.ruler_simp.specs.declared.ruling.Simplified.{Simplified}
use Rattle.test_ruler.proofs.RingEntries.{learned_can}
use Rattle.test_ruler.proofs.ring_entries.learn.Goals as goal

pub returns : goal.returns
returns c =
    let left = c.args.left in
    let lits = c.args.lits.now in
    let later : Simplified = record { vars = left.vars; start = c.push.new.self; units = left.units; stack = left.stack } in
    let clauses : c.as_slice-else-not-are_on.result.now ≡ lists left.start.items = c.as_slice-else-not-are_on.ensures.value ∙ c.in_ok-alive.ensures ∙ ap lists c.as_slice.ensures.value in
    let follows : rup (lists left.start.items) lits ≡ true = subst (λ (G : List (List Literal)). rup G lits ≡ true) clauses (sym c.in_ok-is_rup.ensures ∙ c.if-not-branch.false) in
    learned_can c.args.formula.now.clauses left later c.args.lines c.add.new.self c.requires refl refl refl lits c.in-Ok.number c.in-Ok.ensures.put c.in-Ok.ensures.number
    (c.in_ok-push.ensures.items ∙ ap (λ (d : List Literal). left.start.items ++ (c.in-Ok.number, d) ∷ []) c.in_ok-clause.ensures.value)
    follows
    (sym (c.if-not-takes_part.ensures.is ∙ ap takes_part c.in_ok-clause.ensures.value))
    (c.if-not-are_on.ensures refl)
