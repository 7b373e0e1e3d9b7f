use Rattle.std.proofs.Common.{◌∙◌, ◌≤◌, ◌++◌, ◌∷◌, [], List, sym, ap, subst, w32}
use Rattle.std.proofs.lemmas.Int.{to_z-of_z}
use mir.Val.{to_z}
use Rattle.sat_words.specs.Literal.{Literal}
use Rattle.sat_words.specs.Clause.{clause_of}
use Rattle.sat_words.specs.FormulaData.{FormulaData}
use Rattle.test_simplifiers.specs.Numbers.{literal_at, clauses_from}
use Rattle.test_simplifiers.proofs.Told.{at_zero, at_literal}
use Rattle.test_simplifiers.proofs.formulas.add_number.Goals as goal

pub returns-then-number-eq0-clause-clauses : goal.returns-then-number-eq0-clause-clauses
returns-then-number-eq0-clause-clauses c =
    let cs : List (List Literal) = c.args.formula.now.clauses in
    let lits : List Literal = c.args.lits.now.items in
    let same = to_z-of_z w32 c.args.number c.ranges.number in
    let clause = c.in_ok-from_lits.ensures.value ∙ ap clause_of c.as_slice.ensures.value in
    let more = ap (λ (f : FormulaData). f.clauses) c.in_ok-push.ensures.ok ∙ ap (λ (d : List Literal). cs ++ d ∷ []) clause in
    λ ns. (λ j. more j ++ clauses_from (c.clear.ensures.items j) ns) ∙ at_zero cs lits c.args.number ns (sym same ∙ ap (to_z w32) c.if-number-eq0.true)

pub returns-clause-clauses : goal.returns-clause-clauses
returns-clause-clauses c =
    let cs : List (List Literal) = c.args.formula.now.clauses in
    let lits : List Literal = c.args.lits.now.items in
    let is = c.in_ok-literal.ensures.literal ∙ ap literal_at (to_z-of_z w32 c.args.number c.ranges.number) in
    let some = subst (λ (l : Literal). 1 ≤ l.var) is c.in_ok-literal.ensures.on.low in
    λ ns. ap (λ (ls : List Literal). cs ++ clauses_from ls ns) (c.in_ok-push-2.ensures.items ∙ ap (λ (l : Literal). lits ++ l ∷ []) is) ∙ at_literal cs lits c.args.number ns some
