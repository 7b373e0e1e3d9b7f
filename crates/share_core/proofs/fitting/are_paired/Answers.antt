use Rattle.std.proofs.Common.{◌≡◌, ◌∙◌, ℕ, ◌+◌, ◌++◌, ◌∷◌, [], List, Some, true≢false, take, sym, ap, subst}
use Rattle.std.proofs.lemmas.List.{take_more, map-append}
use Rattle.sat_words.specs.Literal.{Literal}
use Rattle.rup_model.specs.Journal.{Book, book}
use Rattle.share_core.specs.State.{ArePaired, unit_lits, unit_numbers}
use Rattle.share_core.proofs.Deciding.{unit_from, unit_back}
use Rattle.share_core.proofs.Pairs.{paired_last, paired_at}
use Rattle.share_core.proofs.fitting.are_paired.Goals as goal

pub loop-unit-preserved : goal.loop-unit-preserved
loop-unit-preserved c =
    let b : Book = book c.args.clauses.now c.args.journal.now in
    let us : List (Literal × ℕ) = take c.loop-unit.unit-index c.args.units.now in
    let u : Literal × ℕ = c.unit-item.result in
    let is : b.clause u.1 ≡ Some (u.0 ∷ []) = sym c.in_ok-clause.ensures ∙ unit_from u.0 c.in_ok-clause.clause (sym c.is_unit.ensures ∙ c.if-not-is_unit.false) in
    let next : take (c.loop-unit.unit-index + 1) c.args.units.now ≡ us ++ u ∷ [] = take_more c.args.units.now c.loop-unit.unit-index u c.loop-unit-test.true ∙ ap (λ (v : Literal × ℕ). us ++ v ∷ []) (sym c.unit-item.is) in
    let last = paired_last b (unit_lits us) (unit_numbers us) u.0 u.1 c.loop-unit.invariant is in
    subst (λ (vs : List (Literal × ℕ)). ArePaired b (unit_lits vs) (unit_numbers vs)) (sym next)
    (subst (λ (ns : List ℕ). ArePaired b (unit_lits (us ++ u ∷ [])) ns) (sym (map-append (λ (v : Literal × ℕ). v.1) us (u ∷ [])))
    (subst (λ (ls : List Literal). ArePaired b ls (unit_numbers us ++ u.1 ∷ [])) (sym (map-append (λ (v : Literal × ℕ). v.0) us (u ∷ []))) last))

pub returns-then-not-is_unit-clause-each : goal.returns-then-not-is_unit-clause-each
returns-then-not-is_unit-clause-each c pairs =
    let b : Book = book c.args.clauses.now c.args.journal.now in
    let u : Literal × ℕ = c.unit-item.result in
    let at = paired_at b c.args.units.now c.loop-unit.unit-index u pairs c.loop-unit-test.true in
    let is : b.clause u.1 ≡ Some (u.0 ∷ []) = subst (λ (v : Literal × ℕ). b.clause v.1 ≡ Some (v.0 ∷ [])) (sym c.unit-item.is) at in
    absurd (true≢false (sym (unit_back u.0 c.in_ok-clause.clause (c.in_ok-clause.ensures ∙ is)) ∙ sym c.is_unit.ensures ∙ c.if-not-is_unit.true))
