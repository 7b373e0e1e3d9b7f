use Rattle.std.proofs.Common.{◌≡◌, ◌≤◌, ◌<◌, ◌∙◌, List, [], ◌∷◌, length, get_or, ap, subst, arith}
use Rattle.sat_words.specs.Literal.{Literal}
use Rattle.sat_words.specs.Clause.{is_empty}
use Rattle.simp_equiv.specs.Rewritten.{Grown, WasGrown}
use Rattle.simp_equiv.proofs.Growing.{grown_added, was_listed}
use Rattle.simp_equiv.proofs.additions.add_clause.Goals as goal

only : (xs : List Literal) (x : Literal) → 1 ≤ length xs → length xs < 2 → x ≡ get_or xs 0 x → x ∷ [] ≡ xs
only [] x lo hi e = absurd (omega arith)
only (y ∷ []) x lo hi e = ap (λ (z : Literal). z ∷ []) e
only (y ∷ z ∷ xs) x lo hi e = absurd (omega arith)

pub returns-in-len1-clause-grown : goal.returns-in-len1-clause-grown
returns-in-len1-clause-grown g c =
    subst (λ (xs : List Literal). WasGrown c.args.work.now c.unit.new.self xs c.unit.result)
    (only c.lits.result.now c.lit-item.result c.in-len1.len_at_least c.in-len1.len_below c.lit-item.is ∙ c.lits.ensures.value)
    (was_listed c.args.work.now c.unit.new.self c.lit-item.result c.requires.going c.requires.unspent c.unit.ensures.work (_, c.unit.ensures.log.entries) c.unit.result c.unit.ensures.listed)

pub returns-in_ok-add_rup-in_default-clause-grown : goal.returns-in_ok-add_rup-in_default-clause-grown
returns-in_ok-add_rup-in_default-clause-grown g c =
    subst (λ (xs : List Literal). Grown c.args.work.now c.add_rup.new.self xs) c.lits.ensures.value
    (grown_added c.args.work.now c.add_rup.new.self c.lits.result.now c.in_ok-add_rup-in_default.field-0 c.requires.unspent (ap is_empty c.lits.ensures.value ∙ c.requires.some) c.in_ok-add_rup-in_default.ensures.work c.in_ok-add_rup-in_default.ensures.added (_, c.in_ok-add_rup-in_default.ensures.log.entries))
