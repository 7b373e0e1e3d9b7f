use Rattle.std.proofs.Common.{◌≡◌, ◌≤◌, ◌<◌, List, [], ◌∷◌, ℕ, false, length, get_or, refl, sym, ap, subst, arith, Contains}
use Rattle.sat_words.specs.Literal.{Literal}
use Rattle.simp_base.proofs.Known.{known_alive}
use Rattle.simp_base.proofs.Lists.{Contains_last}
use Rattle.simp_elim.specs.Stages.{WasGrown}
use Rattle.simp_elim.proofs.Growing.{Came, came_added, grown_long, was_grown_unit}
use Rattle.simp_elim.proofs.Resolving.{itself_follows}
use Rattle.simp_base.specs.WorkState.{known, is_only}
use Rattle.simp_elim.proofs.additions.add_clause.Goals as goal

only : (xs : List Literal) (x : Literal) → 1 ≤ length xs → length xs < 2 → x ≡ get_or xs 0 x → xs ≡ x ∷ []
only [] x lo hi e = absurd (omega arith)
only (y ∷ []) x lo hi e = ap (λ (z : Literal). z ∷ []) (sym e)
only (y ∷ z ∷ xs) x lo hi e = absurd (omega arith)

pub unit-requires-clause-rup : goal.unit-requires-clause-rup
unit-requires-clause-rup g c =
    let old = c.args.work.now in let mid = c.add_rup.new.self in let k : Literal = c.lit-item.result in
    let came : Came old mid (k ∷ []) = subst (Came old mid) (only c.args.lits.now k c.in-len1.len_at_least c.in-len1.len_below c.lit-item.is)
    (came_added old mid c.args.lits.now c.in_ok-add_rup.field-0 c.requires.unspent c.requires.comes.some c.requires.comes.ordered c.in_ok-add_rup.ensures.work c.in_ok-add_rup.ensures.added (_, c.in_ok-add_rup.ensures.log.entries)) in
    itself_follows (known mid) (k ∷ []) (known_alive mid came.number (k ∷ []) (subst (λ (cs : List (ℕ × List Literal)). Contains cs (came.number, k ∷ [])) (sym came.clauses) (Contains_last old.clauses (came.number, k ∷ []))))

pub returns-in-len1-clause-grown : goal.returns-in-len1-clause-grown
returns-in-len1-clause-grown g c =
    let old = c.args.work.now in let mid = c.add_rup.new.self in let k : Literal = c.lit-item.result in
    let is = only c.args.lits.now k c.in-len1.len_at_least c.in-len1.len_below c.lit-item.is in
    let came : Came old mid (k ∷ []) = subst (Came old mid) is
    (came_added old mid c.args.lits.now c.in_ok-add_rup.field-0 c.requires.unspent c.requires.comes.some c.requires.comes.ordered c.in_ok-add_rup.ensures.work c.in_ok-add_rup.ensures.added (_, c.in_ok-add_rup.ensures.log.entries)) in
    subst (λ (xs : List Literal). WasGrown old c.unit.new.self (xs ∷ []) c.unit.result) (sym is)
    (was_grown_unit old mid c.unit.new.self k came c.unit.ensures.work (_, c.unit.ensures.log.entries) c.unit.result c.unit.ensures.listed)

pub returns-in_default-2-clause-grown : goal.returns-in_default-2-clause-grown
returns-in_default-2-clause-grown g c =
    let old = c.args.work.now in let mid = c.add_rup.new.self in
    grown_long old mid c.args.lits.now
    (came_added old mid c.args.lits.now c.in_ok-add_rup.field-0 c.requires.unspent c.requires.comes.some c.requires.comes.ordered c.in_ok-add_rup.ensures.work c.in_ok-add_rup.ensures.added (_, c.in_ok-add_rup.ensures.log.entries))
    (λ l. long l c.args.lits.now c.in_default.len_at_least)
  where
    long : (l : Literal) (xs : List Literal) → 2 ≤ length xs → is_only l xs ≡ false
    long l [] le = absurd (omega arith)
    long l (k ∷ []) le = absurd (omega arith)
    long l (k ∷ j ∷ xs) le = refl
