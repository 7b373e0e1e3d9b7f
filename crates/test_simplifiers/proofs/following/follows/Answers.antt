use Rattle.std.proofs.Common.{◌≡◌, ◌∙◌, ℕ, Bool, true, sym, ap, subst, List, [], ◌∷◌, inl, inr, Contains, Result, Ok, Err, IfOk}
use Rattle.sat_words.specs.Literal.{Literal}
use Rattle.rup_model.specs.Rup.{rup}
use Rattle.rup_model.proofs.Lists.{In, In_append_left, In_map, Contains_In}
use Rattle.rup_model.proofs.Growth.{rup_more}
use Rattle.simp_base.specs.WorkState.{WorkState, HaveOwnNumbers, known, lists, unit_clauses}
use Rattle.simp_base.proofs.Removal.{same_number}
use Rattle.test_simplifiers.proofs.following.follows.Goals as goal

among_known : (w : WorkState) (n : ℕ) (c : List Literal) → Contains w.clauses (n, c) → (x : List Literal) → In x (c ∷ []) → In x (known w)
among_known w n c i x (inl e) = subst (λ d. In d (known w)) e (In_append_left (lists w.clauses) (unit_clauses w.units) c (In_map (λ (y : ℕ × List Literal). y.1) w.clauses (n, c) (Contains_In w.clauses (n, c) i)))
among_known w n c i x (inr h) = absurd h

from_one : {E : Type 0} (w : WorkState) (n : ℕ) (c lits : List Literal) (r : Result Bool E) → Contains w.clauses (n, c) → IfOk r (λ yes. yes ≡ rup (c ∷ []) lits) → IfOk r (λ yes. yes ≡ true → rup (known w) lits ≡ true)
from_one w n c lits (Ok answer) i e = λ t. rup_more (c ∷ []) (known w) lits (among_known w n c i) (sym e ∙ t)
from_one w n c lits (Err x) i e = e

-- the clause that was looked at is the one under the number
from_alone : {E : Type 0} (w : WorkState) (n : ℕ) (c lits : List Literal) (r : Result Bool E) → HaveOwnNumbers w.clauses → Contains w.clauses (n, c) → IfOk r (λ yes. yes ≡ rup (c ∷ []) lits) → IfOk r (λ yes. (d : List Literal) → Contains w.clauses (n, d) → yes ≡ rup (d ∷ []) lits)
from_alone w n c lits (Ok answer) own i e = λ d k. e ∙ ap (λ (x : List Literal). rup (x ∷ []) lits) (same_number w.clauses own n c d i k)
from_alone w n c lits (Err x) own i e = e

pub returns-in_ok-from_slice-in-Some-clause-follows : goal.returns-in_ok-from_slice-in-Some-clause-follows
returns-in_ok-from_slice-in-Some-clause-follows g c =
    from_one c.args.work.now c.args.number c.in-Some.clause.now c.args.lits.now c.is_rup.result c.in-Some.ensures.some
    (subst (λ (d : List Literal). IfOk c.is_rup.result (λ yes. yes ≡ rup (d ∷ []) c.args.lits.now)) (c.in_ok-from_slice-in-Some.ensures ∙ c.lits.ensures.value) c.is_rup.ensures)

pub returns-in_ok-from_slice-in-Some-clause-alone : goal.returns-in_ok-from_slice-in-Some-clause-alone
returns-in_ok-from_slice-in-Some-clause-alone g c =
    from_alone c.args.work.now c.args.number c.in-Some.clause.now c.args.lits.now c.is_rup.result c.in-Some.ensures.work.numbers c.in-Some.ensures.some
    (subst (λ (d : List Literal). IfOk c.is_rup.result (λ yes. yes ≡ rup (d ∷ []) c.args.lits.now)) (c.in_ok-from_slice-in-Some.ensures ∙ c.lits.ensures.value) c.is_rup.ensures)

pub returns-in-None-clause-alone : goal.returns-in-None-clause-alone
returns-in-None-clause-alone g c = λ d k. absurd (c.in-None.ensures.none d k)
