-- What one number adds to the clauses, and when literals are on the variables.
use Rattle.std.proofs.Common.{◌≡◌, ◌∙◌, ◌≤◌, ℤ, pos, List, [], ◌∷◌, ◌++◌, Bool, cond, append_assoc, eq-eqb, ne_eqb, sym, ap, arith}
use Rattle.std.specs.Prelude.{unsigned_abs}
use Rattle.sat_words.specs.Literal.{Literal}
use Rattle.sat_words.specs.Clause.{clause_of}
use Rattle.test_simplifiers.specs.Numbers.{literal_at, clauses_from}

-- a 0 ends the clause
pub at_zero : (cs : List (List Literal)) (lits : List Literal) (n : ℤ) (ns : List ℤ) → n ≡ pos 0 → cs ++ clause_of lits ∷ [] ++ clauses_from [] ns ≡ cs ++ clauses_from lits (n ∷ ns)
at_zero cs lits n ns e =
    append_assoc cs (clause_of lits ∷ []) (clauses_from [] ns)
    ∙ ap (λ (t : Bool). cs ++ cond t (clause_of lits ∷ clauses_from [] ns) (clauses_from (lits ++ literal_at n ∷ []) ns)) (sym (eq-eqb (unsigned_abs n) 0 (ap unsigned_abs e)))

-- another number adds its literal
pub at_literal : (cs : List (List Literal)) (lits : List Literal) (n : ℤ) (ns : List ℤ) → 1 ≤ unsigned_abs n → cs ++ clauses_from (lits ++ literal_at n ∷ []) ns ≡ cs ++ clauses_from lits (n ∷ ns)
at_literal cs lits n ns some =
    ap (λ (t : Bool). cs ++ cond t (clause_of lits ∷ clauses_from [] ns) (clauses_from (lits ++ literal_at n ∷ []) ns)) (sym (ne_eqb (unsigned_abs n) 0 (λ e. omega arith)))
