-- A clause as a work holds it, in the order of `Clause`, and as the book has it.
use Rattle.std.proofs.Common.{◌≡◌, ◌&&◌, ◌∙◌, not, true, List, Option, Some, None, refl, sym, subst}
use Rattle.std.specs.Option.{option_map}
use Rattle.sat_words.specs.Literal.{Literal}
use Rattle.sat_words.specs.Clause.{InOrder, same_set, has_opposites, two_or_more, clause_of}
use Rattle.sat_words.proofs.Insertion.{has-clause_of, same_set-clause_of, InOrder-clause_of, clause_of_in_order}
use Rattle.rup_model.proofs.Covers.{both_true, same_back}
use Rattle.rup_model.proofs.Units.{two_same}
use Rattle.simp_base.specs.Parts.{takes_part}
use Rattle.simp_base.proofs.WiderClauses.{opposites_more}

-- what has this clause, once its literals are in order, has a clause of the same literals
pub in_book : (q : Option (List Literal)) (c : List Literal) → option_map clause_of q ≡ Some c → (d : List Literal) × (q ≡ Some d) × (clause_of d ≡ c)
in_book None c e = absurd (let no : ⊥ = cc in no)
in_book (Some d) c e = (d, refl, (let same_c : clause_of d ≡ c = cc in same_c))

-- the clause in order has the literals of the other
pub order_same : (c d : List Literal) → clause_of d ≡ c → same_set c d ≡ true
order_same c d e = same_back d c (subst (λ (x : List Literal). same_set d x ≡ true) e (same_set-clause_of d))

pub held_ordered : (q : Option (List Literal)) (c : List Literal) → option_map clause_of q ≡ Some c → InOrder c
held_ordered q c e = let t = in_book q c e in subst InOrder t.2 (InOrder-clause_of t.0)

pub order_twice : (c : List Literal) → clause_of (clause_of c) ≡ clause_of c
order_twice c = clause_of_in_order (clause_of c) (InOrder-clause_of c)

-- what clauses have in any order

pub two_in_order : (c : List Literal) → two_or_more (clause_of c) ≡ two_or_more c
two_in_order c = both_true _ _ (two_same (clause_of c) c (same_back c (clause_of c) (same_set-clause_of c))) (two_same c (clause_of c) (same_set-clause_of c))

opposites_in_order : (c : List Literal) → has_opposites (clause_of c) ≡ has_opposites c
opposites_in_order c = both_true _ _ (opposites_more (clause_of c) c (λ l h. sym (has-clause_of c l) ∙ h)) (opposites_more c (clause_of c) (λ l h. has-clause_of c l ∙ h))

pub part_in_order : (c : List Literal) → takes_part (clause_of c) ≡ takes_part c
part_in_order c = λ i. two_in_order c i && not (opposites_in_order c i)
