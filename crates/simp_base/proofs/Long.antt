-- Clauses in order of two literals or more.
use Rattle.std.proofs.Common.{◌≡◌, ◌<◌, ◌≤◌, ◌&&◌, ℕ, true, false, not, List, [], ◌∷◌, length, refl, ap, arith, ne_eqb}
use Rattle.std.specs.List.{list_all}
use Rattle.std.proofs.lemmas.Bool.Decides.{nat_tests}
use Rattle.std.specs.Ordering.{nat_cmp}
use Rattle.std.specs.declared.cmp.Ordering.TheVariants.{Less}
use Rattle.std.specs.List.Sorted.{IsStrictlySortedBy}
use Rattle.sat_words.specs.Literal.{same, code_of}
use Rattle.sat_words.specs.Literal.{Literal}
use Rattle.sat_words.specs.Clause.{InOrder, two_or_more}

pub is_below : (a b : ℕ) → nat_cmp a b ≡ Less → a < b
is_below a b e = grind (arith, nat_tests)

-- a clause in order of two literals or more has two that differ
pub two_if_long : (c : List Literal) → InOrder c → 2 ≤ length c → two_or_more c ≡ true
unfolding IsStrictlySortedBy
two_if_long [] o le = absurd (omega arith)
two_if_long (l ∷ []) o le = absurd (omega arith)
two_if_long (l ∷ k ∷ c) o le =
    let lt : code_of l < code_of k = is_below (code_of l) (code_of k) o.0.0 in
    let ne : same l k ≡ false = ne_eqb (code_of l) (code_of k) (λ e. omega arith) in
    ap (λ b. not (b && list_all (same l) c)) ne

pub not_two_if_short : (c : List Literal) → length c < 2 → two_or_more c ≡ false
not_two_if_short [] lt = refl
not_two_if_short (l ∷ []) lt = refl
not_two_if_short (l ∷ k ∷ c) lt = absurd (omega arith)
