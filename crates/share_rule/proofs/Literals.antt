-- Literals that differ are no more than two a variable.
use Rattle.std.proofs.Common.{◌≡◌, ℕ, ◌-◌, ◌*◌, ◌<◌, ◌≤◌, ◌&&◌, ◌||◌, Bool, true, false, not, List, [], ◌∷◌, All, map, length, suc, refl, sym, ◌∙◌, arith, eq-eqb, ne_eqb, eqb, eqb-true, true≢false}
use Rattle.std.specs.Prelude.{nat_eq}
use Rattle.std.specs.List.{IsDistinct, AllByRecursion, list_any}
use Rattle.std.proofs.lemmas.List.{length-map}
use Rattle.std.proofs.lemmas.Map.Steps.{length-le_from_distinct_below}
use Rattle.sat_words.specs.Literal.{Literal, code_of}
use Rattle.sat_words.specs.Clause.{has, distinct_lits}
use Rattle.rup_model.specs.Basics.{one_if}
use Rattle.share_core.specs.State.{unit_lits}

apart_codes : (vars : ℕ) (k : Literal) (us : List Literal) → 1 ≤ k.var → has us k ≡ false → All (λ k. (1 ≤ k.var) × (k.var ≤ vars)) us → AllByRecursion (λ y. eqb (code_of k - 2) y ≡ false) (map (λ (u : Literal). code_of u - 2) us)
apart_codes vars k [] low out h = tt
apart_codes vars k (u ∷ us) low out h =
    let both = or_false (nat_eq (code_of k) (code_of u)) (has us k) out in
    let v = (h 0 u (omega arith)).0 in
    (ne_eqb (code_of k - 2) (code_of u - 2) (λ e. true≢false (sym (eq-eqb (code_of k) (code_of u) (omega arith)) ∙ both.0)), apart_codes vars k us low both.1 (λ j d lt. h (suc j) d (omega arith)))
  where
    or_false : (a b : Bool) → (a || b) ≡ false → (a ≡ false) × (b ≡ false)
    or_false true b e = absurd (true≢false e)
    or_false false b e = (refl, e)

distinct_codes : (vars : ℕ) (us : List Literal) → distinct_lits us ≡ true → All (λ k. (1 ≤ k.var) × (k.var ≤ vars)) us → IsDistinct eqb (map (λ (u : Literal). code_of u - 2) us)
unfolding IsDistinct
distinct_codes vars [] d h = tt
distinct_codes vars (u ∷ us) d h =
    let both = and_true (not (has us u)) (distinct_lits us) d in
    (apart_codes vars u us (h 0 u (omega arith)).0 (not_false (has us u) both.0) (λ j d lt. h (suc j) d (omega arith)), distinct_codes vars us both.1 (λ j d lt. h (suc j) d (omega arith)))
  where
    and_true : (a b : Bool) → (a && b) ≡ true → (a ≡ true) × (b ≡ true)
    and_true true b e = (refl, e)
    and_true false b e = absurd (true≢false (sym e))

    not_false : (a : Bool) → not a ≡ true → a ≡ false
    not_false true e = sym e
    not_false false e = refl

codes_below : (vars : ℕ) (us : List Literal) → All (λ k. (1 ≤ k.var) × (k.var ≤ vars)) us → (q : ℕ) → list_any (eqb q) (map (λ (u : Literal). code_of u - 2) us) ≡ true → q < 2 * vars
codes_below vars [] h q e = absurd (true≢false (sym e))
codes_below vars (u ∷ us) h q e = by (codes_below vars us (λ j d lt. h (suc j) d (omega arith)) q) (eqb q (code_of u - 2)) refl e
  where
    by : (list_any (eqb q) (map (λ (u : Literal). code_of u - 2) us) ≡ true → q < 2 * vars) → (b : Bool) → eqb q (code_of u - 2) ≡ b → (b || list_any (eqb q) (map (λ (u : Literal). code_of u - 2) us)) ≡ true → q < 2 * vars
    by again true t e = let v = h 0 u (omega arith) in let hi = v.1 in let lo = v.0 in let same : q ≡ code_of u - 2 = eqb-true q (code_of u - 2) t in let b = bit u.neg in omega arith
      where
        bit : (n : Bool) → one_if n ≤ 1
        bit true = omega arith
        bit false = omega arith
    by again false t e = again e

pub few_distinct : (vars : ℕ) (us : List Literal) → distinct_lits us ≡ true → All (λ k. (1 ≤ k.var) × (k.var ≤ vars)) us → length us ≤ 2 * vars
few_distinct vars us d h =
    let n = length-map us (λ (u : Literal). code_of u - 2) in
    let le = length-le_from_distinct_below (map (λ (u : Literal). code_of u - 2) us) (2 * vars) (distinct_codes vars us d h) (codes_below vars us h) in
    omega arith

-- units given with their numbers
pub few_paired : (vars : ℕ) (us : List (Literal × ℕ)) → distinct_lits (unit_lits us) ≡ true → All (λ k. (1 ≤ k.var) × (k.var ≤ vars)) (unit_lits us) → length us ≤ 2 * vars
few_paired vars us d h =
    let n = length-map us (λ (u : Literal × ℕ). u.0) in
    let le = few_distinct vars (unit_lits us) d h in
    omega arith
