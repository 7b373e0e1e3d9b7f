-- The first copy of a clause, by its place.
use Rattle.std.proofs.Common.{◌≡◌, ◌∙◌, ℕ, zero, suc, ◌<◌, Bool, true, false, ◌||◌, cond, List, [], ◌∷◌, length, take, get_or, refl, ap, arith}
use Rattle.std.specs.List.{list_any, remove}
use Rattle.sat_words.specs.Literal.{Literal}
use Rattle.sat_words.specs.Clause.{same_set}
use Rattle.rup_model.specs.Log.{without_copy}

first_false : (a b : Bool) → a || b ≡ false → a ≡ false
first_false true b e = e
first_false false b e = refl

rest_false : (a b : Bool) → a || b ≡ false → b ≡ false
rest_false true b e = absurd (let z : true ≡ false = e in cc)
rest_false false b e = e

module _ (c d : List Literal) where
  -- the first copy stands at this place
  pub without_at : (G : List (List Literal)) (i : ℕ) → i < length G → list_any (same_set c) (take i G) ≡ false → same_set c (get_or G i d) ≡ true → without_copy c G ≡ remove G i
  without_at [] i lt before here = absurd (omega arith)
  without_at (x ∷ G) zero lt before here = (λ j. cond (here j) G (x ∷ without_copy c G))
  without_at (x ∷ G) (suc i) lt before here =
      (λ j. cond (first_false (same_set c x) (list_any (same_set c) (take i G)) before j) G (x ∷ without_copy c G))
      ∙ ap (λ (H : List (List Literal)). x ∷ H) (without_at G i (omega arith) (rest_false (same_set c x) (list_any (same_set c) (take i G)) before) here)

  -- there is none
  pub without_none : (G : List (List Literal)) → list_any (same_set c) G ≡ false → without_copy c G ≡ G
  without_none [] none = refl
  without_none (x ∷ G) none =
      (λ j. cond (first_false (same_set c x) (list_any (same_set c) G) none j) G (x ∷ without_copy c G))
      ∙ ap (λ (H : List (List Literal)). x ∷ H) (without_none G (rest_false (same_set c x) (list_any (same_set c) G) none))
