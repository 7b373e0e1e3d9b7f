-- Whether each clause's resolvent is RUP, told clause by clause.
use Rattle.std.proofs.Common.{◌≡◌, ◌∙◌, ℕ, ◌<◌, ◌+◌, Bool, true, false, not, ◌||◌, List, [], ◌∷◌, length, get_or, take, sym, ap, subst, refl, inl, inr}
use Rattle.std.specs.List.{list_all}
use Rattle.std.proofs.lemmas.Bool.{cases_Bool, true≢false, and_from}
use Rattle.std.proofs.lemmas.List.{take_more}
use Rattle.std.proofs.lemmas.List.Folds.{list_all-append}
use Rattle.sat_words.specs.Literal.{Literal, opposite}
use Rattle.sat_words.specs.Clause.{has}
use Rattle.rup_model.specs.Rup.{rup, resolvent, rat_on}
use Rattle.rup_model.proofs.Lists.{In, all_In}

abbrev pub resolves : List (List Literal) → Literal → List Literal → List Literal → Bool
resolves G p c d = not (has d (opposite p)) || rup G (resolvent p c d)

-- one more clause that passes
pub all_more : {X : Type 0} (p : X → Bool) (xs : List X) (i : ℕ) (x : X) → i < length xs → x ≡ get_or xs i x → list_all p (take i xs) ≡ true → p x ≡ true → list_all p (take (i + 1) xs) ≡ true
all_more p xs i x lt at before here =
    ap (list_all p) (take_more xs i x lt) ∙ list_all-append p (take i xs) (get_or xs i x ∷ []) ∙ and_from _ _ before (and_from _ _ (ap p (sym at) ∙ here) refl)

-- one that does not
pub all_fails : {X : Type 0} (p : X → Bool) (xs : List X) (x : X) → In x xs → p x ≡ false → list_all p xs ≡ false
all_fails p xs x h e =
    elim (cases_Bool (list_all p xs)) as (λ _. list_all p xs ≡ false) [
      | inl all ↦ absurd (true≢false (sym (all_In p xs x all h) ∙ e))
      | inr f ↦ f
    ]

-- one more clause that resolves, as b tells
pub resolves_more : (G H : List (List Literal)) (p : Literal) (c : List Literal) (i : ℕ) (d e : List Literal) (b : Bool) → i < length H → d ≡ get_or H i d → e ≡ d
    → list_all (resolves G p c) (take i H) ≡ true → b ≡ resolves G p c e → b ≡ true → list_all (resolves G p c) (take (i + 1) H) ≡ true
resolves_more G H p c i d e b lt at same before told yes' =
    all_more (resolves G p c) H i d lt at before (subst (λ (x : List Literal). resolves G p c x ≡ true) same (sym told ∙ yes'))

pub rat_on_fails : (G H : List (List Literal)) (p : Literal) (c d : List Literal) (b : Bool) → G ≡ H → In d H → b ≡ resolves G p c d → b ≡ false → false ≡ rat_on G p c
unfolding rat_on
rat_on_fails G H p c d b same inH told no' = sym (ap (list_all (resolves G p c)) same ∙ all_fails (resolves G p c) H d inH (sym told ∙ no'))

pub rat_on_holds : (G H K : List (List Literal)) (p : Literal) (c : List Literal) → G ≡ H → K ≡ H → list_all (resolves G p c) K ≡ true → true ≡ rat_on G p c
unfolding rat_on
rat_on_holds G H K p c same whole all = sym (ap (list_all (resolves G p c)) (same ∙ sym whole) ∙ all)
