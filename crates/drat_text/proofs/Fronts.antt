-- A front of the bytes of some lines ends in one of them.
use Rattle.std.proofs.Common.{◌≡◌, ◌∙◌, ℕ, List, [], ◌∷◌, ◌++◌, length, take, refl, ap, sym, append_assoc, append-nil, ◌⊎◌, inl, inr, arith}
use Rattle.std.proofs.lemmas.List.{take_all}
use Rattle.sat_words.specs.declared.line.ProofFormat.{ProofFormat}
use Rattle.rup_model.specs.NumberedLines.{NumberedLine}
use Rattle.drat_text.specs.Spelling.{spelling, proof_bytes}
use Rattle.drat_text.specs.Front.{IsCutText}

-- the front ends within the first part, or goes on after it
abbrev Ends : List ℕ → List ℕ → List ℕ → List ℕ → Type 0
Ends front rest a b = (front ≡ take (length front) a) ⊎ ((more : List ℕ) × (front ≡ a ++ more) × (more ++ rest ≡ b))

ends : (front rest a b : List ℕ) → front ++ rest ≡ a ++ b → Ends front rest a b
ends [] rest a b e = inl refl
ends (x ∷ front) rest [] b e = inr (x ∷ front, refl, e)
ends (x ∷ front) rest (y ∷ a) b e =
    let same : x ≡ y = cc in
    let tail : front ++ rest ≡ a ++ b = cc in
    elim (ends front rest a b tail) as (λ _. Ends (x ∷ front) rest (y ∷ a) b) [
      | inl here ↦ inl (ap (λ (n : ℕ). n ∷ front) same ∙ ap (λ (xs : List ℕ). y ∷ xs) here)
      | inr (more, e1, e2) ↦ inr (more, ap (λ (n : ℕ). n ∷ front) same ∙ ap (λ (xs : List ℕ). y ∷ xs) e1, e2)
    ]

module _ (f : ProofFormat) where
  -- it ends within the first line
  here : (y : NumberedLine) (others : List NumberedLine) (front : List ℕ) → front ≡ take (length front) (spelling f y) → IsCutText f (y ∷ others) front
  here y others front e = record { first = []; line = y; others = others; cut = length front; split = refl; ends = e }

  later : (y : NumberedLine) (lines : List NumberedLine) (front more : List ℕ) → front ≡ spelling f y ++ more → IsCutText f lines more → IsCutText f (y ∷ lines) front
  later y lines front more e t = record {
    first = y ∷ t.first;
    line = t.line;
    others = t.others;
    cut = t.cut;
    split = ap (λ (xs : List NumberedLine). y ∷ xs) t.split;
    ends = e ∙ ap (λ (xs : List ℕ). spelling f y ++ xs) t.ends ∙ sym (append_assoc (spelling f y) (proof_bytes f t.first) (take t.cut (spelling f t.line)));
  }

  -- nothing stands after the last line
  last : (x : NumberedLine) (front rest : List ℕ) → Ends front rest (spelling f x) [] → IsCutText f (x ∷ []) front
  last x front rest (inl e) = here x [] front e
  last x front rest (inr (more, e, none)) = here x [] front (all more e none)
    where
      all : (more : List ℕ) → front ≡ spelling f x ++ more → more ++ rest ≡ [] → front ≡ take (length front) (spelling f x)
      all [] e none =
          let same : front ≡ spelling f x = e ∙ append-nil (spelling f x) in
          same ∙ sym (take_all (length front) (spelling f x) (omega (arith, ap (λ (xs : List ℕ). length xs) same)))
      all (b ∷ more) e none = absurd (let no : ⊥ = cc in no)

  pub cut_text : (L : List NumberedLine) (x : NumberedLine) (front rest : List ℕ) → front ++ rest ≡ proof_bytes f (L ++ x ∷ []) → IsCutText f (L ++ x ∷ []) front
  cut_text [] x front rest e = last x front rest (ends front rest (spelling f x) [] e)
  cut_text (y ∷ L) x front rest e =
      elim (ends front rest (spelling f y) (proof_bytes f (L ++ x ∷ [])) e) as (λ _. IsCutText f (y ∷ L ++ x ∷ []) front) [
        | inl short ↦ here y (L ++ x ∷ []) front short
        | inr (more, e1, e2) ↦ later y (L ++ x ∷ []) front more e1 (cut_text L x more rest e2)
      ]
