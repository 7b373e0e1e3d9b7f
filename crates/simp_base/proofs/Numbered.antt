-- Clauses by number.
use Rattle.std.proofs.Common.{◌≡◌, ◌∙◌, ℕ, Bool, List, [], ◌∷◌, Some, sym, ap, inl, inr, Contains}
use Rattle.std.specs.Prelude.{◌==◌, if◌then◌else◌}
use Rattle.std.specs.List.{find}
use Rattle.std.specs.Option.{option_map}
use Rattle.std.proofs.lemmas.Bool.Decides.{eqb_tells}
use Rattle.sat_words.specs.Literal.{Literal}
use Rattle.rup_model.specs.Hints.{numbered}
use Rattle.rup_model.proofs.Lists.{In, In_Contains}

among : (cs : List (ℕ × List Literal)) (n : ℕ) (c : List Literal) → numbered cs n ≡ Some c → In (n, c) cs
among [] n c e = absurd (let no : ⊥ = cc in no)
among (x ∷ cs) n c e = elim (eqb_tells x.0 n) as (λ _. In (n, c) (x ∷ cs)) [
  | inl t ↦ (
      let here : Some x.1 ≡ Some c = sym (ap (λ (b : Bool). option_map (λ (p : ℕ × List Literal). p.1) (if b then Some x else find (λ p. p.0 == n) cs)) t.0) ∙ e in
      let same : x.1 ≡ c = cc in inl (λ i. (t.1 i, same i)))
  | inr t ↦ inr (among cs n c (sym (ap (λ (b : Bool). option_map (λ (p : ℕ × List Literal). p.1) (if b then Some x else find (λ p. p.0 == n) cs)) t.0) ∙ e))
]

-- the clause with a number is one of the list
pub numbered_there : (cs : List (ℕ × List Literal)) (n : ℕ) (c : List Literal) → numbered cs n ≡ Some c → Contains cs (n, c)
numbered_there cs n c e = In_Contains cs (n, c) (among cs n c e)
