-- What is RUP since no quiet set has its negations, and what a quiet set has.
use Rattle.std.proofs.Common.{◌≡◌, Bool, true, false, not, ◌||◌, List, map, sym, ap, ◌∙◌, inl, inr, ◌⊎◌}
use Rattle.std.proofs.lemmas.Bool.{or_left, or_right, or_parts, and_from, cases_Bool, true≢false}
use Rattle.sat_words.specs.Literal.{Literal, opposite, same}
use Rattle.sat_words.specs.Clause.{has, has_opposites}
use Rattle.sat_words.proofs.Members.{same-refl}
use Rattle.rup_model.specs.Rounds.{falsifies, forces, Rounds}
use Rattle.rup_model.specs.Rup.{conflicts, rup}
use Rattle.rup_model.specs.Quiet.{IsQuiet}
use Rattle.rup_model.proofs.Lists.{In, any_In, none_In, In_all, In_has, has_In, In_map}
use Rattle.rup_model.proofs.Closed.{round-Rounds, Rounds-has}

-- if propagation meets no conflict, it ends at a quiet set
pub Rounds-quiet : (G : List (List Literal)) (A : List Literal) → conflicts G A ≡ false → IsQuiet G (Rounds G A)
unfolding conflicts
Rounds-quiet G A quiet = record { open_yet = quiet; closed = λ l h. sym (λ i. round-Rounds G A i l) ∙ h }

pub follows_unless : (G : List (List Literal)) (c : List Literal)
    → ((S : Literal → Bool) → IsQuiet G S → ((l : Literal) → has c l ≡ true → S (opposite l) ≡ true) → ⊥) → rup G c ≡ true
unfolding rup
follows_unless G c none =
    elim (cases_Bool (has_opposites c || conflicts G (map opposite c))) as (λ _. rup G c ≡ true) [
      | inl e ↦ e
      | inr f ↦ (
          let quiet : conflicts G (map opposite c) ≡ false = (or_parts (has_opposites c) (conflicts G (map opposite c)) f).1 in
          absurd (none (Rounds G (map opposite c)) (Rounds-quiet G (map opposite c) quiet)
          (λ l h. Rounds-has G (map opposite c) (opposite l) (In_has _ (opposite l) (In_map opposite c l (has_In c l h))))))
    ]

module _ (G : List (List Literal)) (S : Literal → Bool) (q : IsQuiet G S) (d : List Literal) (inG : In d G) where
  -- some literal of a clause is not false
  pub quiet_open : ((k : Literal) → In k d → S (opposite k) ≡ true) → ⊥
  quiet_open all = true≢false (sym (In_all (λ k. S (opposite k)) d all) ∙ none_In (falsifies S) G d q.open_yet inG)

  -- a literal is true if all others of its clause are false
  pub quiet_closed : (l : Literal) → In l d → ((k : Literal) → In k d → (k ≡ l) ⊎ (S (opposite k) ≡ true)) → S l ≡ true
  quiet_closed l inD others =
      elim (cases_Bool (S (opposite l))) as (λ _. S l ≡ true) [
        | inl false_too ↦ absurd (quiet_open (λ k i. elim (others k i) as (λ _. S (opposite k) ≡ true) [ inl e ↦ ap (λ m. S (opposite m)) e ∙ false_too | inr h ↦ h ]))
        | inr open_yet ↦ q.closed l (or_right (S l) _ (any_In (forces S l) G d inG (and_from _ _ (In_has d l inD) (and_from _ _ (ap not open_yet) (In_all (λ k. same l k || S (opposite k)) d (λ k i. one k (others k i)))))))
      ]
    where
      one : (k : Literal) → (k ≡ l) ⊎ (S (opposite k) ≡ true) → (same l k || S (opposite k)) ≡ true
      one k (inl e) = or_left _ _ (ap (same l) e ∙ same-refl l)
      one k (inr e) = or_right _ _ e
