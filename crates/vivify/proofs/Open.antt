-- No literal that is left is false at level 0.
use Rattle.std.proofs.Common.{◌≡◌, ◌∙◌, ◌&&◌, ℕ, ◌≤◌, Bool, true, false, not, List, [], ◌∷◌, ◌++◌, length, map, sym, refl, subst, inl, inr, arith}
use Rattle.std.proofs.lemmas.Bool.{cases_Bool, true≢false, false≢true}
use Rattle.sat_words.specs.Literal.{Literal, opposite}
use Rattle.sat_words.specs.Clause.{has, distinct_lits}
use Rattle.rup_model.specs.Rounds.{Rounds, falsifies}
use Rattle.rup_model.specs.Rup.{conflicts}
use Rattle.rup_model.proofs.Lists.{In, In_has, In_append, none_In}
use Rattle.rup_model.proofs.Closed.{Rounds-least, round-Rounds}
use Rattle.ring_port.specs.PortState.{PortState, lits_at}
use Rattle.ring_trail.specs.declared.step.TrailStep.{TrailStep}
use Rattle.ring_trail.specs.TrailData.{TrailData, IsTrail, IsFalseOn}
use Rattle.ring_trail.specs.Closed.{IsClosedClause}
use Rattle.watch_prop.specs.WatchData.{WatchData, attached}
use Rattle.watch_prop.specs.Propagation.{HasReasons, IsQuiet}
use Rattle.watch_prop.proofs.Agreeing.{fixed_same, fixed_quiet}
use Rattle.watch_prop.proofs.Decisions.{decisions_none}
use Rattle.vivify.specs.Walk.{walk_from, left_of}
use Rattle.vivify.specs.Walking.{ground}
use Rattle.vivify.proofs.Walks.{walk_false, walk_true, walk_conflict, walk_on}

-- rounds that falsify no clause have those from no literal
least : (G : List (List Literal)) (A : List Literal) → conflicts G A ≡ false → (l : Literal) → Rounds G [] l ≡ true → Rounds G A l ≡ true
unfolding conflicts
least G A quiet = Rounds-least G [] (Rounds G A) (λ l h. absurd (false≢true h)) (λ c m. none_In (falsifies (Rounds G A)) G c quiet m) (λ l h. sym (λ i. round-Rounds G A i l) ∙ h)

open_one : (G : List (List Literal)) (A : List Literal) (l : Literal) → conflicts G A ≡ false → Rounds G A l ≡ false → Rounds G [] l ≡ false
open_one G A l quiet e = elim (cases_Bool (Rounds G [] l)) as (λ _. Rounds G [] l ≡ false) [
  | inl h ↦ absurd (true≢false (sym (least G A quiet l h) ∙ e))
  | inr h ↦ h
]

-- each literal that the walk keeps has no negation among the rounds from no literal
walk_open : (G : List (List Literal)) (kept rest : List Literal) → conflicts G (map opposite kept) ≡ false → ((l : Literal) → In l kept → Rounds G [] (opposite l) ≡ false)
    → (l : Literal) → In l (walk_from G kept rest) → Rounds G [] (opposite l) ≡ false
unfolding walk_from
walk_open G kept [] quiet fine l h = fine l h
walk_open G kept (k ∷ rest) quiet fine l h =
    by (Rounds G (map opposite kept) (opposite k)) (Rounds G (map opposite kept) k) (conflicts G (map opposite (kept ++ k ∷ []))) refl refl refl
    (walk_open G kept rest quiet fine) (walk_open G (kept ++ k ∷ []) rest)
  where
    both : Rounds G (map opposite kept) (opposite k) ≡ false → (m : Literal) → In m (kept ++ k ∷ []) → Rounds G [] (opposite m) ≡ false
    both e m there = elim (In_append kept (k ∷ []) m there) as (λ _. Rounds G [] (opposite m) ≡ false) [
      | inl old ↦ fine m old
      | inr new ↦ (elim new as (λ _. Rounds G [] (opposite m) ≡ false) [
        | inl q ↦ subst (λ (x : Literal). Rounds G [] (opposite x) ≡ false) q (open_one G (map opposite kept) (opposite k) quiet e)
        | inr none ↦ absurd none
      ])
    ]

    by : (b d e : Bool) → Rounds G (map opposite kept) (opposite k) ≡ b → Rounds G (map opposite kept) k ≡ d → conflicts G (map opposite (kept ++ k ∷ [])) ≡ e
        → ((m : Literal) → In m (walk_from G kept rest) → Rounds G [] (opposite m) ≡ false)
        → (conflicts G (map opposite (kept ++ k ∷ [])) ≡ false → ((m : Literal) → In m (kept ++ k ∷ []) → Rounds G [] (opposite m) ≡ false) → (m : Literal) → In m (walk_from G (kept ++ k ∷ []) rest) → Rounds G [] (opposite m) ≡ false)
        → Rounds G [] (opposite l) ≡ false
    by true d e p q r f g = f l (subst (In l) (walk_false G kept k rest p) h)
    by false true e p q r f g = both p l (subst (In l) (walk_true G kept k rest p q) h)
    by false false true p q r f g = both p l (subst (In l) (walk_conflict G kept k rest p q r) h)
    by false false false p q r f g = g r (both p) l (subst (In l) (walk_on G kept k rest p q r) h)

-- a literal that is left isn't false
pub left_not_false : (s : PortState) (w : WatchData) (t : TrailData) (c : List Literal) (l : Literal) → IsTrail t → t.level ≡ 0 → HasReasons (attached w) s t.steps → IsQuiet w (lits_at s) t
    → In l (left_of (ground s w t) c) → IsFalseOn t.steps l → ⊥
left_not_false s w t c l shape zero' reasons quiet there bad =
    let none = decisions_none t shape zero' in
    let calm : conflicts (ground s w t) [] ≡ false = subst (λ (A : List Literal). conflicts (ground s w t) A ≡ false) none (fixed_quiet w s t shape quiet) in
    let fine = walk_open (ground s w t) [] c calm (λ m h. absurd h) l there in
    let made = (fixed_same w s t (opposite l) shape reasons quiet).1 record { place = bad.place; before = bad.before; true_there = bad.false_there } in
    true≢false (sym (subst (λ (A : List Literal). Rounds (ground s w t) A (opposite l) ≡ true) none made) ∙ fine)

-- a clause of two literals or more that aren't false is closed
pub open_is_closed : (L : List Literal) (steps : List TrailStep) (k : ℕ) → 2 ≤ length L → distinct_lits L ≡ true → ((l : Literal) → In l L → IsFalseOn steps l → ⊥) → IsClosedClause L steps k
open_is_closed [] steps k long distinct fine = absurd (omega arith)
open_is_closed (x ∷ []) steps k long distinct fine = absurd (omega arith)
open_is_closed (x ∷ y ∷ L) steps k long distinct fine = inr record {
  one = x;
  other = y;
  has_one = In_has (x ∷ y ∷ L) x (inl refl);
  has_other = In_has (x ∷ y ∷ L) y (inr (inl refl));
  differ = λ e. differs e (has (y ∷ L) x) refl distinct;
  one_open = λ h. fine x (inl refl) record { place = h.place; before = h.in_range; false_there = h.true_there };
  other_open = λ h. fine y (inr (inl refl)) record { place = h.place; before = h.in_range; false_there = h.true_there };
}
  where
    differs : x ≡ y → (b : Bool) → has (y ∷ L) x ≡ b → not b && distinct_lits (y ∷ L) ≡ true → ⊥
    differs e true f d = false≢true d
    differs e false f d = true≢false (sym (In_has (y ∷ L) x (inl (sym e))) ∙ f)
