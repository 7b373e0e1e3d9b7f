-- Which words are free, and what they tell of the holes.
use Rattle.std.proofs.Common.{◌≡◌, ℕ, suc, ◌+◌, ◌<◌, ◌≤◌, ◌&&◌, ◌||◌, Bool, true, false, List, [], ◌∷◌, refl, sym, ap, ◌∙◌, subst, arith, ⊎_elim, inl, inr, true≢false}
use Rattle.std.specs.Prelude.{Some, None, if◌then◌else◌}
use Rattle.std.proofs.lemmas.Bool.Decides.{leb_tells}
use Rattle.clause_cell.specs.declared.holes.Hole.{Hole}
use Rattle.clause_cell.specs.Free.{is_within, is_free, is_apart, is_clear, first_fit, without_fit, largest}
use Rattle.clause_cell.proofs.Ranges.{of_le, not_within, within_of, Parts, parts, joined, none_before, clear_parts, taken_free}

within_true : (f n w : ℕ) → f ≤ w → w < f + n → is_within f n w ≡ true
within_true f n w le lt i = of_le f w le i && of_le (suc w) (f + n) lt i

-- words that are taken were free
pub fit_free : (need : ℕ) (hs : List Hole) (a w : ℕ) → 0 < need → is_apart 0 hs ≡ true → first_fit need hs ≡ Some a → is_within a need w ≡ true → is_free hs w ≡ true
fit_free need hs a w some apart fit within = taken_free 0 need hs a w some apart fit ∙ ap (λ (b : Bool). b || is_free (without_fit need hs) w) within

-- none of a clear range is free
pub clear_free : (a n w : ℕ) (hs : List Hole) → is_clear a n hs ≡ true → is_within a n w ≡ true → is_free hs w ≡ false
clear_free a n w [] clear within = refl
clear_free a n w (h ∷ hs) clear within =
    let c = clear_parts a n h hs clear in
    let at = within_of a n w within in
    let lo = at.0 in
    let hi = at.1 in
    let first = not_within h.first h.len w (⊎_elim (λ (x : a + n ≤ h.first). inl (omega arith)) (λ (x : h.first + h.len ≤ a). inr (omega arith)) c.0) in
    let others = clear_free a n w hs c.1 within in
    λ i. first i || others i

-- a need above the longest fits nowhere
pub none_fits : (need : ℕ) (hs : List Hole) → largest hs < need → first_fit need hs ≡ None
none_fits need [] lt = refl
none_fits need (h ∷ hs) lt = ⊎_elim
    (λ t. absurd (let le = t.1 in omega arith))
    (λ t. (λ i. if t.0 i then Some h.first else first_fit need hs) ∙ none_fits need hs (omega arith))
    (leb_tells need h.len)

-- Holes that leave the same words free

first_free : (h : Hole) (hs : List Hole) → 0 < h.len → is_free (h ∷ hs) h.first ≡ true
first_free h hs some i = within_true h.first h.len h.first (omega arith) (omega arith) i || is_free hs h.first

module _ (f g : ℕ) (h k : Hole) (hs ks : List Hole) (p : Parts f h hs) (q : Parts g k ks) (same : (w : ℕ) → is_free (h ∷ hs) w ≡ is_free (k ∷ ks) w) where
  -- one does not begin before the other
  not_before : h.first < k.first → ⊥
  not_before lt =
      let begins : k.first ≤ k.first = omega arith in
      let none = none_before k.first (k ∷ ks) h.first (joined k.first k ks (record { begins = begins; some = q.some; ends = q.ends; others = q.others })) lt in
      true≢false (sym (first_free h hs p.some) ∙ same h.first ∙ none)

  -- nor ends before it
  not_shorter : h.first ≡ k.first → h.len < k.len → ⊥
  not_shorter e lt =
      let w : ℕ = h.first + h.len in
      let past = not_within h.first h.len w (inr (omega arith)) in
      let others = none_before (h.first + h.len + 1) hs w p.others (omega arith) in
      let busy : is_free (h ∷ hs) w ≡ false = λ i. past i || others i in
      let there = within_true k.first k.len w (omega arith) (omega arith) in
      let free : is_free (k ∷ ks) w ≡ true = λ i. there i || is_free ks w in
      true≢false (sym free ∙ sym (same w) ∙ busy)

  -- after equal holes the same words are free
  same_behind : h.first ≡ k.first → h.len ≡ k.len → (w : ℕ) → is_free hs w ≡ is_free ks w
  same_behind e n w = ⊎_elim
      (λ t. let le = t.1 in none_before (h.first + h.len + 1) hs w p.others (omega arith) ∙ sym (none_before (k.first + k.len + 1) ks w q.others (omega arith)))
      (λ t. let gt = t.1 in
      let past = not_within h.first h.len w (inr (omega arith)) in
      let past_k = not_within k.first k.len w (inr (omega arith)) in
      (λ i. sym past i || is_free hs w) ∙ same w ∙ (λ i. past_k i || is_free ks w))
      (leb_tells w (h.first + h.len))

equal_of : (a b : ℕ) → (a < b → ⊥) → (b < a → ⊥) → a ≡ b
equal_of a b f g = ⊎_elim
    (λ t. let le = t.1 in ⊎_elim (λ u. let ge = u.1 in omega arith) (λ u. absurd (f u.1)) (leb_tells b a))
    (λ t. absurd (g t.1))
    (leb_tells a b)

pub same_holes : (f : ℕ) (hs ks : List Hole) → is_apart f hs ≡ true → is_apart f ks ≡ true → ((w : ℕ) → is_free hs w ≡ is_free ks w) → hs ≡ ks
same_holes f [] [] a b same = refl
same_holes f [] (k ∷ ks) a b same = absurd (true≢false (sym (first_free k ks (parts f k ks b).some) ∙ sym (same k.first)))
same_holes f (h ∷ hs) [] a b same = absurd (true≢false (sym (first_free h hs (parts f h hs a).some) ∙ same h.first))
same_holes f (h ∷ hs) (k ∷ ks) a b same =
    let p = parts f h hs a in
    let q = parts f k ks b in
    let first : h.first ≡ k.first = equal_of h.first k.first (not_before f f h k hs ks p q same) (not_before f f k h ks hs q p (λ w. sym (same w))) in
    let len : h.len ≡ k.len = equal_of h.len k.len (not_shorter f f h k hs ks p q same first) (not_shorter f f k h ks hs q p (λ w. sym (same w)) (sym first)) in
    let behind : h.first + h.len + 1 ≡ k.first + k.len + 1 = omega arith in
    let rest = same_holes (h.first + h.len + 1) hs ks p.others (subst (λ (n : ℕ). is_apart n ks ≡ true) (sym behind) q.others) (same_behind f f h k hs ks p q same first len) in
    λ i. record { first = first i; len = len i } ∷ rest i
