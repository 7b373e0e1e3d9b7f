-- A list of which one element is gone, its place taken by the last.
use Rattle.std.proofs.Common.{◌≡◌, ◌≢◌, ◌⊎◌, ◌↔◌, ℕ, zero, suc, ◌+◌, ◌-◌, ◌<◌, List, [], ◌∷◌, ◌++◌, length, get_or, refl, sym, ap, ◌∙◌, subst, inl, inr, arith, ⊎_elim}
use mathlib.Core.Logic.{dite}
use native.Mathlib.Decide.{ℕ_discrete}
use Rattle.std.proofs.lemmas.List.{get_or_default}
use Rattle.std.specs.List.{All, Contains, sum_by}
use Rattle.std.proofs.lemmas.List.Sums.{sum_by-append}
use Rattle.simp_base.specs.Multisets.{SameMultiset}
use Rattle.simp_base.specs.Removed.{Removed}
use Rattle.simp_base.specs.WorkState.{HaveOwnNumbers}
use Rattle.sat_words.specs.Literal.{Literal}

module _ {X : Type 0} (old new : List X) (i : ℕ) (r : Removed old new i) where
  -- if an element of the new list stood
  pub stood : (k : ℕ) → k < length new → (j : ℕ) × (j < length old) × (j ≢ i) × ((d : X) → get_or new k d ≡ get_or old j d) × ((k ≡ i) ⊎ (j ≡ k)) × ((k ≡ i) → j ≡ length old - 1)
  stood k lt = let n = r.len in
      dite (ℕ_discrete k i)
      (λ (e : k ≡ i). (let w = r.within in let le : length old - 1 < length old = omega arith in let ne : length old - 1 ≢ i = λ q. omega arith in
      (length old - 1, le, ne, λ d. ap (λ q. get_or new q d) e ∙ r.here d (omega arith), inl e, λ _. refl)))
      (λ (ne : k ≢ i). (k, omega arith, ne, λ d. r.else k d ne (omega arith), inr refl, λ q. absurd (ne q)))

  -- if an element of the old list stands
  pub stands : (j : ℕ) → j < length old → j ≢ i → (k : ℕ) × (k < length new) × ((d : X) → get_or new k d ≡ get_or old j d)
  stands j lt ne = let n = r.len in let w = r.within in
      dite (ℕ_discrete j (length old - 1))
      (λ (e : j ≡ length old - 1). (i, at_end e, λ d. r.here d (further e) ∙ ap (λ q. get_or old q d) (sym e)))
      (λ (m : j ≢ length old - 1). (j, omega arith, λ d. r.else j d ne (omega arith)))
    where
      at_end : j ≡ length old - 1 → i < length new
      at_end e = let n = r.len in let w = r.within in let p : i ≢ length old - 1 = λ q. ne (e ∙ sym q) in omega arith

      further : j ≡ length old - 1 → i + 1 < length old
      further e = let n = r.len in let p = at_end e in omega arith

  pub removed_back : (x : X) → Contains new x → Contains old x
  removed_back x h = let s = stood h.0 h.1 in (s.0, s.1, sym (s.3 x) ∙ h.2)

  pub removed_All : (P : X → Type 0) → All P old → All P new
  removed_All P all k d lt = let s = stood k lt in subst P (sym (s.3 d)) (all s.0 d s.1)

module _ (old new : List (ℕ × List Literal)) (i : ℕ) (r : Removed old new i) (own : HaveOwnNumbers old) where
  apart : (j k : ℕ) (d : ℕ × List Literal) → j < length old → k < length old → j ≢ k → (get_or old j d).0 ≢ (get_or old k d).0
  apart j k d lj lk ne q = ⊎_elim (λ (lt : j < k). own j k d lt lk q) (λ (lt : k < j). own k j d lt lj (sym q)) (either j k ne)
    where
      either : (a b : ℕ) → a ≢ b → (a < b) ⊎ (b < a)
      either zero zero n = absurd (n refl)
      either zero (suc b) n = inl (omega arith)
      either (suc a) zero n = inr (omega arith)
      either (suc a) (suc b) n = ⊎_elim (λ (h : a < b). inl (omega arith)) (λ (h : b < a). inr (omega arith)) (either a b (λ e. n (ap suc e)))

  pub own_less : HaveOwnNumbers new
  own_less j k d lt lk q =
      let s = stood old new i r j (omega arith) in
      let t = stood old new i r k lk in
      apart s.0 t.0 d s.1 t.1 (λ e. differ s.0 t.0 s.4 s.5 t.4 t.5 e) (sym (ap (λ (c : ℕ × List Literal). c.0) (s.3 d)) ∙ q ∙ ap (λ (c : ℕ × List Literal). c.0) (t.3 d))
    where
      differ : (a b : ℕ) → (j ≡ i) ⊎ (a ≡ j) → (j ≡ i → a ≡ length old - 1) → (k ≡ i) ⊎ (b ≡ k) → (k ≡ i → b ≡ length old - 1) → a ≡ b → ⊥
      differ a b (inl e) f (inl u) g q = omega arith
      differ a b (inl e) f (inr u) g q = let n = r.len in let v = f e in omega arith
      differ a b (inr e) f (inl u) g q = let n = r.len in let v = g u in omega arith
      differ a b (inr e) f (inr u) g q = omega arith

  pub others_less : (number : ℕ) → ((d : ℕ × List Literal) → (get_or old i d).0 ≡ number) → (n : ℕ) (c : List Literal) → Contains new (n, c) ↔ (Contains old (n, c) × (n ≢ number))
  others_less number is n c = (forth, back)
    where
      forth : Contains new (n, c) → Contains old (n, c) × (n ≢ number)
      forth h =
          let s = stood old new i r h.0 h.1 in
          let at : get_or old s.0 (n, c) ≡ (n, c) = sym (s.3 (n, c)) ∙ h.2 in
          ((s.0, s.1, at), λ e. apart s.0 i (n, c) s.1 r.within s.2 (ap (λ (x : ℕ × List Literal). x.0) at ∙ e ∙ sym (is (n, c))))

      back : Contains old (n, c) × (n ≢ number) → Contains new (n, c)
      back h =
          let t = stands old new i r h.0.0 h.0.1 (λ e. h.1 (sym (ap (λ (x : ℕ × List Literal). x.0) h.0.2) ∙ ap (λ q. (get_or old q (n, c)).0) e ∙ is (n, c))) in
          (t.0, t.1, t.2 (n, c) ∙ h.0.2)

sum_cons : {X : Type 0} (f : X → ℕ) (x : X) (xs : List X) → sum_by f (x ∷ xs) ≡ f x + sum_by f xs
sum_cons f x xs = let e : sum_by f ((x ∷ []) ++ xs) ≡ (0 + f x) + sum_by f xs = sum_by-append f (x ∷ []) xs in omega (arith, e)

-- the elements are the one that is gone and those that are left
pub removed_each : (old new : List (ℕ × List Literal)) (i : ℕ) → Removed old new i → (number : ℕ) (c : List Literal) (d : ℕ × List Literal) → get_or old i d ≡ (number, c) → SameMultiset old ((number, c) ∷ new)
removed_each old new i r number c d is = record {
  weighs = λ g. let a = r.weighs g d in let b = sum_cons g (number, c) new in let e : g (get_or old i d) ≡ g (number, c) = ap g is in omega (arith, a, b, e);
}

-- the clause that stands where this number does
pub one_clause : (cs : List (ℕ × List Literal)) → HaveOwnNumbers cs → (number place : ℕ) → place < length cs → ((d : ℕ × List Literal) → (get_or cs place d).0 ≡ number) → (c : List Literal) → Contains cs (number, c) → get_or cs place (number, c) ≡ (number, c)
one_clause cs own number place lt here c h = dite (ℕ_discrete place h.0)
    (λ (e : place ≡ h.0). ap (λ k. get_or cs k (number, c)) e ∙ h.2)
    (λ (ne : place ≢ h.0). absurd (clash ne))
  where
    same : (get_or cs place (number, c)).0 ≡ (get_or cs h.0 (number, c)).0
    same = here (number, c) ∙ sym (ap (λ (x : ℕ × List Literal). x.0) h.2)

    either : (a b : ℕ) → a ≢ b → (a < b) ⊎ (b < a)
    either zero zero n = absurd (n refl)
    either zero (suc b) n = inl (omega arith)
    either (suc a) zero n = inr (omega arith)
    either (suc a) (suc b) n = ⊎_elim (λ (x : a < b). inl (omega arith)) (λ (x : b < a). inr (omega arith)) (either a b (λ e. n (ap suc e)))

    clash : place ≢ h.0 → ⊥
    clash ne = ⊎_elim (λ (x : place < h.0). own place h.0 (number, c) x h.1 same) (λ (x : h.0 < place). own h.0 place (number, c) x lt (sym same)) (either place h.0 ne)

-- two clauses under one number are one
pub same_number : (cs : List (ℕ × List Literal)) → HaveOwnNumbers cs → (number : ℕ) (c d : List Literal) → Contains cs (number, c) → Contains cs (number, d) → c ≡ d
same_number cs own number c d h k =
    ap (λ (x : ℕ × List Literal). x.1)
    (sym (one_clause cs own number k.0 k.1 (λ e. ap (λ (x : ℕ × List Literal). x.0) (get_or_default cs k.0 e (number, d) k.1 ∙ k.2)) c h) ∙ get_or_default cs k.0 (number, c) (number, d) k.1 ∙ k.2)
