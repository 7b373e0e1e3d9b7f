-- Functions with one value changed, and sums over the numbers below a bound.
use Rattle.std.proofs.Common.{◌≡◌, ◌≢◌, ◌⊎◌, ℕ, zero, suc, ◌+◌, ◌*◌, ◌<◌, ◌≤◌, cond, refl, sym, ap, subst, inl, inr, ⊎_elim, arith, eq-eqb, ne_eqb}
use mathlib.Core.Logic.{dite}
use native.Mathlib.Decide.{ℕ_discrete}
use Rattle.rup_model.specs.Basics.{put, below}

module _ {A : Type 0} (f : ℕ → A) (k : ℕ) (v : A) where
  pub at_put : (F : A → Type 0) (j : ℕ) → (j ≡ k → F v) → (j ≢ k → F (f j)) → F (put f k v j)
  at_put F j hit miss = dite (ℕ_discrete j k) (λ e. subst (λ b. F (cond b v (f j))) (sym (eq-eqb j k e)) (hit e)) (λ n. subst (λ b. F (cond b v (f j))) (sym (ne_eqb j k n)) (miss n))

  pub put_here : put f k v k ≡ v
  put_here = at_put (λ x. x ≡ v) k (λ _. refl) (λ n. absurd (n refl))

  pub put_else : (j : ℕ) → j ≢ k → put f k v j ≡ f j
  put_else j n = at_put (λ x. x ≡ f j) j (λ e. absurd (n e)) (λ _. refl)

pub below_same : (n : ℕ) (F G : ℕ → ℕ) → ((i : ℕ) → i < n → G i ≡ F i) → below n G ≡ below n F
below_same zero F G same = refl
below_same (suc n) F G same = let h : G n ≡ F n = same n (omega arith) in let r : below n G ≡ below n F = below_same n F G (λ i lt. same i (omega arith)) in omega arith

-- if one value changes
pub below_put : (n k : ℕ) (F G : ℕ → ℕ) → k < n → ((i : ℕ) → i ≢ k → G i ≡ F i) → below n G + F k ≡ below n F + G k
below_put zero k F G lt same = absurd (omega arith)
below_put (suc n) k F G lt same = dite (ℕ_discrete k n)
    (λ e. let r : below n G ≡ below n F = below_same n F G (λ i less. same i (λ h. omega arith)) in let a : F k ≡ F n = ap F e in let b : G k ≡ G n = ap G e in omega arith)
    (λ ne. let r : below n G + F k ≡ below n F + G k = below_put n k F G (omega arith) same in let h : G n ≡ F n = same n (λ e. ne (sym e)) in omega arith)

pub below_at : (n k : ℕ) (F : ℕ → ℕ) → k < n → F k ≤ below n F
below_at zero k F lt = absurd (omega arith)
below_at (suc n) k F lt = dite (ℕ_discrete k n)
    (λ e. let a : F k ≡ F n = ap F e in omega arith)
    (λ ne. let r : F k ≤ below n F = below_at n k F (omega arith) in omega arith)

pub below_most : (n m : ℕ) (F : ℕ → ℕ) → ((i : ℕ) → F i ≤ m) → below n F ≤ n * m
below_most zero m F h = omega arith
below_most (suc n) m F h = let a = h n in let b = below_most n m F h in omega arith

pub below_all : (n m : ℕ) → below n (λ _. m) ≡ n * m
below_all zero m = omega arith
below_all (suc n) m = let b = below_all n m in omega arith

pub below_none : (n : ℕ) (F : ℕ → ℕ) → ((i : ℕ) → i < n → F i ≡ 0) → below n F ≡ 0
below_none zero F h = refl
below_none (suc n) F h = let a : F n ≡ 0 = h n (omega arith) in let b = below_none n F (λ i lt. h i (omega arith)) in omega arith

-- a sum that is not 0 has a part that is not 0
pub below_some : (n : ℕ) (F : ℕ → ℕ) → 0 < below n F → (i : ℕ) × (i < n) × (0 < F i)
below_some zero F h = absurd (omega arith)
below_some (suc n) F h = ⊎_elim
    (λ (x : F n ≡ 0). let t = below_some n F (omega arith) in (t.0, (let q = t.1 in omega arith), t.2))
    (λ (x : 0 < F n). (n, omega arith, x))
    (zero_or (F n))
  where
    zero_or : (m : ℕ) → (m ≡ 0) ⊎ (0 < m)
    zero_or zero = inl refl
    zero_or (suc m) = inr (omega arith)

-- the sum with its first part apart
pub below_first : (n : ℕ) (F : ℕ → ℕ) → below (suc n) F ≡ F 0 + below n (λ i. F (suc i))
below_first zero F = omega arith
below_first (suc n) F = let r = below_first n F in omega arith
