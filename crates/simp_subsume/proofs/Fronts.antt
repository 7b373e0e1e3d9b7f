-- The front of a list, and what is behind it.
use Rattle.std.proofs.Common.{◌≡◌, ◌⊎◌, ℕ, zero, suc, ◌+◌, ◌<◌, ◌≤◌, List, [], ◌∷◌, length, take, drop, get_or, refl, sym, ap, subst, ◌∙◌, inl, inr, ⊎_elim, arith, add-one}
use Rattle.std.proofs.Math.Seq.{drop-cons}
use Rattle.rup_model.proofs.Lists.{In}

pub In_drop : {X : Type 0} (c : List X) (i : ℕ) (x : X) → In x (drop i c) → In x c
In_drop c zero x h = h
In_drop [] (suc i) x h = h
In_drop (y ∷ c) (suc i) x h = inr (In_drop c i x h)

pub In_take : {X : Type 0} (c : List X) (i : ℕ) (x : X) → In x (take i c) → In x c
In_take c zero x h = absurd h
In_take [] (suc i) x h = h
In_take (y ∷ c) (suc i) x (inl e) = inl e
In_take (y ∷ c) (suc i) x (inr h) = inr (In_take c i x h)

pub take_or_drop : {X : Type 0} (c : List X) (i : ℕ) (x : X) → In x c → In x (take i c) ⊎ In x (drop i c)
take_or_drop c zero x h = inr h
take_or_drop [] (suc i) x h = absurd h
take_or_drop (y ∷ c) (suc i) x (inl e) = inl (inl e)
take_or_drop (y ∷ c) (suc i) x (inr h) = ⊎_elim (λ (t : In x (take i c)). inl (inr t)) (λ (d : In x (drop i c)). inr d) (take_or_drop c i x h)

pub take_all : {X : Type 0} (c : List X) (i : ℕ) → length c ≤ i → take i c ≡ c
take_all [] zero le = refl
take_all [] (suc i) le = refl
take_all (x ∷ c) zero le = absurd (omega arith)
take_all (x ∷ c) (suc i) le = ap (λ d. x ∷ d) (take_all c i (omega arith))

pub front : {X : Type 0} (c : List X) (i : ℕ) (d : X) → i < length c → drop i c ≡ get_or c i d ∷ drop (i + 1) c
front c i d lt = drop-cons c i d lt ∙ ap (λ j. get_or c i d ∷ drop j c) (sym (add-one i))

step_more : {X : Type 0} (c : List X) (i : ℕ) (d : X) → i < length c → (x : X) → In x (take (suc i) c) → In x (take i c) ⊎ (get_or c i d ≡ x)
step_more [] i d lt x h = absurd (omega arith)
step_more (y ∷ c) zero d lt x (inl e) = inr e
step_more (y ∷ c) zero d lt x (inr h) = absurd h
step_more (y ∷ c) (suc i) d lt x (inl e) = inl (inl e)
step_more (y ∷ c) (suc i) d lt x (inr h) = ⊎_elim (λ (t : In x (take i c)). inl (inr t)) (λ (e : get_or c i d ≡ x). inr e) (step_more c i d (omega arith) x h)

pub one_more : {X : Type 0} (c : List X) (i : ℕ) (d : X) → i < length c → (x : X) → In x (take (i + 1) c) → In x (take i c) ⊎ (get_or c i d ≡ x)
one_more c i d lt x h = step_more c i d lt x (subst (λ n. In x (take n c)) (add-one i) h)

step_still : {X : Type 0} (c : List X) (i : ℕ) (x : X) → In x (take i c) → In x (take (suc i) c)
step_still c zero x h = absurd h
step_still [] (suc i) x h = h
step_still (y ∷ c) (suc i) x (inl e) = inl e
step_still (y ∷ c) (suc i) x (inr h) = inr (step_still c i x h)

pub still : {X : Type 0} (c : List X) (i : ℕ) (x : X) → In x (take i c) → In x (take (i + 1) c)
still c i x h = subst (λ n. In x (take n c)) (sym (add-one i)) (step_still c i x h)

step_here : {X : Type 0} (c : List X) (i : ℕ) (d : X) → i < length c → In (get_or c i d) (take (suc i) c)
step_here [] i d lt = absurd (omega arith)
step_here (y ∷ c) zero d lt = inl refl
step_here (y ∷ c) (suc i) d lt = inr (step_here c i d (omega arith))

pub here : {X : Type 0} (c : List X) (i : ℕ) (d : X) → i < length c → In (get_or c i d) (take (i + 1) c)
here c i d lt = subst (λ n. In (get_or c i d) (take n c)) (sym (add-one i)) (step_here c i d lt)
