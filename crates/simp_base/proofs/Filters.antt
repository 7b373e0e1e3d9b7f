-- Members of filtered lists.
use Rattle.std.proofs.Common.{◌≡◌, Bool, true, false, List, [], ◌∷◌, cond, filter, refl, sym, ap, ◌∙◌, inl, inr}
use Rattle.std.proofs.lemmas.Bool.{true≢false}
use Rattle.rup_model.proofs.Lists.{In}

pub In_filter : {X : Type 0} (p : X → Bool) (xs : List X) (x : X) → In x xs → p x ≡ true → In x (filter p xs)
In_filter p [] x i h = absurd i
In_filter {X} p (y ∷ ys) x i h = by (p y) refl i (λ j. In_filter p ys x j h)
  where
    by : (b : Bool) → p y ≡ b → In x (y ∷ ys) → (In x ys → In x (filter p ys)) → In x (cond b (y ∷ filter p ys) (filter p ys))
    by true e (inl q) r = inl q
    by true e (inr j) r = inr (r j)
    by false e (inl q) r = absurd (true≢false (sym h ∙ sym (ap p q) ∙ e))
    by false e (inr j) r = r j

pub filter_In : {X : Type 0} (p : X → Bool) (xs : List X) (x : X) → In x (filter p xs) → In x xs × (p x ≡ true)
filter_In p [] x i = absurd i
filter_In {X} p (y ∷ ys) x i = by (p y) refl i (λ j. filter_In p ys x j)
  where
    by : (b : Bool) → p y ≡ b → In x (cond b (y ∷ filter p ys) (filter p ys)) → (In x (filter p ys) → In x ys × (p x ≡ true)) → In x (y ∷ ys) × (p x ≡ true)
    by true e (inl q) r = (inl q, sym (ap p q) ∙ e)
    by true e (inr j) r = let t = r j in (inr t.0, t.1)
    by false e j r = let t = r j in (inr t.0, t.1)
