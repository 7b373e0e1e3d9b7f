-- Looking up what is held, and what of it propagation may use.
use Rattle.std.proofs.Common.{◌≡◌, ℕ, suc, ◌==◌, cond, Bool, true, false, List, [], ◌∷◌, ◌++◌, map, sym, refl, ap, subst, ◌∙◌, inl, inr, arith, Some, IsSome}
use Rattle.std.specs.List.{find, All, Contains}
use Rattle.std.proofs.lemmas.Bool.{false≢true, eqb-true}
use Rattle.std.specs.Option.{option_map_or}
use Rattle.std.specs.declared.option.Option.{Option}
use Rattle.sat_words.specs.Literal.{Literal}
use Rattle.sat_words.specs.Clause.{has}
use Rattle.rup_model.specs.Opening.{IsLong}
use Rattle.rup_model.proofs.Lists.{In, In_append_left, In_append_right, In_map, In_Contains, has_In}
use Rattle.ring_port.specs.PortState.{Holding, PortState, IsPort, IsKept, IsOn, held_at, lits_at, known}

-- what is found passes, and is in the list
pub record Found (X : Type 0) (p : X → Bool) (xs : List X) : Type 0 where
  pub it : X
  pub among : In it xs
  pub passes : p it ≡ true
  pub is : find p xs ≡ Some it

pub found : {X : Type 0} (p : X → Bool) (xs : List X) → IsSome (find p xs) → Found X p xs
found p [] h = absurd (false≢true h)
found {X} p (y ∷ ys) h = at (p y) refl (found p ys)
  where
    at : (b : Bool) → p y ≡ b → (IsSome (find p ys) → Found X p ys) → Found X p (y ∷ ys)
    at true e rest = record { it = y; among = inl refl; passes = e; is = ap (λ b. cond b (Some y) (find p ys)) e }
    at false e rest =
        let here : find p (y ∷ ys) ≡ find p ys = ap (λ b. cond b (Some y) (find p ys)) e in
        let t = rest (subst (λ (o : Option X). IsSome o) here h) in
        record { it = t.it; among = inr t.among; passes = t.passes; is = here ∙ t.is }

-- an element that is found in the front is found in the whole
pub found_in_front : {X : Type 0} (p : X → Bool) (xs ys : List X) → IsSome (find p xs) → find p (xs ++ ys) ≡ find p xs
found_in_front p [] ys h = absurd (false≢true h)
found_in_front {X} p (x ∷ xs) ys h = at (p x) refl (found_in_front p xs ys)
  where
    at : (b : Bool) → p x ≡ b → (IsSome (find p xs) → find p (xs ++ ys) ≡ find p xs) → find p (x ∷ xs ++ ys) ≡ find p (x ∷ xs)
    at true e rest = ap (λ b. cond b (Some x) (find p (xs ++ ys))) e ∙ sym (ap (λ b. cond b (Some x) (find p xs)) e)
    at false e rest =
        let here : find p (x ∷ xs) ≡ find p xs = ap (λ b. cond b (Some x) (find p xs)) e in
        ap (λ b. cond b (Some x) (find p (xs ++ ys))) e ∙ rest (subst (λ (o : Option X). IsSome o) here h) ∙ sym here

-- a fact of all elements, at one of them
pub All_In : {X : Type 0} (P : X → Type 0) (xs : List X) (x : X) → All P xs → In x xs → P x
All_In P [] x all h = absurd h
All_In P (y ∷ ys) x all (inl e) = subst P e (all 0 y (omega arith))
All_In P (y ∷ ys) x all (inr h) = All_In P ys x (λ k d lt. all (suc k) d (omega arith)) h

-- the clause at an address if one is held
pub holding : (s : PortState) (a : ℕ) → IsSome (held_at s a) → (h : Holding) × In h s.held × (h.address ≡ a) × (held_at s a ≡ Some h)
unfolding held_at
holding s a h = let t = found (λ k. k.address == a) s.held h in (t.it, t.among, eqb-true t.it.address a t.passes, t.is)

-- its literals are the ones that are looked up
pub lits_of_holding : (s : PortState) (a : ℕ) (h : Holding) → held_at s a ≡ Some h → lits_at s a ≡ h.lits
lits_of_holding s a h e = ap (λ o. option_map_or (λ k. k.lits) o []) e

-- a clause that is held may be used
pub held_is_known : (s : PortState) (a : ℕ) → IsSome (held_at s a) → Contains (known s) (lits_at s a)
unfolding known
held_is_known s a h =
    let t = holding s a h in
    let there : In t.0.lits (known s) = In_append_left (map (λ k. k.lits) s.held) (map (λ l. l ∷ []) s.seen) t.0.lits (In_map (λ k. k.lits) s.held t.0 t.1) in
    In_Contains (known s) (lits_at s a) (subst (λ c. In c (known s)) (sym (lits_of_holding s a t.0 t.3)) there)

-- a unit that was seen may be used
pub seen_is_known : (s : PortState) (l : Literal) → has s.seen l ≡ true → Contains (known s) (l ∷ [])
unfolding known
seen_is_known s l h =
    In_Contains (known s) (l ∷ []) (In_append_right (map (λ k. k.lits) s.held) (map (λ k. k ∷ []) s.seen) (l ∷ []) (In_map (λ k. k ∷ []) s.seen l (has_In s.seen l h)))

-- a clause that is held is long and on the variables
pub held_is_kept : (s : PortState) (a : ℕ) → IsPort s → IsSome (held_at s a) → IsLong (lits_at s a) × All (IsOn s.vars) (lits_at s a)
held_is_kept s a port h =
    let t = holding s a h in
    let kept = All_In (IsKept s.vars) s.held t.0 port.held t.1 in
    subst (λ c. IsLong c × All (IsOn s.vars) c) (sym (lits_of_holding s a t.0 t.3)) (kept.shape, kept.on)
