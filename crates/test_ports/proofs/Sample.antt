-- What holds of the small port.
use Rattle.std.proofs.Common.{arith, ◌==◌, ◌≡◌, ◌≤◌, ◌∙◌, ℕ, Bool, true, false, List, [], ◌∷◌, Some, None, IsSome, sym, refl, ap, subst, inl, inr, ◌⊎◌}
use Rattle.std.specs.List.{slice_get}
use Rattle.std.proofs.lemmas.Option.{cond_some}
use Rattle.std.specs.List.{All, Contains}
use Rattle.std.proofs.lemmas.Bool.{eqb-true, cases_eq, ne_eqb, false≢true}
use Rattle.std.proofs.lemmas.List.Elements.{All-cons, All-nil}
use Rattle.sat_words.specs.Literal.{Literal, IsOn}
use Rattle.sat_words.specs.Clause.{has}
use Rattle.rup_model.specs.Hints.{numbered}
use Rattle.rup_model.proofs.Lists.{In_Contains, Contains_In, In}
use Rattle.ring_port.specs.Exchange.{OfferedAs, class_at}
use Rattle.ring_port.specs.PortState.{Holding, AreNumbered, IsKept, IsPort, held_at, known_at}
use Rattle.test_ports.specs.Sample.{lit, first, second, third, sample_state, sample_at}

-- what is held at an address
pub held_first : (n : ℕ) (d : Bool) → held_at (sample_at n d) 1 ≡ Some first
unfolding held_at
held_first n d = refl

pub held_second : (n : ℕ) (d : Bool) → held_at (sample_at n d) 2 ≡ Some second
unfolding held_at
held_second n d = refl

pub held_third : (n : ℕ) (d : Bool) → held_at (sample_at n d) 3 ≡ Some third
unfolding held_at
held_third n d = refl

held_none : (n : ℕ) (d : Bool) (a : ℕ) → (1 ≡ a → ⊥) → (2 ≡ a → ⊥) → (3 ≡ a → ⊥) → held_at (sample_at n d) a ≡ None
unfolding held_at
held_none n d a x y z = rw (ne_eqb 1 a x, ne_eqb 2 a y, ne_eqb 3 a z) refl

-- the addresses at which a clause is held
held_only : (n : ℕ) (d : Bool) (a : ℕ) → IsSome (held_at (sample_at n d) a) → (a ≡ 1) ⊎ ((a ≡ 2) ⊎ (a ≡ 3))
held_only n d a h =
    elim (cases_eq 1 a) as (λ _. (a ≡ 1) ⊎ ((a ≡ 2) ⊎ (a ≡ 3))) [
      | inl e ↦ inl (sym e)
      | inr x ↦ (elim (cases_eq 2 a) as (λ _. (a ≡ 1) ⊎ ((a ≡ 2) ⊎ (a ≡ 3))) [
        | inl e ↦ inr (inl (sym e))
        | inr y ↦ (elim (cases_eq 3 a) as (λ _. (a ≡ 1) ⊎ ((a ≡ 2) ⊎ (a ≡ 3))) [
          | inl e ↦ inr (inr (sym e))
          | inr z ↦ absurd (false≢true (rw (held_none n d a x y z) at h))
        ])
      ])
    ]

pub at_first : (n : ℕ) (d : Bool) (a : ℕ) → a ≡ 1 → held_at (sample_at n d) a ≡ Some first
at_first n d a e = ap (held_at (sample_at n d)) e ∙ held_first n d

pub at_second : (n : ℕ) (d : Bool) (a : ℕ) → a ≡ 2 → held_at (sample_at n d) a ≡ Some second
at_second n d a e = ap (held_at (sample_at n d)) e ∙ held_second n d

pub at_third : (n : ℕ) (d : Bool) (a : ℕ) → (a ≡ 1 → ⊥) → (a ≡ 2 → ⊥) → IsSome (held_at (sample_at n d) a) → held_at (sample_at n d) a ≡ Some third
at_third n d a one two h =
    elim (held_only n d a h) as (λ _. held_at (sample_at n d) a ≡ Some third) [
      | inl e ↦ absurd (one e)
      | inr r ↦ (elim r as (λ _. held_at (sample_at n d) a ≡ Some third) [ inl e ↦ absurd (two e) | inr e ↦ ap (held_at (sample_at n d)) e ∙ held_third n d ])
    ]

same_held : (n m : ℕ) (d : Bool) (a : ℕ) → held_at (sample_at n d) a ≡ held_at (sample_at m d) a
unfolding held_at
same_held n m d a = refl

-- the first clause is what can be offered
offered_first : (d : Bool) → OfferedAs (sample_at 1 d) (sample_at 2 d) (class_at (sample_at 1 d) 1) 1
offered_first d = rw (held_first 1 d) (record { back = []; few = omega arith; same = λ a. same_held 2 1 d a; often = λ a. refl; state = refl })

pub offered : (n : ℕ) (d : Bool) (a : ℕ) → (sample_at n d).last ≡ Some a → OfferedAs (sample_at n d) (sample_at 2 d) (class_at (sample_at n d) a) a
offered n d a h =
    let at_one : n ≡ 1 = eqb-true n 1 (cond_some (n == 1) 1 a h).0 in
    subst (λ (m : ℕ). OfferedAs (sample_at m d) (sample_at 2 d) (class_at (sample_at m d) a) a) (sym at_one)
    (subst (λ (b : ℕ). OfferedAs (sample_at 1 d) (sample_at 2 d) (class_at (sample_at 1 d) b) b) (cond_some (n == 1) 1 a h).1 (offered_first d))

-- equal lists read alike
pub read_same : (c d : List Literal) (i : ℕ) (r : Literal) → c ≡ d → slice_get c i ≡ Some r → slice_get d i ≡ Some r
read_same c d i r e h = ap (λ (xs : List Literal). slice_get xs i) (sym e) ∙ h

pub same_two : (x y k l : Literal) → x ≡ k → y ≡ l → (x ∷ y ∷ []) ≡ (k ∷ l ∷ [])
same_two x y k l e f = cc

pub same_three : (x y z k l m : Literal) → x ≡ k → y ≡ l → z ≡ m → (x ∷ y ∷ z ∷ []) ≡ (k ∷ l ∷ m ∷ [])
same_three x y z k l m e f g = cc

-- The numbers of clauses

unit_told : (l : Literal) (k : ℕ) → In (l, k) sample_state.told → Contains sample_state.told (l, k)
unit_told l k there = In_Contains sample_state.told (l, k) there

pub one_told : Contains sample_state.told (lit 1 false, 4)
one_told = unit_told (lit 1 false) 4 (inl refl)

pub four_told : Contains sample_state.told (lit 4 false, 5)
four_told = unit_told (lit 4 false) 5 (inr (inl refl))

two : {X : Type 0} (P : X → Type 0) (x y : X) → P x → P y → All P (x ∷ y ∷ [])
two P x y p q = All-cons P x (y ∷ []) p (All-cons P y [] q (All-nil P))

three : {X : Type 0} (P : X → Type 0) (x y z : X) → P x → P y → P z → All P (x ∷ y ∷ z ∷ [])
three P x y z p q r = All-cons P x (y ∷ z ∷ []) p (two P y z q r)

-- each number names the one clause that has it
pub sample_numbered : (n : ℕ) (d : Bool) → AreNumbered (sample_at n d)
sample_numbered n d = record {
  held = three (λ (h : Holding). numbered (known_at (sample_at n d)) h.number ≡ Some h.lits) first second third refl refl refl;
  told = two (λ (u : Literal × ℕ). numbered (known_at (sample_at n d)) u.1 ≡ Some (u.0 ∷ [])) (lit 1 false, 4) (lit 4 false, 5) refl refl;
  seen = two (λ (l : Literal). (k : ℕ) × Contains sample_state.told (l, k)) (lit 1 false) (lit 4 false) (4, one_told) (5, four_told);
}

same_address : (a b h k : Holding) → a ≡ h → b ≡ k → h.address ≡ k.address → a.address ≡ b.address
same_address a b h k e f q = ap (λ (x : Holding). x.address) e ∙ q ∙ sym (ap (λ (x : Holding). x.address) f)

-- no two of the clauses are at the same address
one_held : (h k : Holding) → In h sample_state.held → In k sample_state.held → h.address ≡ k.address → h ≡ k
one_held h k (inl e) (inl f) q = sym e ∙ f
one_held h k (inl e) (inr (inl f)) q = absurd (let r : 1 ≡ 2 = same_address first second h k e f q in omega arith)
one_held h k (inl e) (inr (inr (inl f))) q = absurd (let r : 1 ≡ 3 = same_address first third h k e f q in omega arith)
one_held h k (inl e) (inr (inr (inr f))) q = absurd f
one_held h k (inr (inl e)) (inl f) q = absurd (let r : 2 ≡ 1 = same_address second first h k e f q in omega arith)
one_held h k (inr (inl e)) (inr (inl f)) q = sym e ∙ f
one_held h k (inr (inl e)) (inr (inr (inl f))) q = absurd (let r : 2 ≡ 3 = same_address second third h k e f q in omega arith)
one_held h k (inr (inl e)) (inr (inr (inr f))) q = absurd f
one_held h k (inr (inr (inl e))) (inl f) q = absurd (let r : 3 ≡ 1 = same_address third first h k e f q in omega arith)
one_held h k (inr (inr (inl e))) (inr (inl f)) q = absurd (let r : 3 ≡ 2 = same_address third second h k e f q in omega arith)
one_held h k (inr (inr (inl e))) (inr (inr (inl f))) q = sym e ∙ f
one_held h k (inr (inr (inl e))) (inr (inr (inr f))) q = absurd f
one_held h k (inr (inr (inr e))) j q = absurd e

on : (v : ℕ) (b : Bool) → 1 ≤ v → v ≤ 5 → IsOn 5 (lit v b)
on v b low high = record { low = low; high = high }

kept_first : IsKept 5 first
kept_first = record { shape = record { long = omega arith; distinct = refl; no_opposites = refl }; on = two (IsOn 5) (lit 1 true) (lit 2 false) (on 1 true (omega arith) (omega arith)) (on 2 false (omega arith) (omega arith)) }

kept_second : IsKept 5 second
kept_second = record {
  shape = record { long = omega arith; distinct = refl; no_opposites = refl };
  on = three (IsOn 5) (lit 4 true) (lit 1 true) (lit 5 false) (on 4 true (omega arith) (omega arith)) (on 1 true (omega arith) (omega arith)) (on 5 false (omega arith) (omega arith));
}

kept_third : IsKept 5 third
kept_third = record {
  shape = record { long = omega arith; distinct = refl; no_opposites = refl };
  on = three (IsOn 5) (lit 4 true) (lit 2 true) (lit 5 true) (on 4 true (omega arith) (omega arith)) (on 2 true (omega arith) (omega arith)) (on 5 true (omega arith) (omega arith));
}

-- what is kept of every port
pub sample_port : (n : ℕ) (d : Bool) → IsPort (sample_at n d)
sample_port n d = record {
  held = three (IsKept 5) first second third kept_first kept_second kept_third;
  one = λ h k i j. one_held h k (Contains_In sample_state.held h i) (Contains_In sample_state.held k j);
  waiting = All-nil (IsKept 5);
  apart = All-nil (λ (h : Holding). held_at (sample_at n d) h.address ≡ None);
  once = tt;
  taken = All-nil (λ (a : ℕ). IsSome (held_at (sample_at n d) a));
  given = All-nil (λ (l : Literal). has sample_state.seen l ≡ true);
  start = All-nil (IsKept 5);
  seen = two (IsOn 5) (lit 1 false) (lit 4 false) (on 1 false (omega arith) (omega arith)) (on 4 false (omega arith) (omega arith));
  opening = All-nil (IsOn 5);
  stop = record { low = omega arith; high = omega arith; of_ring = omega arith };
  ring = omega arith;
  deep = omega arith;
  few = omega arith;
  named = λ hinted. sample_numbered n d;
}
