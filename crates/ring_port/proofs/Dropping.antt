-- Lists of clauses at addresses, of which one is dropped.
use Rattle.std.proofs.Common.{◌≡◌, ◌≢◌, ℕ, zero, suc, ◌==◌, Bool, true, false, cond, List, [], ◌∷◌, ◌++◌, sym, refl, ap, subst, ◌∙◌, inl, inr, arith, Some, None, ne_eqb}
use Rattle.std.specs.List.{All, find, slice_get}
use Rattle.std.specs.Prelude.{is_some}
use Rattle.std.specs.Option.{unwrap_or}
use Rattle.std.proofs.lemmas.Bool.{eqb-true, eqb-false, true≢false, false≢true}
use Rattle.std.proofs.lemmas.List.Elements.{All-append}
use Rattle.rup_model.proofs.Lists.{In}
use Rattle.ring_port.specs.PortState.{Holding, AreApart}
use Rattle.ring_port.specs.Deleting.{without_one}
use Rattle.ring_port.proofs.Holdings.{All_In}
use Rattle.ring_port.proofs.LogSteps.{In_All, one_All}

-- an element at a place
pub some_In : {X : Type 0} (xs : List X) (i : ℕ) (x : X) → slice_get xs i ≡ Some x → In x xs
some_In [] i x e = absurd (false≢true (ap is_some e))
some_In (y ∷ xs) zero x e = inl (ap (λ o. unwrap_or o x) e)
some_In (y ∷ xs) (suc i) x e = inr (some_In xs i x e)

-- Clauses at different addresses

abbrev pub is_at : ℕ → Holding → Bool
is_at a h = h.address == a

pub none_at : (hs : List Holding) (a : ℕ) → All (λ k. k.address ≢ a) hs → find (is_at a) hs ≡ None
none_at [] a all = refl
none_at (h ∷ hs) a all = ap (λ b. cond b (Some h) (find (is_at a) hs)) (ne_eqb h.address a (all 0 h (omega arith))) ∙ none_at hs a (λ k d lt. all (suc k) d (omega arith))

pub never_at : (hs : List Holding) (a : ℕ) → find (is_at a) hs ≡ None → All (λ k. k.address ≢ a) hs
never_at [] a none = λ k d lt. absurd (omega arith)
never_at (h ∷ hs) a none = by (h.address == a) refl none (never_at hs a)
  where
    by : (b : Bool) → (h.address == a) ≡ b → cond b (Some h) (find (is_at a) hs) ≡ None → (find (is_at a) hs ≡ None → All (λ k. k.address ≢ a) hs) → All (λ k. k.address ≢ a) (h ∷ hs)
    by true e is rest = absurd (true≢false (ap is_some is))
    by false e is rest = λ k d lt. step k d lt
      where
        step : All (λ k. k.address ≢ a) (h ∷ hs)
        step zero d lt = eqb-false h.address a e
        step (suc k) d lt = rest is k d (omega arith)

pub found_address : (hs : List Holding) (a : ℕ) (x : Holding) → find (is_at a) hs ≡ Some x → x.address ≡ a
found_address [] a x e = absurd (false≢true (ap is_some e))
found_address (h ∷ hs) a x e = by (h.address == a) refl e (found_address hs a x)
  where
    by : (b : Bool) → (h.address == a) ≡ b → cond b (Some h) (find (is_at a) hs) ≡ Some x → (find (is_at a) hs ≡ Some x → x.address ≡ a) → x.address ≡ a
    by true q is rest = ap (λ k. k.address) (sym (ap (λ o. unwrap_or o h) is)) ∙ eqb-true h.address a q
    by false q is rest = rest is

pub find_In : {X : Type 0} (q : X → Bool) (xs : List X) (x : X) → find q xs ≡ Some x → In x xs
find_In q [] x e = absurd (false≢true (ap is_some e))
find_In {X} q (y ∷ xs) x e = by (q y) e (find_In q xs x)
  where
    by : (b : Bool) → cond b (Some y) (find q xs) ≡ Some x → (find q xs ≡ Some x → In x xs) → In x (y ∷ xs)
    by true is rest = inl (ap (λ o. unwrap_or o y) is)
    by false is rest = inr (rest is)

pub apart_pushed : (hs : List Holding) (x : Holding) → AreApart hs → All (λ h. h.address ≢ x.address) hs → AreApart (hs ++ x ∷ [])
apart_pushed [] x a others = (λ k d lt. absurd (omega arith), tt)
apart_pushed (h ∷ hs) x a others = (
  All-append (λ k. k.address ≢ h.address) hs (x ∷ []) a.0 (one_All (λ k. k.address ≢ h.address) x (λ e. others 0 h (omega arith) (sym e))),
  apart_pushed hs x a.1 (λ k d lt. others (suc k) d (omega arith)),
)

-- Dropping one

pub without_in : (hs : List Holding) (a : ℕ) (x : Holding) → In x (without_one hs a) → In x hs
without_in [] a x m = m
without_in (h ∷ hs) a x m = by (h.address == a) m (λ k. without_in hs a x k)
  where
    by : (b : Bool) → In x (cond b hs (h ∷ without_one hs a)) → (In x (without_one hs a) → In x hs) → In x (h ∷ hs)
    by true k f = inr k
    by false (inl e) f = inl e
    by false (inr k) f = inr (f k)

pub All_without : (P : Holding → Type 0) (hs : List Holding) (a : ℕ) → All P hs → All P (without_one hs a)
All_without P hs a all = In_All P (without_one hs a) (λ x m. All_In P hs x all (without_in hs a x m))

pub apart_without : (hs : List Holding) (a : ℕ) → AreApart hs → AreApart (without_one hs a)
apart_without [] a apart = tt
apart_without (h ∷ hs) a apart = by (h.address == a) (All_without (λ k. k.address ≢ h.address) hs a apart.0) (apart_without hs a apart.1)
  where
    by : (b : Bool) → All (λ k. k.address ≢ h.address) (without_one hs a) → AreApart (without_one hs a) → AreApart (cond b hs (h ∷ without_one hs a))
    by true all rest = apart.1
    by false all rest = (all, rest)

-- it is held no longer, where it was held once
pub gone : (hs : List Holding) (a : ℕ) → AreApart hs → find (is_at a) (without_one hs a) ≡ None
gone [] a apart = refl
gone (h ∷ hs) a apart = by (h.address == a) refl (gone hs a apart.1)
  where
    by : (b : Bool) → (h.address == a) ≡ b → find (is_at a) (without_one hs a) ≡ None → find (is_at a) (cond b hs (h ∷ without_one hs a)) ≡ None
    by true e rest = none_at hs a (subst (λ (n : ℕ). All (λ k. k.address ≢ n) hs) (eqb-true h.address a e) apart.0)
    by false e rest = ap (λ b. cond b (Some h) (find (is_at a) (without_one hs a))) e ∙ rest

pub still_none : (hs : List Holding) (a b : ℕ) → find (is_at b) hs ≡ None → find (is_at b) (without_one hs a) ≡ None
still_none hs a b none = none_at (without_one hs a) b (All_without (λ k. k.address ≢ b) hs a (never_at hs b none))

-- every other clause is held as before
pub find_other : (hs : List Holding) (a b : ℕ) → b ≢ a → find (is_at b) (without_one hs a) ≡ find (is_at b) hs
find_other [] a b ne = refl
find_other (h ∷ hs) a b ne = by (h.address == a) (h.address == b) refl refl (find_other hs a b ne)
  where
    by : (x y : Bool) → (h.address == a) ≡ x → (h.address == b) ≡ y → find (is_at b) (without_one hs a) ≡ find (is_at b) hs → find (is_at b) (without_one (h ∷ hs) a) ≡ find (is_at b) (h ∷ hs)
    by true true p q r = absurd (ne (sym (eqb-true h.address b q) ∙ eqb-true h.address a p))
    by true false p q r = rw (p, q) refl
    by false true p q r = rw (p, q) refl
    by false false p q r = rw (p, q) r
