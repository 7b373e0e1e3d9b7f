-- What is chosen is a choice.
use Rattle.std.proofs.Common.{◌≡◌, ◌≢◌, ◌∙◌, ◌/◌, ℕ, suc, Bool, true, false, not, cond, List, [], ◌∷◌, length, map, All, Contains, Option, Some, None, sym, refl, ap, subst, inl, inr, arith}
use Rattle.std.specs.List.{filter}
use Rattle.std.proofs.lemmas.Bool.{true≢false, cases_Bool}
use Rattle.std.proofs.lemmas.List.Elements.{filter_passes, All-nil, All-cons}
use Rattle.sat_words.specs.declared.shared.Cref.{Cref}
use Rattle.rup_model.proofs.Lists.{Contains_In}
use Rattle.ring_port.proofs.Holdings.{All_In}
use Rattle.ring_port.specs.PortState.{PortState}
use Rattle.ring_trail.specs.declared.step.TrailStep.{TrailStep}
use Rattle.reduce_db.specs.declared.candidate.Candidate.{Candidate}
use Rattle.reduce_db.specs.Lemmas.{AreDistinct}
use Rattle.reduce_db.specs.Choice.{head_at, comes_before, is_droppable, IsChoice}
use Rattle.reduce_db.specs.Ranking.{ranks_before, candidate_with, candidate_of, only_some, AreSpread, is_dropped, IsHalf}
use Rattle.reduce_db.proofs.Ranks.{ranks_in_order, comes_ranks}
use Rattle.reduce_db.proofs.Counting.{filter_yes, filter_no}

pub passes_filter : {X : Type 0} (p : X → Bool) (xs : List X) (x : X) → Contains (filter p xs) x → p x ≡ true
passes_filter p xs x h = All_In (λ (y : _). p y ≡ true) (filter p xs) x (filter_passes p xs) (Contains_In (filter p xs) x h)

not_both : (b : Bool) → b ≡ true → b ≡ false → ⊥
not_both b e f = true≢false (sym e ∙ f)

from_not : (b : Bool) → not b ≡ true → b ≡ false
from_not true e = absurd (true≢false (sym e))
from_not false e = refl

from_not_false : (b : Bool) → not b ≡ false → b ≡ true
from_not_false true e = refl
from_not_false false e = absurd (true≢false e)

not_true : (b : Bool) → (b ≡ true → ⊥) → b ≡ false
not_true true f = absurd (f refl)
not_true false f = refl

module _ (s : PortState) (steps : List TrailStep) where
  cand : Cref → Option Candidate
  cand = candidate_of s steps

  its : Cref → Candidate
  its c = candidate_with (head_at s c.address) c.address

  is_one : (c : Cref) → is_droppable s steps c ≡ true → candidate_of s steps c ≡ Some (candidate_with (head_at s c.address) c.address)
  is_one c e = ap (λ (b : Bool). cond b (Some (candidate_with (head_at s c.address) c.address)) None) e

  is_none' : (c : Cref) → is_droppable s steps c ≡ false → candidate_of s steps c ≡ None
  is_none' c e = ap (λ (b : Bool). cond b (Some (candidate_with (head_at s c.address) c.address)) None) e

  some_of : (c : Cref) (cs : List Cref) → is_droppable s steps c ≡ true → only_some (map (candidate_of s steps) (c ∷ cs)) ≡ candidate_with (head_at s c.address) c.address ∷ only_some (map (candidate_of s steps) cs)
  some_of c cs e = ap (λ (o : Option Candidate). only_some (o ∷ map (candidate_of s steps) cs)) (is_one c e)

  none_of : (c : Cref) (cs : List Cref) → is_droppable s steps c ≡ false → only_some (map (candidate_of s steps) (c ∷ cs)) ≡ only_some (map (candidate_of s steps) cs)
  none_of c cs e = ap (λ (o : Option Candidate). only_some (o ∷ map (candidate_of s steps) cs)) (is_none' c e)

  apart_of : (cs : List Cref) (a : ℕ) → All (λ (d : Cref). d.address ≢ a) cs → All (λ (y : Candidate). y.address ≢ a) (only_some (map (candidate_of s steps) cs))
  apart_of [] a h = All-nil (λ (y : Candidate). y.address ≢ a)
  apart_of (c ∷ cs) a h = by (is_droppable s steps c) refl (apart_of cs a (λ k d lt. h (suc k) d (omega arith)))
    where
      by : (b : Bool) → is_droppable s steps c ≡ b → All (λ (y : Candidate). y.address ≢ a) (only_some (map (candidate_of s steps) cs)) → All (λ (y : Candidate). y.address ≢ a) (only_some (map (candidate_of s steps) (c ∷ cs)))
      by true e r = subst (All (λ (y : Candidate). y.address ≢ a)) (sym (some_of c cs e)) (All-cons (λ (y : Candidate). y.address ≢ a) (candidate_with (head_at s c.address) c.address) (only_some (map (candidate_of s steps) cs)) (h 0 c (omega arith)) r)
      by false e r = subst (All (λ (y : Candidate). y.address ≢ a)) (sym (none_of c cs e)) r

  pub spread_of : (cs : List Cref) → AreDistinct cs → AreSpread (only_some (map (candidate_of s steps) cs))
  spread_of [] h = h
  spread_of (c ∷ cs) h = by (is_droppable s steps c) refl (spread_of cs h.1) (apart_of cs c.address h.0)
    where
      by : (b : Bool) → is_droppable s steps c ≡ b → AreSpread (only_some (map (candidate_of s steps) cs)) → All (λ (y : Candidate). y.address ≢ c.address) (only_some (map (candidate_of s steps) cs)) → AreSpread (only_some (map (candidate_of s steps) (c ∷ cs)))
      by true e r q = subst AreSpread (sym (some_of c cs e)) (q, r)
      by false e r q = subst AreSpread (sym (none_of c cs e)) r

  as_many : (first : Option Candidate) (cs : List Cref) → length (filter (λ c. is_dropped first (candidate_of s steps c)) cs) ≡ length (filter (λ x. is_dropped first (Some x)) (only_some (map (candidate_of s steps) cs)))
  as_many first [] = refl
  as_many first (c ∷ cs) = by (is_droppable s steps c) refl (as_many first cs)
    where
      p : Cref → Bool
      p = λ d. is_dropped first (candidate_of s steps d)

      q : Candidate → Bool
      q = λ x. is_dropped first (Some x)

      none_goes : (o : Option Candidate) → is_dropped o None ≡ false
      none_goes None = refl
      none_goes (Some x) = refl

      by : (b : Bool) → is_droppable s steps c ≡ b → length (filter (λ d. is_dropped first (candidate_of s steps d)) cs) ≡ length (filter (λ x. is_dropped first (Some x)) (only_some (map (candidate_of s steps) cs)))
          → length (filter (λ d. is_dropped first (candidate_of s steps d)) (c ∷ cs)) ≡ length (filter (λ x. is_dropped first (Some x)) (only_some (map (candidate_of s steps) (c ∷ cs))))
      by false e r =
          ap (λ (ys : List Cref). length ys) (filter_no (λ d. is_dropped first (candidate_of s steps d)) c cs (ap (is_dropped first) (is_none' c e) ∙ none_goes first)) ∙ r
          ∙ ap (λ (xs : List Candidate). length (filter (λ x. is_dropped first (Some x)) xs)) (sym (none_of c cs e))
      by true e r =
          within (is_dropped first (Some (candidate_with (head_at s c.address) c.address))) refl
          ∙ ap (λ (xs : List Candidate). length (filter (λ x. is_dropped first (Some x)) xs)) (sym (some_of c cs e))
        where
          within : (b : Bool) → is_dropped first (Some (candidate_with (head_at s c.address) c.address)) ≡ b → length (filter (λ d. is_dropped first (candidate_of s steps d)) (c ∷ cs))
              ≡ length (filter (λ x. is_dropped first (Some x)) (candidate_with (head_at s c.address) c.address ∷ only_some (map (candidate_of s steps) cs)))
          within true f =
              ap (λ (ys : List Cref). length ys) (filter_yes (λ d. is_dropped first (candidate_of s steps d)) c cs (ap (is_dropped first) (is_one c e) ∙ f))
              ∙ ap suc r
              ∙ ap (λ (xs : List Candidate). length xs) (sym (filter_yes (λ x. is_dropped first (Some x)) (candidate_with (head_at s c.address) c.address) (only_some (map (candidate_of s steps) cs)) f))
          within false f =
              ap (λ (ys : List Cref). length ys) (filter_no (λ d. is_dropped first (candidate_of s steps d)) c cs (ap (is_dropped first) (is_one c e) ∙ f))
              ∙ r
              ∙ ap (λ (xs : List Candidate). length xs) (sym (filter_no (λ x. is_dropped first (Some x)) (candidate_with (head_at s c.address) c.address) (only_some (map (candidate_of s steps) cs)) f))

  as_droppable : (cs : List Cref) → length (filter (is_droppable s steps) cs) ≡ length (only_some (map (candidate_of s steps) cs))
  as_droppable [] = refl
  as_droppable (c ∷ cs) = by (is_droppable s steps c) refl (as_droppable cs)
    where
      by : (b : Bool) → is_droppable s steps c ≡ b → length (filter (is_droppable s steps) cs) ≡ length (only_some (map (candidate_of s steps) cs)) → length (filter (is_droppable s steps) (c ∷ cs)) ≡ length (only_some (map (candidate_of s steps) (c ∷ cs)))
      by true e r = ap (λ (ys : List Cref). length ys) (filter_yes (is_droppable s steps) c cs e) ∙ ap suc r ∙ ap (λ (xs : List Candidate). length xs) (sym (some_of c cs e))
      by false e r = ap (λ (ys : List Cref). length ys) (filter_no (is_droppable s steps) c cs e) ∙ r ∙ ap (λ (xs : List Candidate). length xs) (sym (none_of c cs e))

  goes_droppable : (first : Option Candidate) (c : Cref) → is_dropped first (candidate_of s steps c) ≡ true → is_droppable s steps c ≡ true
  goes_droppable first c h = elim (cases_Bool (is_droppable s steps c)) as (λ _. is_droppable s steps c ≡ true) [
    | inl e ↦ e
    | inr e ↦ absurd (none first (subst (λ (o : Option Candidate). is_dropped first o ≡ true) (is_none' c e) h))
  ]
    where
      none : (o : Option Candidate) → is_dropped o None ≡ true → ⊥
      none None e = true≢false (sym e)
      none (Some x) e = true≢false (sym e)

  -- one that goes doesn't come before one that may go and is kept
  last_goes : (first : Option Candidate) (c d : Cref) → is_dropped first (candidate_of s steps c) ≡ false → is_droppable s steps c ≡ true → is_dropped first (candidate_of s steps d) ≡ true → comes_before (head_at s d.address) (head_at s c.address) ≡ false
  last_goes None c d kept may gone = absurd (true≢false (sym gone))
  last_goes (Some f) c d kept may gone =
      let k = candidate_with (head_at s c.address) c.address in
      let m = candidate_with (head_at s d.address) d.address in
      let before : ranks_before k f ≡ true = from_not_false (ranks_before k f) (subst (λ (o : Option Candidate). is_dropped (Some f) o ≡ false) (is_one c may) kept) in
      let behind : ranks_before m f ≡ false = from_not (ranks_before m f) (subst (λ (o : Option Candidate). is_dropped (Some f) o ≡ true) (is_one d (goes_droppable (Some f) d gone)) gone) in
      let apart : ranks_before m k ≡ false = ranks_in_order.chain m f k behind (ranks_in_order.one_way k f before) in
      not_true (comes_before (head_at s d.address) (head_at s c.address)) (λ q. true≢false (sym (comes_ranks (head_at s d.address) (head_at s c.address) d.address c.address q) ∙ apart))

  pub choice_is : (lemmas kept dropped : List Cref) (first : Option Candidate) → IsHalf (only_some (map (candidate_of s steps) lemmas)) first
      → kept ≡ filter (λ c. not (is_dropped first (candidate_of s steps c))) lemmas → dropped ≡ filter (λ c. is_dropped first (candidate_of s steps c)) lemmas → IsChoice s steps lemmas kept dropped
  choice_is lemmas kept dropped first half kept_is dropped_is = record {
    drops = λ c. is_dropped first (candidate_of s steps c);
    kept_is = kept_is;
    dropped_is = dropped_is;
    droppable = subst (All (λ c. is_droppable s steps c ≡ true)) (sym dropped_is)
        (λ k d lt. goes_droppable first _ (filter_passes (λ c. is_dropped first (candidate_of s steps c)) lemmas k d lt));
    half = ap (λ (ys : List Cref). length ys) dropped_is ∙ as_many first lemmas ∙ half ∙ ap (λ (n : ℕ). n / 2) (sym (as_droppable lemmas));
    last = λ c d there may gone. last_goes first c d
        (from_not (is_dropped first (candidate_of s steps c)) (passes_filter (λ x. not (is_dropped first (candidate_of s steps x))) lemmas c (subst (λ (ys : List Cref). Contains ys c) kept_is there)))
        may
        (passes_filter (λ x. is_dropped first (candidate_of s steps x)) lemmas d (subst (λ (ys : List Cref). Contains ys d) dropped_is gone));
  }
