-- The best of the literals counted is the partner.
use Rattle.std.proofs.Common.{◌≡◌, ◌≢◌, ◌∙◌, ℕ, ◌+◌, ◌<◌, ◌≤◌, true, List, [], ◌∷◌, length, take, get_or, set, Option, Some, None, sym, refl, ap, subst, arith, inl, inr, ◌⊎◌, ⊎_elim, Contains, MatchOption}
use Rattle.std.specs.List.{filter_map}
use Rattle.std.specs.List.Sorted.{IsStrictlyIncreasing}
use Rattle.std.proofs.lemmas.List.{take_more}
use Rattle.std.proofs.lemmas.List.Elements.{Contains-append_left, Contains-push, Contains-push_cases}
use mathlib.Core.Logic.{dite}
use native.Mathlib.Decide.{ℕ_discrete}
use Rattle.sat_words.specs.Literal.{Literal, code_of}
use Rattle.sat_words.specs.Clause.{has}
use Rattle.rup_model.proofs.Lists.{Contains_In}
use Rattle.simp_base.specs.WorkState.{WorkState, IsWork}
use Rattle.simp_base.proofs.Lists.{All_In}
use Rattle.simp_add.specs.declared.tally.Count.{Count}
use Rattle.simp_add.specs.Common.{common_at, commons}
use Rattle.simp_add.specs.Rule.{IsPartner, HasNoPartner}
use Rattle.simp_add.specs.Counted.{nothing, count_of, IsClear, AreTouched, AreCounted, IsBest, IsBetter}
use Rattle.simp_add.proofs.Ranges.{by_numbers}
use Rattle.simp_add.proofs.Finding.{nothing_at, counted_at, parts}
use Rattle.simp_add.proofs.Counting.{code_eq, set_here, set_there}

-- The better one

module _ (cs : List Count) (lit : Literal) where
  pub few_stays : (best : Option Literal) → (count_of cs lit).sets < 3 → IsBetter cs best lit best
  few_stays None few = λ touched b j h. ⊎_elim (λ (i : Contains touched j). b j i) (λ (e : lit ≡ j). subst (λ (x : Literal). (count_of cs x).sets < 3) e few) (Contains-push_cases touched lit j h)
  few_stays (Some k) few = λ touched b. (
    Contains-append_left touched (lit ∷ []) k b.0,
    b.1,
    λ j h. ⊎_elim (λ (i : Contains touched j). b.2 j i) (λ (e : lit ≡ j). (let f = subst (λ (x : Literal). (count_of cs x).sets < 3) e few in let t = b.1 in omega arith)) (Contains-push_cases touched lit j h),
    λ j h lt. ⊎_elim (λ (i : Contains touched j). b.3 j i lt) (λ (e : lit ≡ j). (let f = subst (λ (x : Literal). (count_of cs x).sets < 3) e few in let t = b.1 in omega arith)) (Contains-push_cases touched lit j h),
  )

  pub first_one : 3 ≤ (count_of cs lit).sets → IsBetter cs None lit (Some lit)
  first_one enough touched b = (
    Contains-push touched lit,
    enough,
    λ j h. ⊎_elim (λ (i : Contains touched j). (let f = b j i in omega arith)) (λ (e : lit ≡ j). (let s = ap (λ (x : Literal). (count_of cs x).sets) e in omega arith)) (Contains-push_cases touched lit j h),
    λ j h lt. ⊎_elim (λ (i : Contains touched j). (let f = b j i in omega arith)) (λ (e : lit ≡ j). absurd (let s = ap code_of e in omega arith)) (Contains-push_cases touched lit j h),
  )

  pub more_wins : (k : Literal) → 3 ≤ (count_of cs lit).sets → (count_of cs k).sets < (count_of cs lit).sets → IsBetter cs (Some k) lit (Some lit)
  more_wins k enough more touched b = (
    Contains-push touched lit,
    enough,
    λ j h. ⊎_elim (λ (i : Contains touched j). (let f = b.2 j i in omega arith)) (λ (e : lit ≡ j). (let s = ap (λ (x : Literal). (count_of cs x).sets) e in omega arith)) (Contains-push_cases touched lit j h),
    λ j h lt. ⊎_elim (λ (i : Contains touched j). (let f = b.2 j i in omega arith)) (λ (e : lit ≡ j). absurd (let s = ap code_of e in omega arith)) (Contains-push_cases touched lit j h),
  )

  pub less_wins : (k : Literal) → 3 ≤ (count_of cs lit).sets → (count_of cs lit).sets ≡ (count_of cs k).sets → code_of lit < code_of k → IsBetter cs (Some k) lit (Some lit)
  less_wins k enough as_many less touched b = (
    Contains-push touched lit,
    enough,
    λ j h. ⊎_elim (λ (i : Contains touched j). (let f = b.2 j i in omega arith)) (λ (e : lit ≡ j). (let s = ap (λ (x : Literal). (count_of cs x).sets) e in omega arith)) (Contains-push_cases touched lit j h),
    λ j h lt. ⊎_elim (λ (i : Contains touched j). (let f = b.3 j i (omega arith) in omega arith)) (λ (e : lit ≡ j). absurd (let s = ap code_of e in omega arith)) (Contains-push_cases touched lit j h),
  )

  pub old_stays : (k : Literal) → (count_of cs lit).sets ≤ (count_of cs k).sets → ((count_of cs lit).sets ≡ (count_of cs k).sets → code_of k ≤ code_of lit) → IsBetter cs (Some k) lit (Some k)
  old_stays k le tie touched b = (
    Contains-append_left touched (lit ∷ []) k b.0,
    b.1,
    λ j h. ⊎_elim (λ (i : Contains touched j). b.2 j i) (λ (e : lit ≡ j). (let s = ap (λ (x : Literal). (count_of cs x).sets) e in omega arith)) (Contains-push_cases touched lit j h),
    λ j h lt. ⊎_elim (λ (i : Contains touched j). b.3 j i lt)
        (λ (e : lit ≡ j). (
        let s = ap (λ (x : Literal). (count_of cs x).sets) e in
        let c = ap code_of e in
        let ne : (count_of cs lit).sets ≢ (count_of cs k).sets = (λ q. (let t = tie q in omega arith)) in
        omega arith))
        (Contains-push_cases touched lit j h),
  )

-- Counts set back

pub set_back : (cs : List Count) (l j : Literal) → code_of l < length cs → count_of cs j ≡ nothing → count_of (set cs (code_of l) nothing) j ≡ nothing
set_back cs l j lt h = dite (ℕ_discrete (code_of j) (code_of l))
    (λ (e : code_of j ≡ code_of l). ap (count_of (set cs (code_of l) nothing)) (code_eq j l e) ∙ set_here cs l nothing lt)
    (λ (ne : code_of j ≢ code_of l). set_there cs l j nothing ne ∙ h)

-- one count more set back
pub back_next : (now : List Count) (lits : List Literal) (i : ℕ) (l : Literal) → i < length lits → l ≡ get_or lits i l → code_of l < length now
    → ((j : Literal) → Contains (take i lits) j → count_of now j ≡ nothing) → (j : Literal) → Contains (take (i + 1) lits) j → count_of (set now (code_of l) nothing) j ≡ nothing
back_next now lits i l lt is within t j h = ⊎_elim
    (λ (q : Contains (take i lits) j). set_back now l j within (t j q))
    (λ (e : get_or lits i l ≡ j). ap (count_of (set now (code_of l) nothing)) (sym (is ∙ e)) ∙ set_here now l nothing within)
    (Contains-push_cases (take i lits) (get_or lits i l) j (subst (λ (xs : List Literal). Contains xs j) (take_more lits i l lt) h))

pub all_back : (l : Literal) (old new : List Count) (touched : List Literal) → AreTouched l old touched → ((j : Literal) → Contains touched j → count_of new j ≡ nothing) → ((j : Literal) → count_of old j ≡ nothing → count_of new j ≡ nothing) → IsClear new
all_back l old new touched t there others j = dite (ℕ_discrete (count_of old j).sets 0)
    (λ (e : (count_of old j).sets ≡ 0). others j (t.clear j e))
    (λ (ne : (count_of old j).sets ≢ 0). there j (t.every j (omega arith)))

-- The partner

module _ (w : WorkState) (l : Literal) (kept : IsWork w) (numbers : List ℕ) (up : IsStrictlyIncreasing numbers)
    (every : (n : ℕ) (c : List Literal) → Contains w.clauses (n, c) → has c l ≡ true → Contains numbers n) where
  pub commons_are : (k : Literal) → commons w l k ≡ filter_map (common_at w.clauses l k) numbers
  commons_are k = by_numbers (common_at w.clauses l k) w.output.last numbers up
      (λ n lt. nothing_at w l k n (λ c i. absurd (let le = All_In (λ (x : ℕ × List Literal). x.0 ≤ w.output.last) w.clauses (n, c) kept.given (Contains_In w.clauses (n, c) i) in omega arith)))
      (λ n. by n (common_at w.clauses l k n) refl)
    where
      by : (n : ℕ) (o : Option (List Literal)) → common_at w.clauses l k n ≡ o → (common_at w.clauses l k n ≡ None) ⊎ Contains numbers n
      by n None e = inl e
      by n (Some C) e = let t = counted_at w l k n C e in inr (every n t.0 t.1 (parts w.clauses l k n t.0 t.2).holds)

  module _ (cs : List Count) (touched : List Literal) (counted : AreCounted w l numbers cs) (t : AreTouched l cs touched) where
    as_counted : (k : Literal) → code_of l < code_of k → length (commons w l k) ≡ (count_of cs k).sets
    as_counted k lt = ap (λ (xs : List (List Literal)). length xs) (commons_are k) ∙ sym (counted k lt)

    pub is_partner : (o : Option Literal) → IsBest cs touched o → MatchOption o (HasNoPartner w l) (λ k. IsPartner w l k)
    is_partner None b = λ k lt.
        let e = as_counted k lt in
        let few : (count_of cs k).sets < 3 = dite (ℕ_discrete (count_of cs k).sets 0) (λ (z : (count_of cs k).sets ≡ 0). omega arith) (λ (ne : (count_of cs k).sets ≢ 0). b k (t.every k (omega arith))) in
        omega arith
    is_partner (Some k) b = record {
      after = t.after k b.0;
      enough = (let e = as_counted k (t.after k b.0) in let x = b.1 in omega arith);
      most = λ j lt. (
          let e = as_counted j lt in let f = as_counted k (t.after k b.0) in
          let le : (count_of cs j).sets ≤ (count_of cs k).sets = dite (ℕ_discrete (count_of cs j).sets 0) (λ (z : (count_of cs j).sets ≡ 0). omega arith) (λ (ne : (count_of cs j).sets ≢ 0). b.2 j (t.every j (omega arith))) in
          omega arith);
      least = λ j lt less. (
          let e = as_counted j lt in let f = as_counted k (t.after k b.0) in let x = b.1 in
          let le : (count_of cs j).sets < (count_of cs k).sets = dite (ℕ_discrete (count_of cs j).sets 0) (λ (z : (count_of cs j).sets ≡ 0). omega arith) (λ (ne : (count_of cs j).sets ≢ 0). b.3 j (t.every j (omega arith)) less) in
          omega arith);
    }
