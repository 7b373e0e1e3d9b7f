-- What all rounds leave.
use Rattle.std.proofs.Common.{◌≡◌, ◌∙◌, ℕ, zero, suc, ◌+◌, ◌<◌, ◌≤◌, true, List, [], ◌∷◌, ◌++◌, length, All, Option, None, IfSome, refl, sym, ap, subst, inl, inr, arith}
use Rattle.std.specs.Prelude.{max}
use Rattle.std.specs.List.{count_by}
use Rattle.std.specs.Option.{is_some}
use Rattle.std.proofs.Math.Nat.{le-max_left, le-max_right}
use Rattle.std.proofs.lemmas.Bool.{true≢false}
use Rattle.std.proofs.lemmas.List.Elements.{All-append}
use Rattle.sat_words.specs.Literal.{Literal}
use Rattle.rup_model.specs.declared.journal.Entry.{Entry}
use Rattle.rup_model.specs.Basics.{EachAfter}
use Rattle.rup_model.specs.Journal.{IsFresh, LogSound}
use Rattle.rup_model.specs.Opening.{Opening, is_rulers, IsNew, start_clauses}
use Rattle.rup_model.specs.Windows.{begins_round, since_round, to_round, last_round, IsNewInRound, IsSpacedInRound}
use Rattle.rup_model.proofs.Windowing.{last_none}
use Rattle.rup_model.proofs.Sums.{below_none}
use Rattle.share_core.specs.State.{opening_of, State}
use Rattle.share_core.specs.Sound.{Sound}
use Rattle.core_rounds.specs.InRounds.{learned_by, round_limit, IsOfRounds, IsFreshInRound, MayGoOn, IsDueInRounds}
use Rattle.core_rounds.specs.Rounds.{RoundRun, left_by, written_in, start_for, beginning_of, IsRound, IsSpent, IsDue, AreRounds}
use Rattle.core_rounds.proofs.Learned.{rulers_more, round_more, limit_some, limit_left}
use Rattle.core_rounds.proofs.Journals.{rulers_begin_none, rulers_fresh, rulers_new, rulers_spaced, rulers_due, rulers_of_rounds, count_alone, count_round, round_fresh, round_new, round_spaced, round_due, may_go_on}
use Rattle.core_rounds.proofs.OneRound.{IsWithin, sound, alone, of_rings, fresh_and_spaced, log, journal_is, since, to, told, within, spent, sum}

-- what is learned up to a round's beginning, and in it
pub sum_after : {rings depth limit : ℕ} {F : List (List Literal)} {x : RoundRun} (before rest : List Entry) → IsRound rings depth limit F (before ++ rest) x → All (λ e. is_rulers e ≡ true) rest
    → learned_by rings (left_by x).journal ≡ learned_by rings before + learned_by rings (written_in x)
sum_after {rings} {x = x} before rest o rulers = sum o ∙ ap (λ (n : ℕ). n + learned_by rings (written_in x)) (rulers_more rings before rest rulers)

module _ (rings depth : ℕ) (every : Option ℕ) (most : ℕ) (F : List (List Literal)) where
  abbrev Rounds : List RoundRun → List Entry → Type 0
  Rounds xs J = AreRounds rings depth every most F xs J

  in_parts : (x : RoundRun) (xs : List RoundRun) (J : List Entry) (r : Rounds (x ∷ xs) J) → J ≡ (r.0 ++ r.1) ++ beginning_of x.opening ∷ written_in x
  in_parts x xs J r = r.6 ∙ journal_is r.5

  pub rounds_sound : (xs : List RoundRun) (J : List Entry) → Rounds xs J → LogSound F J
  rounds_sound [] J r = subst (LogSound F) (sym r) (record { fits = tt; accepted = tt; empty_last = tt })
  rounds_sound (x ∷ xs) J r = subst (LogSound F) (sym r.6) (log r.5)

  -- Its entries

  pub rounds_each : (xs : List RoundRun) (J : List Entry) → Rounds xs J → All (IsOfRounds rings) J
  rounds_each [] J r = subst (All (IsOfRounds rings)) (sym r) (λ k e lt. absurd (omega arith))
  rounds_each (x ∷ xs) J r =
      let P : Entry → Type 0 = IsOfRounds rings in
      let first : P (beginning_of x.opening) = inr (inl refl) in
      let own : All P (beginning_of x.opening ∷ written_in x) = All-append P (beginning_of x.opening ∷ []) (written_in x) (one_of (beginning_of x.opening) first) (λ k e lt. inr (inr (of_rings r.5 k e lt))) in
      subst (All P) (sym (in_parts x xs J r)) (All-append P (r.0 ++ r.1) (beginning_of x.opening ∷ written_in x) (All-append P r.0 r.1 (rounds_each xs r.0 r.2) (rulers_of_rounds rings r.1 r.3)) own)
    where
      one_of : (e : Entry) → IsOfRounds rings e → All (IsOfRounds rings) (e ∷ [])
      one_of e h zero d lt = h
      one_of e h (suc k) d lt = absurd (omega arith)

  pub rounds_count : (xs : List RoundRun) (J : List Entry) → Rounds xs J → count_by begins_round J ≡ length xs
  rounds_count [] J r = ap (count_by begins_round) r
  rounds_count (x ∷ xs) J r =
      let whole = ap (count_by begins_round) (in_parts x xs J r) ∙ count_round (r.0 ++ r.1) (start_for x.opening) (written_in x) (alone r.5) in
      let front = count_alone r.0 r.1 (rulers_begin_none r.1 r.3) in
      let old = rounds_count xs r.0 r.2 in omega (arith, whole, front, old)

  -- What is learned in each round

  pub rounds_fresh : (xs : List RoundRun) (J : List Entry) → Rounds xs J → EachAfter (IsFreshInRound F) [] J
  rounds_fresh [] J r = subst (EachAfter (IsFreshInRound F) []) (sym r) tt
  rounds_fresh (x ∷ xs) J r =
      subst (EachAfter (IsFreshInRound F) []) (sym (in_parts x xs J r))
      (round_fresh (r.0 ++ r.1) (start_for x.opening) (written_in x) (alone r.5) F
      (rulers_fresh F r.0 r.1 r.3 (rounds_fresh xs r.0 r.2))
      (subst (λ (p : Opening). EachAfter (IsFresh (start_clauses p)) [] (written_in x)) (sym (told r.5)) (fresh_and_spaced r.5).fresh))

  pub rounds_spaced : (xs : List RoundRun) (J : List Entry) → Rounds xs J → EachAfter IsSpacedInRound [] J
  rounds_spaced [] J r = subst (EachAfter IsSpacedInRound []) (sym r) tt
  rounds_spaced (x ∷ xs) J r =
      subst (EachAfter IsSpacedInRound []) (sym (in_parts x xs J r))
      (round_spaced (r.0 ++ r.1) (start_for x.opening) (written_in x) (alone r.5) (rulers_spaced r.0 r.1 r.3 (rounds_spaced xs r.0 r.2)) (fresh_and_spaced r.5).spaced)

  pub rounds_new : (xs : List RoundRun) (J : List Entry) → Rounds xs J → All (λ x. EachAfter (IsNew (opening_of x.opening)) [] (written_in x)) xs → EachAfter (IsNewInRound F) [] J
  rounds_new [] J r h = subst (EachAfter (IsNewInRound F) []) (sym r) tt
  rounds_new (x ∷ xs) J r h =
      subst (EachAfter (IsNewInRound F) []) (sym (in_parts x xs J r))
      (round_new (r.0 ++ r.1) (start_for x.opening) (written_in x) (alone r.5) F
      (rulers_new F r.0 r.1 r.3 (rounds_new xs r.0 r.2 (λ k y lt. h (suc k) y (omega arith))))
      (subst (λ (p : Opening). EachAfter (IsNew p) [] (written_in x)) (sym (told r.5)) (h 0 x (omega arith))))

  -- When a round begins

  goes_on : (xs : List RoundRun) (K rest : List Entry) → Rounds xs K → All (λ e. is_rulers e ≡ true) rest → IsDue rings most xs K → is_some (last_round (K ++ rest)) ≡ true → MayGoOn rings every most (K ++ rest)
  goes_on [] K rest r rulers due begun =
      absurd (true≢false (sym begun ∙ ap (λ (L : List Entry). is_some (last_round (L ++ rest))) r ∙ ap is_some (last_none rest (rulers_begin_none rest rulers))))
  goes_on (y ∷ ys) K rest r rulers due begun =
      subst (λ (L : List Entry). MayGoOn rings every most (L ++ rest)) (sym (in_parts y ys K r))
      (may_go_on rings every most (r.0 ++ r.1) (start_for y.opening) (written_in y) rest (alone r.5) rulers
      (spent r.5 due.0 ∙ ap (round_limit every most) (sym (rulers_more rings r.0 r.1 r.3)))
      (subst (λ (L : List Entry). learned_by rings L < most) (in_parts y ys K r) due.1))

  pub rounds_due : (xs : List RoundRun) (J : List Entry) → Rounds xs J → EachAfter (IsDueInRounds rings every most) [] J
  rounds_due [] J r = subst (EachAfter (IsDueInRounds rings every most) []) (sym r) tt
  rounds_due (x ∷ xs) J r =
      subst (EachAfter (IsDueInRounds rings every most) []) (sym (in_parts x xs J r))
      (round_due rings every most (r.0 ++ r.1) (start_for x.opening) (written_in x) (alone r.5)
      (rulers_due rings every most r.0 r.1 r.3 (rounds_due xs r.0 r.2))
      (goes_on xs r.0 r.1 r.2 r.3 r.4))

  -- in the last round as much is learned as might be, if it is spent
  pub rounds_spent : (x : RoundRun) (xs : List RoundRun) (J : List Entry) → Rounds (x ∷ xs) J → IsSpent x → learned_by rings (since_round J) ≡ round_limit every most (learned_by rings (to_round J))
  rounds_spent x xs J r is_spent =
      let own : learned_by rings (since_round J) ≡ learned_by rings (written_in x) = ap (λ (L : List Entry). learned_by rings (since_round L)) r.6 ∙ ap (learned_by rings) (since r.5) in
      let old : learned_by rings (to_round J) ≡ learned_by rings r.0 =
      ap (λ (L : List Entry). learned_by rings (to_round L)) r.6 ∙ ap (learned_by rings) (to r.5 ∙ r.5.journal_is) ∙ round_more rings (r.0 ++ r.1) (start_for x.opening) ∙ rulers_more rings r.0 r.1 r.3 in
      own ∙ spent r.5 is_spent ∙ ap (round_limit every most) (sym old)

  -- How much is learned

  sums : (x : RoundRun) (xs : List RoundRun) (J : List Entry) (r : Rounds (x ∷ xs) J) → learned_by rings J ≡ learned_by rings r.0 + learned_by rings (written_in x)
  sums x xs J r = ap (learned_by rings) r.6 ∙ sum_after r.0 r.1 r.5 r.3

  pub rounds_within : ((c : State) → Sound c → IsWithin c) → (xs : List RoundRun) (J : List Entry) → Rounds xs J → learned_by rings J ≤ most
  rounds_within w [] J r = (let none : learned_by rings J ≡ 0 = ap (learned_by rings) r ∙ below_none rings (λ _. 0) (λ _ _. refl) in omega (arith, none))
  rounds_within w (x ∷ xs) J r =
      (let s = sums x xs J r in
      let old = rounds_within w xs r.0 r.2 in
      let own = within r.5 (w (left_by x) (sound r.5)) in
      let left = limit_left every most (learned_by rings r.0) in omega (arith, s, old, own, left))

  -- Their end

  module _ (some : IfSome every (λ k. 1 ≤ k)) where
    pub rounds_more : (before rest : List Entry) (x : RoundRun) → learned_by rings before < most → IsRound rings depth (round_limit every most (learned_by rings before)) F (before ++ rest) x
        → All (λ e. is_rulers e ≡ true) rest → IsSpent x → learned_by rings before < learned_by rings (left_by x).journal
    rounds_more before rest x left o rulers is_spent =
        let s = sum_after before rest o rulers in
        let own = spent o is_spent in
        let one = limit_some every most (learned_by rings before) some left in omega (arith, s, own, one)

    -- each spent round learns a clause or more
    enough : (xs : List RoundRun) (J : List Entry) → Rounds xs J → IsDue rings most xs J → length xs ≤ learned_by rings J
    enough [] J r due = omega arith
    enough (x ∷ xs) J r due =
        let s = sums x xs J r in
        let all = due.1 in
        let more = rounds_more r.0 r.1 x (omega (arith, s, all)) r.5 r.3 due.0 in
        let same = ap (learned_by rings) r.6 in
        let old = enough xs r.0 r.2 r.4 in omega (arith, more, same, old)

    pub rounds_few : (xs : List RoundRun) (J : List Entry) → Rounds xs J → length xs ≤ max 1 most
    rounds_few [] J r = omega arith
    rounds_few (x ∷ []) J r = le-max_left 1 most
    rounds_few (x ∷ (y ∷ ys)) J r =
        let old = enough (y ∷ ys) r.0 r.2 r.4 in
        let all = r.4.1 in
        let m = le-max_right 1 most in omega (arith, old, all, m)

-- rounds without a bound of their own
pub rounds_one : (rings depth most : ℕ) (F : List (List Literal)) (xs : List RoundRun) (J : List Entry) → AreRounds rings depth None most F xs J → length xs ≤ 1
rounds_one rings depth most F [] J r = omega arith
rounds_one rings depth most F (x ∷ []) J r = omega arith
rounds_one rings depth most F (x ∷ (y ∷ ys)) J r =
    let s = sums rings depth None most F y ys r.0 r.2 in
    let own = spent r.2.5 r.4.0 in
    let left = r.4.1 in absurd (omega (arith, s, own, left))
