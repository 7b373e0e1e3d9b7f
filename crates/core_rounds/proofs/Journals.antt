-- A journal in rounds, as the ruler adds to it and as one more round comes after it.
use Rattle.std.proofs.Common.{◌≡◌, ◌∙◌, ℕ, suc, ◌+◌, ◌<◌, ◌==◌, ◌&&◌, ◌||◌, Bool, true, false, cond, List, [], ◌∷◌, ◌++◌, All, Option, Some, IfSome, refl, sym, ap, subst, inl, arith, append_assoc}
use Rattle.std.specs.List.{list_any, count_by}
use Rattle.std.specs.Option.{is_some}
use Rattle.std.proofs.lemmas.Bool.{true≢false, or_parts}
use Rattle.std.proofs.lemmas.List.Folds.{list_any-append}
use Rattle.std.proofs.lemmas.List.Sums.{sum_by-append, sum_by-cons}
use Rattle.sat_words.specs.Literal.{Literal}
use Rattle.rup_model.specs.declared.journal.TheConstants.{RULER_RING}
use Rattle.rup_model.specs.declared.journal.Round.{Round as RoundStart}
use Rattle.rup_model.specs.declared.journal.Addition.{Addition}
use Rattle.rup_model.specs.declared.journal.Entry.{Entry}
use Rattle.rup_model.specs.declared.journal.Entry.TheVariants.{Add, Del, Reduce, Round}
use Rattle.rup_model.specs.Basics.{EachAfter}
use Rattle.rup_model.specs.Journal.{addition, reduction, is_learn, fresh, IsFresh, IsSpaced}
use Rattle.rup_model.specs.Opening.{is_rulers, is_new, IsNew, start_clauses}
use Rattle.rup_model.specs.Windows.{begins_round, since_round, to_round, last_round, opening_by, round_opening, IsNewInRound, IsSpacedInRound}
use Rattle.rup_model.proofs.Sequences.{each_both}
use Rattle.rup_model.proofs.Parts.{rulers_each, rulers_kind}
use Rattle.rup_model.proofs.Windowing.{since_is, to_is, rounds_join, NewBy, SpacedBy}
use Rattle.core_rounds.specs.InRounds.{learned_by, round_limit, IsOfRounds, IsFreshInRound, MayGoOn, IsDueInRounds}
use Rattle.core_rounds.proofs.Learned.{rulers_more, round_more}

-- Entries of the ruler

begins_none : (e : Entry) → is_rulers e ≡ true → begins_round e ≡ false
begins_none (Add x) h = refl
begins_none (Del r n) h = refl
begins_none (Reduce r) h = refl
begins_none (Round x) h = absurd (true≢false (sym h))

learns_none : (P : Addition → Type 0) (e : Entry) → is_rulers e ≡ true → IfSome (addition e) (λ x. is_learn x.kind ≡ true → P x)
learns_none P (Add x) h = λ learns. absurd (true≢false (sym learns ∙ rulers_kind x h))
learns_none P (Del r n) h = tt
learns_none P (Reduce r) h = tt
learns_none P (Round x) h = tt

reduces_none : (P : ℕ → Type 0) (e : Entry) → is_rulers e ≡ true → IfSome (reduction e) P
reduces_none P (Add x) h = tt
reduces_none P (Del r n) h = tt
reduces_none P (Reduce r) h = absurd (by (r == RULER_RING) h)
  where
    by : (t : Bool) → (t && false) ≡ true → ⊥
    by true e = true≢false (sym e)
    by false e = true≢false (sym e)
reduces_none P (Round x) h = tt

pub rulers_begin_none : (rest : List Entry) → All (λ e. is_rulers e ≡ true) rest → list_any begins_round rest ≡ false
rulers_begin_none [] rulers = refl
rulers_begin_none (e ∷ rest) rulers = λ i. begins_none e (rulers 0 e (omega arith)) i || rulers_begin_none rest (λ k d lt. rulers (suc k) d (omega arith)) i

-- The ruler adds to it

with_rulers : (P : List Entry → Entry → Type 0) → ((before : List Entry) (e : Entry) → is_rulers e ≡ true → P before e) → (J rest : List Entry)
    → All (λ e. is_rulers e ≡ true) rest → EachAfter P [] J → EachAfter P [] (J ++ rest)
with_rulers P each J rest rulers h = each_both P [] J rest h (rulers_each P each J rest rulers)

pub rulers_fresh : (F : List (List Literal)) (J rest : List Entry) → All (λ e. is_rulers e ≡ true) rest → EachAfter (IsFreshInRound F) [] J → EachAfter (IsFreshInRound F) [] (J ++ rest)
rulers_fresh F J rest rulers h =
    with_rulers (IsFreshInRound F) (λ b e k. learns_none (λ x. fresh (start_clauses (round_opening F b)) (since_round b) x.ring x.lits ≡ true) e k) J rest rulers h

pub rulers_new : (F : List (List Literal)) (J rest : List Entry) → All (λ e. is_rulers e ≡ true) rest → EachAfter (IsNewInRound F) [] J → EachAfter (IsNewInRound F) [] (J ++ rest)
rulers_new F J rest rulers h =
    with_rulers (IsNewInRound F) (λ b e k. learns_none (λ x. is_new (round_opening F b) (since_round b) x.ring x.lits ≡ true) e k) J rest rulers h

pub rulers_spaced : (J rest : List Entry) → All (λ e. is_rulers e ≡ true) rest → EachAfter IsSpacedInRound [] J → EachAfter IsSpacedInRound [] (J ++ rest)
rulers_spaced J rest rulers h = with_rulers IsSpacedInRound (λ b e k. reduces_none _ e k) J rest rulers h

pub rulers_due : (rings : ℕ) (every : Option ℕ) (most : ℕ) (J rest : List Entry) → All (λ e. is_rulers e ≡ true) rest
    → EachAfter (IsDueInRounds rings every most) [] J → EachAfter (IsDueInRounds rings every most) [] (J ++ rest)
rulers_due rings every most J rest rulers h = with_rulers (IsDueInRounds rings every most) (λ b e k begins. absurd (true≢false (sym begins ∙ begins_none e k))) J rest rulers h

pub rulers_of_rounds : (rings : ℕ) (rest : List Entry) → All (λ e. is_rulers e ≡ true) rest → All (IsOfRounds rings) rest
rulers_of_rounds rings rest rulers = λ k d lt. inl (rulers k d lt)

-- How many rounds begin

count_more : (J K : List Entry) → count_by begins_round (J ++ K) ≡ count_by begins_round J + count_by begins_round K
count_more J K = sum_by-append (λ e. cond (begins_round e) 1 0) J K

count_none : (K : List Entry) → list_any begins_round K ≡ false → count_by begins_round K ≡ 0
count_none [] none = refl
count_none (e ∷ K) none =
    let p = or_parts (begins_round e) (list_any begins_round K) none in
    sum_by-cons (λ d. cond (begins_round d) 1 0) e K ∙ ap (λ (b : Bool). cond b 1 0 + count_by begins_round K) p.0 ∙ (let rest = count_none K p.1 in let q : 0 + count_by begins_round K ≡ 0 = omega (arith, rest) in q)

pub count_alone : (J K : List Entry) → list_any begins_round K ≡ false → count_by begins_round (J ++ K) ≡ count_by begins_round J
count_alone J K none = let both = count_more J K in let zero_more = count_none K none in omega (arith, both, zero_more)

pub count_round : (J : List Entry) (s : RoundStart) (K : List Entry) → list_any begins_round K ≡ false → count_by begins_round (J ++ Round s ∷ K) ≡ suc (count_by begins_round J)
count_round J s K none = let both = count_more J (Round s ∷ K) in let one : count_by begins_round (Round s ∷ K) ≡ 1 + count_by begins_round K = sum_by-cons (λ d. cond (begins_round d) 1 0) (Round s) K in let zero_more = count_none K none in omega (arith, both, one, zero_more)

-- One more round comes after it

-- what is learned is fresh, by the entries up to a round's beginning, what it begins with and those after it
abbrev FreshBy : List (List Literal) → List Entry → Option RoundStart → List Entry → Entry → Type 0
FreshBy F I o w e = IsFresh (start_clauses (opening_by F I o)) w e

module _ (J : List Entry) (s : RoundStart) (K : List Entry) (none : list_any begins_round K ≡ false) where
  pub round_fresh : (F : List (List Literal)) → EachAfter (IsFreshInRound F) [] J → EachAfter (IsFresh (start_clauses (opening_by F (J ++ Round s ∷ []) (Some s)))) [] K → EachAfter (IsFreshInRound F) [] (J ++ Round s ∷ K)
  round_fresh F old h = rounds_join J s (FreshBy F) K none old tt h

  pub round_new : (F : List (List Literal)) → EachAfter (IsNewInRound F) [] J → EachAfter (IsNew (opening_by F (J ++ Round s ∷ []) (Some s))) [] K → EachAfter (IsNewInRound F) [] (J ++ Round s ∷ K)
  round_new F old h = rounds_join J s (NewBy F) K none old tt h

  pub round_spaced : EachAfter IsSpacedInRound [] J → EachAfter IsSpaced [] K → EachAfter IsSpacedInRound [] (J ++ Round s ∷ K)
  round_spaced old h = rounds_join J s SpacedBy K none old tt h

-- entries that begin no round may come at any time
none_due : (rings : ℕ) (every : Option ℕ) (most : ℕ) (before K : List Entry) → list_any begins_round K ≡ false → EachAfter (IsDueInRounds rings every most) before K
none_due rings every most before [] none = tt
none_due rings every most before (e ∷ K) none =
    let p = or_parts (begins_round e) (list_any begins_round K) none in
    (λ begins. absurd (true≢false (sym begins ∙ p.0)), none_due rings every most (before ++ e ∷ []) K p.1)

pub round_due : (rings : ℕ) (every : Option ℕ) (most : ℕ) (J : List Entry) (s : RoundStart) (K : List Entry) → list_any begins_round K ≡ false
    → EachAfter (IsDueInRounds rings every most) [] J → (is_some (last_round J) ≡ true → MayGoOn rings every most J) → EachAfter (IsDueInRounds rings every most) [] (J ++ Round s ∷ K)
round_due rings every most J s K none old may =
    each_both (IsDueInRounds rings every most) [] J (Round s ∷ K) old (λ begins. may, none_due rings every most (J ++ Round s ∷ []) K none)

-- after a round that learned all that it might, and the ruler, the next may begin while something is left
pub may_go_on : (rings : ℕ) (every : Option ℕ) (most : ℕ) (before : List Entry) (s : RoundStart) (K rest : List Entry) → list_any begins_round K ≡ false → All (λ e. is_rulers e ≡ true) rest
    → learned_by rings K ≡ round_limit every most (learned_by rings before) → learned_by rings (before ++ Round s ∷ K) < most → MayGoOn rings every most ((before ++ Round s ∷ K) ++ rest)
may_go_on rings every most before s K rest none rulers spent left =
    let I : List Entry = before ++ Round s ∷ [] in
    let none_both : list_any begins_round (K ++ rest) ≡ false = list_any-append begins_round K rest ∙ (λ i. none i || rulers_begin_none rest rulers i) in
    let split : (before ++ Round s ∷ K) ++ rest ≡ I ++ (K ++ rest) = append_assoc before (Round s ∷ K) rest ∙ sym (append_assoc before (Round s ∷ []) (K ++ rest)) in
    let same : learned_by rings ((before ++ Round s ∷ K) ++ rest) ≡ learned_by rings (before ++ Round s ∷ K) = rulers_more rings (before ++ Round s ∷ K) rest rulers in
    record {
      spent = ap (λ (L : List Entry). learned_by rings (since_round L)) split ∙ ap (learned_by rings) (since_is before s (K ++ rest) none_both) ∙ rulers_more rings K rest rulers ∙ spent
          ∙ ap (round_limit every most) (sym (ap (λ (L : List Entry). learned_by rings (to_round L)) split ∙ ap (learned_by rings) (to_is before s (K ++ rest) none_both) ∙ round_more rings before s));
      left = subst (λ (n : ℕ). n < most) (sym same) left;
    }
