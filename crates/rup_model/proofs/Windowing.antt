-- The entries of a round are read alone.
use Rattle.std.proofs.Common.{◌≡◌, ◌-◌, false, cond, ◌||◌, List, [], ◌∷◌, ◌++◌, length, take, Option, Some, None, refl, sym, ap, ◌∙◌, subst, arith, append-nil, append_assoc, length-append, suc, ◌<◌, All}
use Rattle.std.specs.List.{fold, list_any}
use Rattle.std.proofs.lemmas.Bool.{or_parts}
use Rattle.std.proofs.lemmas.List.Folds.{list_any-append}
use Rattle.std.proofs.lemmas.List.Sums.{fold-append}
use Rattle.std.proofs.Math.Seq.{take-append_seam}
use Rattle.sat_words.specs.Literal.{Literal}
use Rattle.rup_model.specs.Basics.{EachAfter}
use Rattle.rup_model.specs.declared.journal.TheConstants.{RULER_RING}
use Rattle.rup_model.specs.declared.journal.Round.{Round as RoundStart}
use Rattle.rup_model.specs.declared.journal.Entry.{Entry}
use Rattle.rup_model.specs.declared.journal.Entry.TheVariants.{Add, Del, Reduce, Round}
use Rattle.rup_model.specs.Journal.{ring_of, round_of, IsSpaced}
use Rattle.rup_model.specs.Opening.{IsNew}
use Rattle.rup_model.specs.Windows.{begins_round, window_after, since_round, to_round, last_after, last_round, opening_by}
use Rattle.rup_model.proofs.Sequences.{fold_last, each_both}

-- entries that begin no round leave what the last began with, and are all its own
window_keeps : (w K : List Entry) → list_any begins_round K ≡ false → fold window_after w K ≡ w ++ K
window_keeps w [] none = sym (append-nil w)
window_keeps w (e ∷ K) none =
    let p = or_parts (begins_round e) (list_any begins_round K) none in
    ap (λ (v : List Entry). fold window_after v K) (λ i. cond (p.0 i) [] (w ++ e ∷ [])) ∙ window_keeps (w ++ e ∷ []) K p.1 ∙ append_assoc w (e ∷ []) K

last_keeps : (o : Option RoundStart) (K : List Entry) → list_any begins_round K ≡ false → fold last_after o K ≡ o
last_keeps o [] none = refl
last_keeps o (e ∷ K) none =
    let p = or_parts (begins_round e) (list_any begins_round K) none in
    ap (λ (q : Option RoundStart). fold last_after q K) (λ i. cond (p.0 i) (round_of e) o) ∙ last_keeps o K p.1

-- the entries of rings that search begin no round
pub rings_begin_none : (K : List Entry) → All (λ e. ring_of e < RULER_RING) K → list_any begins_round K ≡ false
rings_begin_none [] below = refl
rings_begin_none (e ∷ K) below = λ i. one e (below 0 e (omega arith)) i || rings_begin_none K (λ k d lt. below (suc k) d (omega arith)) i
  where
    one : (d : Entry) → ring_of d < RULER_RING → begins_round d ≡ false
    one (Add y) lt = refl
    one (Del r n) lt = refl
    one (Reduce r) lt = refl
    one (Round y) lt = absurd (omega arith)

-- if no entry begins a round
pub since_all : (K : List Entry) → list_any begins_round K ≡ false → since_round K ≡ K
since_all K none = window_keeps [] K none

pub last_none : (K : List Entry) → list_any begins_round K ≡ false → last_round K ≡ None
last_none K none = last_keeps None K none

module _ (J : List Entry) (x : RoundStart) where
  pub since_is : (K : List Entry) → list_any begins_round K ≡ false → since_round ((J ++ Round x ∷ []) ++ K) ≡ K
  since_is K none =
      fold-append window_after [] (J ++ Round x ∷ []) K
      ∙ ap (λ (w : List Entry). fold window_after w K) (fold_last window_after [] J (Round x))
      ∙ window_keeps [] K none

  pub last_is : (K : List Entry) → list_any begins_round K ≡ false → last_round ((J ++ Round x ∷ []) ++ K) ≡ Some x
  last_is K none =
      fold-append last_after None (J ++ Round x ∷ []) K
      ∙ ap (λ (o : Option RoundStart). fold last_after o K) (fold_last last_after None J (Round x))
      ∙ last_keeps (Some x) K none

  pub to_is : (K : List Entry) → list_any begins_round K ≡ false → to_round ((J ++ Round x ∷ []) ++ K) ≡ J ++ Round x ∷ []
  to_is K none =
      let I : List Entry = J ++ Round x ∷ [] in
      ap (λ (w : List Entry). take (length (I ++ K) - length w) (I ++ K)) (since_is K none)
      ∙ ap (λ n. take n (I ++ K)) (let q = length-append I K in let d : length (I ++ K) - length K ≡ length I = omega arith in d)
      ∙ take-append_seam I K

  none_more : (done : List Entry) (e : Entry) → list_any begins_round done ≡ false → begins_round e ≡ false → list_any begins_round (done ++ e ∷ []) ≡ false
  none_more done e h n = list_any-append begins_round done (e ∷ []) ∙ (λ i. h i || (n i || false))

  module _ (Q : List Entry → Option RoundStart → List Entry → Entry → Type 0) where
    -- what is said of the round, the entries up to its beginning and those after it
    abbrev pub InRound : List Entry → Entry → Type 0
    InRound before e = Q (to_round before) (last_round before) (since_round before) e

    abbrev Alone : List Entry → Entry → Type 0
    Alone before e = Q (J ++ Round x ∷ []) (Some x) before e

    alike : (done : List Entry) (e : Entry) → list_any begins_round done ≡ false → InRound ((J ++ Round x ∷ []) ++ done) e ≡ Alone done e
    alike done e none = λ i. Q (to_is done none i) (last_is done none i) (since_is done none i) e

    in_round : (done K : List Entry) → list_any begins_round done ≡ false → list_any begins_round K ≡ false → EachAfter Alone done K → EachAfter InRound ((J ++ Round x ∷ []) ++ done) K
    in_round done [] none rest h = tt
    in_round done (e ∷ K) none rest h =
        let p = or_parts (begins_round e) (list_any begins_round K) rest in (
          subst (λ (A : Type 0). A) (sym (alike done e none)) h.0,
          subst (λ (B : List Entry). EachAfter InRound B K) (sym (append_assoc (J ++ Round x ∷ []) done (e ∷ []))) (in_round (done ++ e ∷ []) K (none_more done e none p.0) p.1 h.1),
        )

    of_round : (done K : List Entry) → list_any begins_round done ≡ false → list_any begins_round K ≡ false → EachAfter InRound ((J ++ Round x ∷ []) ++ done) K → EachAfter Alone done K
    of_round done [] none rest h = tt
    of_round done (e ∷ K) none rest h =
        let p = or_parts (begins_round e) (list_any begins_round K) rest in (
          subst (λ (A : Type 0). A) (alike done e none) h.0,
          of_round (done ++ e ∷ []) K (none_more done e none p.0) p.1 (subst (λ (B : List Entry). EachAfter InRound B K) (append_assoc (J ++ Round x ∷ []) done (e ∷ [])) h.1),
        )

    pub alone_in_round : (K : List Entry) → list_any begins_round K ≡ false → EachAfter Alone [] K → EachAfter InRound (J ++ Round x ∷ []) K
    alone_in_round K rest h = subst (λ (B : List Entry). EachAfter InRound B K) (append-nil (J ++ Round x ∷ [])) (in_round [] K refl rest h)

    pub in_round_alone : (K : List Entry) → list_any begins_round K ≡ false → EachAfter InRound (J ++ Round x ∷ []) K → EachAfter Alone [] K
    in_round_alone K rest h = of_round [] K refl rest (subst (λ (B : List Entry). EachAfter InRound B K) (sym (append-nil (J ++ Round x ∷ []))) h)

    -- one round more
    pub rounds_join : (K : List Entry) → list_any begins_round K ≡ false → EachAfter InRound [] J → InRound J (Round x) → EachAfter Alone [] K → EachAfter InRound [] (J ++ Round x ∷ K)
    rounds_join K rest old first h = each_both InRound [] J (Round x ∷ K) old (first, alone_in_round K rest h)

-- new and spaced in the round, as such properties
abbrev pub NewBy : List (List Literal) → List Entry → Option RoundStart → List Entry → Entry → Type 0
NewBy F I o w e = IsNew (opening_by F I o) w e

abbrev pub SpacedBy : List Entry → Option RoundStart → List Entry → Entry → Type 0
SpacedBy I o w e = IsSpaced w e
