-- A variable of a walker is flipped.
use Rattle.std.proofs.Common.{◌≡◌, ◌∙◌, ℕ, ◌+◌, ◌<◌, ◌≤◌, Bool, true, List, [], length, get_or, refl, sym, ap, subst, arith, All}
use Rattle.std.specs.Prelude.{◌^◌}
use Rattle.std.proofs.lemmas.List.{length-map}
use Rattle.sat_words.specs.Literal.{Literal, IsOn, opposite}
use Rattle.sat_words.specs.Clause.{InOrder, distinct_lits}
use Rattle.sat_words.specs.Truth.{lit_true}
use Rattle.ring_walk.specs.declared.tally.Count.{Count}
use Rattle.ring_walk.specs.Tally.{TallyData, count_at}
use Rattle.ring_walk.specs.Occurrences.{AreOccurrences}
use Rattle.ring_walk.specs.Truths.{IsOnce, Names, count_of, counts_of, IsFlip}
use Rattle.ring_walk.proofs.Ordered.{distinct, code_low}
use Rattle.ring_walk.proofs.Ranking.{room_of, low, once, names}
use Rattle.ring_walk.proofs.Values.{false_lit, was_false, was_true}
use Rattle.ring_walk.proofs.CountLemmas.{few, small_sum}
use Rattle.ring_walk.proofs.Flipping.{count_get}

module _ (t : TallyData) (G : List (List Literal)) (a : List Bool) (starts named : List ℕ) (v : ℕ) (on : All (All (IsOn t.vars)) G) (ordered : All InOrder G) (counts : t.counts ≡ counts_of (lit_true a) G) (o : AreOccurrences t.vars G starts named)
    (v_low : 1 ≤ v) (v_high : v ≤ t.vars) where
  here : IsOn t.vars (false_lit a v)
  here = record { low = v_low; high = v_high }

  there : IsOn t.vars (opposite (false_lit a v))
  there = record { low = v_low; high = v_high }

  apart : (i : ℕ) → i < length G → distinct_lits (get_or G i []) ≡ true
  apart i lt = distinct (get_or G i []) (ordered i [] lt)

  pub flips : (up down : List ℕ) → up ≡ room_of starts named (false_lit a v) → down ≡ room_of starts named (opposite (false_lit a v)) → IsFlip t up down v G (lit_true a) (false_lit a v)
  flips up down up_is down_is = record {
    counts = counts;
    var_is = refl;
    on = on;
    in_range = v_high;
    distinct = apart;
    up_low = subst (λ (xs : List ℕ). (k : ℕ) → k < length xs → get_or xs k 0 < length G) (sym up_is) (low t.vars G starts named o (false_lit a v) (code_low t.vars (false_lit a v) here));
    down_low = subst (λ (xs : List ℕ). (k : ℕ) → k < length xs → get_or xs k 0 < length G) (sym down_is) (low t.vars G starts named o (opposite (false_lit a v)) (code_low t.vars (opposite (false_lit a v)) there));
    up_once = subst IsOnce (sym up_is) (once t.vars G starts named o (false_lit a v) (code_low t.vars (false_lit a v) here) apart);
    down_once = subst IsOnce (sym down_is) (once t.vars G starts named o (opposite (false_lit a v)) (code_low t.vars (opposite (false_lit a v)) there) apart);
    up_names = subst (Names G (false_lit a v)) (sym up_is) (names t.vars G starts named o (false_lit a v) (code_low t.vars (false_lit a v) here));
    down_names = subst (Names G (opposite (false_lit a v))) (sym down_is) (names t.vars G starts named o (opposite (false_lit a v)) (code_low t.vars (opposite (false_lit a v)) there));
    was_false = was_false a v;
    was_true = was_true a v;
  }

  long : length t.counts ≡ length G
  long = ap (λ (xs : List Count). length xs) counts ∙ length-map G (count_of (lit_true a))

  count_is : (i : ℕ) → i < length t.counts → count_at t.counts i ≡ count_of (lit_true a) (get_or G i [])
  count_is i lt = let l = long in ap (λ (xs : List Count). count_at xs i) counts ∙ count_get (lit_true a) G i (omega arith)

  pub few_now : t.vars ≤ 2 ^ 30 → (i : ℕ) → i < length t.counts → (count_at t.counts i).trues + 1 < 2 ^ 32
  few_now small i lt =
      let l = long in
      let e = ap (λ (x : Count). x.trues) (count_is i lt) in
      let f = few (lit_true a) t.vars (get_or G i []) small (ordered i [] (omega arith)) (on i [] (omega arith)) in
      omega arith

  pub small_now : t.vars ≤ 2 ^ 30 → (i : ℕ) → i < length t.counts → (count_at t.counts i).sum + v < 2 ^ 64
  small_now small i lt =
      let l = long in
      let e = ap (λ (x : Count). x.sum) (count_is i lt) in
      let f = small_sum (lit_true a) t.vars (get_or G i []) small (ordered i [] (omega arith)) (on i [] (omega arith)) in
      omega arith
