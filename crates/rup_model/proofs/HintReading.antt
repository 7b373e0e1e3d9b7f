-- Hints read one after another.
use Rattle.std.proofs.Common.{◌≡◌, ◌∙◌, ℕ, ◌<◌, ◌≤◌, ◌+◌, Bool, true, false, ◌||◌, List, [], ◌∷◌, ◌++◌, Option, Some, None, length, get_or, drop, refl, sym, ap, arith}
use Rattle.std.specs.Prelude.{◌-◌}
use Rattle.std.specs.Option.{option_and_then, option_map_or}
use Rattle.std.proofs.lemmas.List.{drop_more, drop_all}
use Rattle.sat_words.specs.Literal.{Literal, same}
use Rattle.sat_words.specs.Clause.{has}
use Rattle.rup_model.specs.Rounds.{falsifies}
use Rattle.rup_model.specs.Hints.{Numbered, with_lit, forced, hinted_from}

pub drop_last : (ns : List ℕ) (i : ℕ) → i < length ns → i ≡ length ns - 1 → drop i ns ≡ get_or ns i 0 ∷ []
drop_last ns i lt e = drop_more ns i 0 lt ∙ ap (λ (xs : List ℕ). get_or ns i 0 ∷ xs) (drop_all (i + 1) ns (omega arith))

at_last : (at : Numbered) (A : Literal → Bool) (n : ℕ) → hinted_from at A (n ∷ []) ≡ option_map_or (falsifies A) (at n) false
unfolding hinted_from
at_last at A n = refl

pub reads_last : (at : Numbered) (A : Literal → Bool) (ns : List ℕ) (i : ℕ) → i < length ns → i ≡ length ns - 1 → hinted_from at A (drop i ns) ≡ option_map_or (falsifies A) (at (get_or ns i 0)) false
reads_last at A ns i lt e = ap (hinted_from at A) (drop_last ns i lt e) ∙ at_last at A (get_or ns i 0)

pub reads_none : (at : Numbered) (A : Literal → Bool) (ns : List ℕ) (i : ℕ) → length ns ≤ i → hinted_from at A (drop i ns) ≡ false
unfolding hinted_from
reads_none at A ns i le = ap (hinted_from at A) (drop_all i ns le)

at_first : (at : Numbered) (A : Literal → Bool) (n m : ℕ) (ns : List ℕ) (o : Option Literal) → option_and_then (forced A) (at n) ≡ o → hinted_from at A (n ∷ m ∷ ns) ≡ option_map_or (λ l. hinted_from at (with_lit l A) (m ∷ ns)) o false
unfolding hinted_from
at_first at A n m ns o e = ap (λ (p : Option Literal). option_map_or (λ l. hinted_from at (with_lit l A) (m ∷ ns)) p false) e

split_two : (ns : List ℕ) (i : ℕ) → i + 1 < length ns → drop i ns ≡ get_or ns i 0 ∷ get_or ns (i + 1) 0 ∷ drop (i + 1 + 1) ns
split_two ns i lt = drop_more ns i 0 (omega arith) ∙ ap (λ (xs : List ℕ). get_or ns i 0 ∷ xs) (drop_more ns (i + 1) 0 lt)

pub stops_at : (at : Numbered) (A : Literal → Bool) (ns : List ℕ) (i : ℕ) → i + 1 < length ns → option_and_then (forced A) (at (get_or ns i 0)) ≡ None → hinted_from at A (drop i ns) ≡ false
stops_at at A ns i lt e = ap (hinted_from at A) (split_two ns i lt) ∙ at_first at A (get_or ns i 0) (get_or ns (i + 1) 0) (drop (i + 1 + 1) ns) None e

pub goes_on : (at : Numbered) (A : Literal → Bool) (ns : List ℕ) (i : ℕ) (l : Literal) → i + 1 < length ns → option_and_then (forced A) (at (get_or ns i 0)) ≡ Some l → hinted_from at A (drop i ns) ≡ hinted_from at (with_lit l A) (drop (i + 1) ns)
goes_on at A ns i l lt e =
    ap (hinted_from at A) (split_two ns i lt) ∙ at_first at A (get_or ns i 0) (get_or ns (i + 1) 0) (drop (i + 1 + 1) ns) (Some l) e
    ∙ sym (ap (hinted_from at (with_lit l A)) (drop_more ns (i + 1) 0 lt))

has_pushed : (A : List Literal) (l k : Literal) → has (A ++ l ∷ []) k ≡ with_lit l (has A) k
has_pushed [] l k = refl
has_pushed (m ∷ A) l k = ap (λ (b : Bool). same k m || b) (has_pushed A l k) ∙ by (same k m) (same k l) (has A k)
  where
    by : (a b c : Bool) → (a || (b || c)) ≡ (b || (a || c))
    by true true c = refl
    by true false c = refl
    by false b c = refl

pub set_pushed : (A : List Literal) (l : Literal) → has (A ++ l ∷ []) ≡ with_lit l (has A)
set_pushed A l = λ i k. has_pushed A l k i
