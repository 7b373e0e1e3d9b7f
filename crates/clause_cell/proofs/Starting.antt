-- Which hole begins at a word.
use Rattle.std.proofs.Common.{◌≡◌, ◌≢◌, ◌⊎◌, ℕ, zero, suc, ◌+◌, ◌^◌, ◌<◌, ◌≤◌, ◌==◌, true, false, List, [], ◌∷◌, ◌++◌, length, refl, sym, ap, ◌∙◌, subst, arith, eq-eqb, ne_eqb, true≢false, ⊎_elim, inl, inr, append-nil, Option, Some, None}
use Rattle.std.specs.Prelude.{⊤, Bool, nat_le, ◌||◌, max, if◌then◌else◌}
use Rattle.std.proofs.lemmas.Bool.Decides.{eqb_tells, leb_tells}
use Rattle.clause_cell.specs.declared.holes.Hole.{Hole}
use Rattle.clause_cell.specs.Free.{is_within, is_free, is_apart, len_from, hole_at, end_at, SkipTo}
use Rattle.clause_cell.specs.Blocks.{holes_of, block_at, end_of, NoneEmpty, IsHome}
use Rattle.clause_cell.proofs.Ranges.{parts, of_le, not_within, none_before}
use Rattle.clause_cell.proofs.Joins.{after, apart_front, apart_back, after_end}

begins_here : (a : ℕ) (h : Hole) (hs : List Hole) → h.first ≡ a → len_from a (h ∷ hs) ≡ Some h.len
begins_here a h hs e = λ i. if eq-eqb h.first a e i then Some h.len else len_from a hs

begins_later : (a : ℕ) (h : Hole) (hs : List Hole) → h.first ≢ a → len_from a (h ∷ hs) ≡ len_from a hs
begins_later a h hs ne = λ i. if ne_eqb h.first a ne i then Some h.len else len_from a hs

-- none does before all holes
none_from : (a from : ℕ) (hs : List Hole) → a < from → is_apart from hs ≡ true → len_from a hs ≡ None
none_from a from [] lt e = refl
none_from a from (h ∷ hs) lt e =
    let p = parts from h hs e in
    let begins = p.begins in
    begins_later a h hs (λ q. omega arith) ∙ none_from a (h.first + h.len + 1) hs (omega arith) p.others

-- In one list

pub len_at : (a from : ℕ) (hs : List Hole) (i : ℕ) → is_apart from hs ≡ true → SkipTo a hs i → i < length hs → (hole_at hs i).first ≡ a → len_from a hs ≡ Some (hole_at hs i).len
len_at a from [] i e skip lt is = absurd (omega arith)
len_at a from (h ∷ hs) zero e skip lt is = begins_here a h hs is
len_at a from (h ∷ hs) (suc i) e skip lt is =
    let p = parts from h hs e in
    let first = skip 0 (omega arith) in
    begins_later a h hs (λ q. omega arith) ∙ len_at a (h.first + h.len + 1) hs i p.others (λ k l. skip (suc k) (omega arith)) (omega arith) is

pub len_none : (a from : ℕ) (hs : List Hole) (i : ℕ) → is_apart from hs ≡ true → SkipTo a hs i → i ≤ length hs → (i < length hs → a ≤ end_at hs i) → (i < length hs → (hole_at hs i).first ≢ a) → len_from a hs ≡ None
len_none a from [] i e skip le stop ne = refl
len_none a from (h ∷ hs) zero e skip le stop ne =
    let p = parts from h hs e in
    let ends = stop (omega arith) in
    begins_later a h hs (ne (omega arith)) ∙ none_from a (h.first + h.len + 1) hs (omega arith) p.others
len_none a from (h ∷ hs) (suc i) e skip le stop ne =
    let p = parts from h hs e in
    let first = skip 0 (omega arith) in
    begins_later a h hs (λ q. omega arith) ∙ len_none a (h.first + h.len + 1) hs i p.others (λ k l. skip (suc k) (omega arith)) (omega arith) (λ l. stop (omega arith)) (λ l. ne (omega arith))

-- In blocks

none_here : (a : ℕ) (xs ys : List Hole) → len_from a ys ≡ None → len_from a (xs ++ ys) ≡ len_from a xs
none_here a [] ys e = e
none_here a (h ∷ xs) ys e = λ i. if h.first == a then Some h.len else none_here a xs ys e i

past : (a : ℕ) (xs ys : List Hole) → end_of xs < a → len_from a (xs ++ ys) ≡ len_from a ys
past a [] ys lt = refl
past a (h ∷ xs) ys lt = begins_later a h (xs ++ ys) (λ q. omega arith) ∙ past a xs ys (omega arith)

len_in : (a from : ℕ) (bs : List (List Hole)) (i : ℕ) → is_apart from (holes_of bs) ≡ true → NoneEmpty bs → i < length bs → ((k : ℕ) → k < i → end_of (block_at bs k) < a) → (suc i < length bs → a ≤ end_of (block_at bs i))
    → len_from a (holes_of bs) ≡ len_from a (block_at bs i)
len_in a from [] i e filled lt before stop = absurd (omega arith)
len_in a from (b ∷ []) zero e filled lt before stop = none_here a b [] refl
len_in a from (b ∷ c ∷ bs) zero e filled lt before stop =
    let le = stop (omega arith) in
    let end = after_end from b (filled 0 (omega arith)) (apart_front from b (holes_of (c ∷ bs)) e) in
    none_here a b (holes_of (c ∷ bs)) (none_from a (after from b) (holes_of (c ∷ bs)) (omega arith) (apart_back from b (holes_of (c ∷ bs)) e))
len_in a from (b ∷ bs) (suc i) e filled lt before stop =
    past a b (holes_of bs) (before 0 (omega arith))
    ∙ len_in a (after from b) bs i (apart_back from b (holes_of bs) e) (λ j l. filled (suc j) (omega arith)) (omega arith) (λ k l. before (suc k) (omega arith)) (λ l. stop (omega arith))

pub len_home : (a : ℕ) (bs : List (List Hole)) (i : ℕ) → is_apart 0 (holes_of bs) ≡ true → NoneEmpty bs → IsHome a bs i → len_from a (holes_of bs) ≡ len_from a (block_at bs i)
len_home a bs i e filled h = len_in a 0 bs i e filled h.inside h.before (λ lt. h.beyond (omega arith))

-- What is free

some_is : (m n : ℕ) → Some m ≡ Some n → m ≡ n
some_is m n e = ap (λ (o : Option ℕ). got o) e
  where
    got : Option ℕ → ℕ
    got None = m
    got (Some x) = x

never_none : (n : ℕ) → Some n ≡ None → ⊥
never_none n e = true≢false (ap (λ (o : Option ℕ). full o) e)
  where
    full : Option ℕ → Bool
    full None = false
    full (Some x) = true

within : (f n w : ℕ) → f ≤ w → w < f + n → is_within f n w ≡ true
within f n w lo hi = grind (arith, leb_tells, lo, hi)

or_first : (a b : Bool) → a ≡ true → (a || b) ≡ true
or_first true b e = refl
or_first false b e = absurd (true≢false (sym e))

or_second : (a b : Bool) → b ≡ true → (a || b) ≡ true
or_second true b e = refl
or_second false b e = e

or_neither : (a b : Bool) → a ≡ false → b ≡ false → (a || b) ≡ false
or_neither true b e k = absurd (true≢false e)
or_neither false b e k = k

or_false : (a b : Bool) → (a || b) ≡ false → (a ≡ false) × (b ≡ false)
or_false true b e = absurd (true≢false e)
or_false false b e = (refl, e)

-- the words of the hole are free, and the word after it is not
pub record IsHoleFrom (from a n : ℕ) (hs : List Hole) : Type 0 where
  pub begins : from ≤ a
  pub some : 0 < n
  pub ends : a + n ≤ 2 ^ 63
  pub free : (w : ℕ) → a ≤ w → w < a + n → is_free hs w ≡ true
  pub stops : is_free hs (a + n) ≡ false

pub hole_from : (a n from : ℕ) (hs : List Hole) → is_apart from hs ≡ true → len_from a hs ≡ Some n → IsHoleFrom from a n hs
hole_from a n from [] e is = absurd (never_none n (sym is))
hole_from a n from (h ∷ hs) e is = ⊎_elim
    (λ (t : ((h.first == a) ≡ true) × (h.first ≡ a)).
    (let p = parts from h hs e in
    let len : h.len ≡ n = some_is h.len n (sym (begins_here a h hs t.1) ∙ is) in
    let first = t.1 in
    let begins = p.begins in
    let some = p.some in
    let ends = p.ends in
    record {
      begins = omega arith;
      some = omega arith;
      ends = omega arith;
      free = λ w lo hi. or_first (is_within h.first h.len w) (is_free hs w) (within h.first h.len w (omega arith) (omega arith));
      stops = or_neither (is_within h.first h.len (a + n)) (is_free hs (a + n)) (not_within h.first h.len (a + n) (inr (omega arith))) (none_before (h.first + h.len + 1) hs (a + n) p.others (omega arith));
    }))
    (λ (t : ((h.first == a) ≡ false) × (h.first ≢ a)).
    (let p = parts from h hs e in
    let k = hole_from a n (h.first + h.len + 1) hs p.others (sym (begins_later a h hs t.1) ∙ is) in
    let begins = p.begins in
    let after_it = k.begins in
    let some = k.some in
    record {
      begins = omega arith;
      some = some;
      ends = k.ends;
      free = λ w lo hi. or_second (is_within h.first h.len w) (is_free hs w) (k.free w lo hi);
      stops = or_neither (is_within h.first h.len (a + n)) (is_free hs (a + n)) (not_within h.first h.len (a + n) (inr (omega arith))) k.stops;
    }))
    (eqb_tells h.first a)

-- no hole but one that begins at a word goes on from the word before it
not_next : (f n a : ℕ) → f ≢ suc a → is_within f n a ≡ false → is_within f n (suc a) ≡ false
not_next f n a ne e = ⊎_elim
    (λ (t : (nat_le f a ≡ true) × (f ≤ a)). not_within f n (suc a) (inr (le_end t.1)))
    (λ (t : (nat_le f a ≡ false) × (a < f)). (let lt = t.1 in not_within f n (suc a) (inl (far lt))))
    (leb_tells f a)
  where
    le_end : f ≤ a → f + n ≤ suc a
    le_end le = ⊎_elim
        (λ (t : (nat_le (suc a) (f + n) ≡ true) × (suc a ≤ f + n)). absurd (true≢false (sym (within f n a le (omega arith)) ∙ e)))
        (λ (t : (nat_le (suc a) (f + n) ≡ false) × (f + n < suc a)). (let lt = t.1 in omega arith))
        (leb_tells (suc a) (f + n))

    far : a < f → suc a < f
    far lt = omega arith

pub not_free_next : (a : ℕ) (hs : List Hole) → len_from (suc a) hs ≡ None → is_free hs a ≡ false → is_free hs (suc a) ≡ false
not_free_next a [] none busy = refl
not_free_next a (h ∷ hs) none busy = ⊎_elim
    (λ (t : ((h.first == suc a) ≡ true) × (h.first ≡ suc a)). absurd (never_none h.len (sym (begins_here (suc a) h hs t.1) ∙ none)))
    (λ (t : ((h.first == suc a) ≡ false) × (h.first ≢ suc a)).
    (let two = or_false (is_within h.first h.len a) (is_free hs a) busy in
    or_neither (is_within h.first h.len (suc a)) (is_free hs (suc a)) (not_next h.first h.len a t.1 two.0) (not_free_next a hs (sym (begins_later (suc a) h hs t.1) ∙ none) two.1)))
    (eqb_tells h.first (suc a))
