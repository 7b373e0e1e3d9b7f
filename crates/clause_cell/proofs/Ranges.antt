-- Taking and giving back words, over lists of holes.
use Rattle.std.proofs.Common.{◌≡◌, ◌≢◌, ◌⊎◌, ℕ, zero, suc, ◌+◌, ◌-◌, ◌^◌, ◌<◌, ◌≤◌, ◌==◌, ◌&&◌, ◌||◌, Bool, true, false, not, List, [], ◌∷◌, ◌++◌, length, take, set, get_or, refl, sym, ap, ◌∙◌, arith, ⊎_elim, inl, inr, true≢false, cond, ltb, ltb-false}
use Rattle.std.specs.Prelude.{nat_le, nat_lt, max, Option, Some, None, position, if◌then◌else◌}
use Rattle.std.specs.List.{remove, insert, position_or_len}
use Rattle.std.proofs.lemmas.List.Quantifiers.{position-Some}
use Rattle.std.proofs.lemmas.List.Sums.{fails_before_first}
use Rattle.std.proofs.lemmas.Bool.Decides.{leb_tells, eqb_tells}
use Rattle.clause_cell.specs.declared.holes.Hole.{Hole}
use Rattle.clause_cell.specs.Sides.{IsSide}
use Rattle.clause_cell.specs.declared.sorted.Side.TheVariants.{Both, Left, Right, Neither}
use Rattle.clause_cell.specs.Free.{is_within, is_free, is_apart, is_clear, range, rest_of, first_fit, without_fit, ahead, with_range, largest, hole_at, end_at, SkipTo}

-- Tests

pub both : (a b : Bool) → (a && b) ≡ true → (a ≡ true) × (b ≡ true)
both true true h = (refl, refl)
both true false h = absurd (true≢false (sym h))
both false b h = absurd (true≢false (sym h))

or_swap : (x y z : Bool) → (x || (y || z)) ≡ (y || (x || z))
or_swap true true z = refl
or_swap true false z = refl
or_swap false y z = refl

or_three : (x y z : Bool) → ((x || y) || z) ≡ (x || (y || z))
or_three true y z = refl
or_three false y z = refl

pub le_of : (a b : ℕ) → nat_le a b ≡ true → a ≤ b
le_of a b h = grind (arith, leb_tells, h)

pub of_le : (a b : ℕ) → a ≤ b → nat_le a b ≡ true
of_le a b h = grind (arith, leb_tells, h)

not_le : (a b : ℕ) → b < a → nat_le a b ≡ false
not_le a b h = grind (arith, leb_tells, h)

some_same : {X : Type 0} (x y : X) → Some x ≡ Some y → x ≡ y
some_same {X = X} x y e = ap (λ (o : Option X). got x o) e
  where
    got : {Y : Type 0} → Y → Option Y → Y
    got d None = d
    got d (Some y) = y

pub none_some : (a : ℕ) → None ≡ Some a → ⊥
none_some a e = true≢false (ap (λ (o : Option ℕ). empty o) e)
  where
    empty : Option ℕ → Bool
    empty None = true
    empty (Some x) = false

-- Ranges

within_split : (f n m w : ℕ) → is_within f (n + m) w ≡ (is_within f n w || is_within (f + n) m w)
within_split f n m w = grind (arith, leb_tells)

pub not_within : (f n w : ℕ) → (w < f) ⊎ (f + n ≤ w) → is_within f n w ≡ false
not_within f n w h = grind (arith, leb_tells, h)

pub within_of : (f n w : ℕ) → is_within f n w ≡ true → (f ≤ w) × (w < f + n)
within_of f n w h = let b = both (nat_le f w) (nat_lt w (f + n)) h in (le_of f w b.0, le_of (suc w) (f + n) b.1)

-- Holes that are apart

-- what a list of holes that are apart says of its first
pub record Parts (from : ℕ) (h : Hole) (hs : List Hole) : Type 0 where
  pub begins : from ≤ h.first
  pub some : 0 < h.len
  pub ends : h.first + h.len ≤ 2 ^ 63
  pub others : is_apart (h.first + h.len + 1) hs ≡ true

pub parts : (from : ℕ) (h : Hole) (hs : List Hole) → is_apart from (h ∷ hs) ≡ true → Parts from h hs
parts from h hs e =
    let a = both (nat_le from h.first) (nat_lt 0 h.len && (nat_le (h.first + h.len) (2 ^ 63) && is_apart (h.first + h.len + 1) hs)) e in
    let b = both (nat_lt 0 h.len) (nat_le (h.first + h.len) (2 ^ 63) && is_apart (h.first + h.len + 1) hs) a.1 in
    let c = both (nat_le (h.first + h.len) (2 ^ 63)) (is_apart (h.first + h.len + 1) hs) b.1 in
    record { begins = le_of from h.first a.0; some = le_of 1 h.len b.0; ends = le_of (h.first + h.len) (2 ^ 63) c.0; others = c.1 }

pub joined : (from : ℕ) (h : Hole) (hs : List Hole) → Parts from h hs → is_apart from (h ∷ hs) ≡ true
joined from h hs p i = of_le from h.first p.begins i && (of_le 1 h.len p.some i && (of_le (h.first + h.len) (2 ^ 63) p.ends i && p.others i))

pub apart_from : (f g : ℕ) (hs : List Hole) → f ≤ g → is_apart g hs ≡ true → is_apart f hs ≡ true
apart_from f g [] le e = refl
apart_from f g (h ∷ hs) le e = let p = parts g h hs e in let b = p.begins in joined f h hs (record { begins = omega arith; some = p.some; ends = p.ends; others = p.others })

-- no word before the first hole is free
pub none_before : (from : ℕ) (hs : List Hole) (w : ℕ) → is_apart from hs ≡ true → w < from → is_free hs w ≡ false
none_before from [] w e lt = refl
none_before from (h ∷ hs) w e lt =
    let p = parts from h hs e in
    let b = p.begins in
    let first = not_within h.first h.len w (inl (omega arith)) in
    let others = none_before (h.first + h.len + 1) hs w p.others (omega arith) in
    λ i. first i || others i

-- Taking

pub fit_from : (from need : ℕ) (hs : List Hole) (a : ℕ) → is_apart from hs ≡ true → first_fit need hs ≡ Some a → from ≤ a
fit_from from need [] a e fit = absurd (none_some a fit)
fit_from from need (h ∷ hs) a e fit =
    let p = parts from h hs e in
    let b = p.begins in
    ⊎_elim
    (λ t. let q : h.first ≡ a = some_same h.first a ((λ i. if sym t.0 i then Some h.first else first_fit need hs) ∙ fit) in omega arith)
    (λ t. let k = fit_from (h.first + h.len + 1) need hs a p.others ((λ i. if sym t.0 i then Some h.first else first_fit need hs) ∙ fit) in omega arith)
    (leb_tells need h.len)

rest_apart : (from need : ℕ) (h : Hole) (hs : List Hole) → Parts from h hs → need ≤ h.len → is_apart from (rest_of need h ++ hs) ≡ true
rest_apart from need h hs p le =
    let b = p.begins in
    let e = p.ends in
    ⊎_elim
    (λ t. (λ i. is_apart from ((if t.0 i then [] else range (h.first + need) (h.len - need) ∷ []) ++ hs)) ∙ apart_from from (h.first + h.len + 1) hs (omega arith) p.others)
    (λ t. let ne = t.1 in (λ i. is_apart from ((if t.0 i then [] else range (h.first + need) (h.len - need) ∷ []) ++ hs))
    ∙ joined from (range (h.first + need) (h.len - need)) hs (record {
      begins = omega arith;
      some = omega arith;
      ends = omega arith;
      others = let n : h.first + need + (h.len - need) + 1 ≡ h.first + h.len + 1 = omega arith in ap (λ x. is_apart x hs) n ∙ p.others;
    }))
    (eqb_tells h.len need)

pub taken_apart : (from need : ℕ) (hs : List Hole) → is_apart from hs ≡ true → is_apart from (without_fit need hs) ≡ true
taken_apart from need [] e = refl
taken_apart from need (h ∷ hs) e =
    let p = parts from h hs e in
    ⊎_elim
    (λ t. (λ i. is_apart from (if t.0 i then rest_of need h ++ hs else h ∷ without_fit need hs)) ∙ rest_apart from need h hs p t.1)
    (λ t. (λ i. is_apart from (if t.0 i then rest_of need h ++ hs else h ∷ without_fit need hs))
    ∙ joined from h (without_fit need hs) (record { begins = p.begins; some = p.some; ends = p.ends; others = taken_apart (h.first + h.len + 1) need hs p.others }))
    (leb_tells need h.len)

rest_free : (need : ℕ) (h : Hole) (hs : List Hole) (w : ℕ) → need ≤ h.len → is_free (h ∷ hs) w ≡ (is_within h.first need w || is_free (rest_of need h ++ hs) w)
rest_free need h hs w le =
    ⊎_elim
    (λ t. ap (λ n. is_within h.first n w || is_free hs w) t.1 ∙ (λ i. is_within h.first need w || is_free ((if sym t.0 i then [] else range (h.first + need) (h.len - need) ∷ []) ++ hs) w))
    (λ t. let n : h.len ≡ need + (h.len - need) = omega arith in
    ap (λ x. is_within h.first x w || is_free hs w) n ∙ ap (λ b. b || is_free hs w) (within_split h.first need (h.len - need) w)
    ∙ or_three (is_within h.first need w) (is_within (h.first + need) (h.len - need) w) (is_free hs w)
    ∙ (λ i. is_within h.first need w || is_free ((if sym t.0 i then [] else range (h.first + need) (h.len - need) ∷ []) ++ hs) w))
    (eqb_tells h.len need)

pub taken_free : (from need : ℕ) (hs : List Hole) (a w : ℕ) → 0 < need → is_apart from hs ≡ true → first_fit need hs ≡ Some a → is_free hs w ≡ (is_within a need w || is_free (without_fit need hs) w)
taken_free from need [] a w some e fit = absurd (none_some a fit)
taken_free from need (h ∷ hs) a w some e fit =
    let p = parts from h hs e in
    ⊎_elim
    (λ t. let q : h.first ≡ a = some_same h.first a ((λ i. if sym t.0 i then Some h.first else first_fit need hs) ∙ fit) in
    rest_free need h hs w t.1 ∙ ap (λ x. is_within x need w || is_free (rest_of need h ++ hs) w) q
    ∙ (λ i. is_within a need w || is_free (if sym t.0 i then rest_of need h ++ hs else h ∷ without_fit need hs) w))
    (λ t. let k = taken_free (h.first + h.len + 1) need hs a w some p.others ((λ i. if sym t.0 i then Some h.first else first_fit need hs) ∙ fit) in
    ap (λ b. is_within h.first h.len w || b) k ∙ or_swap (is_within h.first h.len w) (is_within a need w) (is_free (without_fit need hs) w)
    ∙ (λ i. is_within a need w || is_free (if sym t.0 i then rest_of need h ++ hs else h ∷ without_fit need hs) w))
    (leb_tells need h.len)

rest_busy : (need : ℕ) (h : Hole) (hs : List Hole) (w : ℕ) → need ≤ h.len → w < h.first + need → is_free hs w ≡ false → is_free (rest_of need h ++ hs) w ≡ false
rest_busy need h hs w le lt e =
    ⊎_elim
    (λ t. (λ i. is_free ((if t.0 i then [] else range (h.first + need) (h.len - need) ∷ []) ++ hs) w) ∙ e)
    (λ t. (λ i. is_free ((if t.0 i then [] else range (h.first + need) (h.len - need) ∷ []) ++ hs) w) ∙ (λ i. not_within (h.first + need) (h.len - need) w (inl lt) i || e i))
    (eqb_tells h.len need)

pub taken_busy : (from need : ℕ) (hs : List Hole) (a w : ℕ) → 0 < need → is_apart from hs ≡ true → first_fit need hs ≡ Some a → is_within a need w ≡ true → is_free (without_fit need hs) w ≡ false
taken_busy from need [] a w some e fit within = absurd (none_some a fit)
taken_busy from need (h ∷ hs) a w some e fit within =
    let p = parts from h hs e in
    let at = within_of a need w within in
    let lo = at.0 in
    let hi = at.1 in
    ⊎_elim
    (λ t. let le = t.1 in let q : h.first ≡ a = some_same h.first a ((λ i. if sym t.0 i then Some h.first else first_fit need hs) ∙ fit) in
    (λ i. is_free (if t.0 i then rest_of need h ++ hs else h ∷ without_fit need hs) w)
    ∙ rest_busy need h hs w le (omega arith) (none_before (h.first + h.len + 1) hs w p.others (omega arith)))
    (λ t. let there : first_fit need hs ≡ Some a = (λ i. if sym t.0 i then Some h.first else first_fit need hs) ∙ fit in
    let far = fit_from (h.first + h.len + 1) need hs a p.others there in
    (λ i. is_free (if t.0 i then rest_of need h ++ hs else h ∷ without_fit need hs) w)
    ∙ (λ i. not_within h.first h.len w (inr (omega arith)) i || taken_busy (h.first + h.len + 1) need hs a w some p.others there within i))
    (leb_tells need h.len)

-- Giving back

-- what a clear range says of the first hole
pub clear_parts : (a n : ℕ) (h : Hole) (hs : List Hole) → is_clear a n (h ∷ hs) ≡ true → ((a + n ≤ h.first) ⊎ (h.first + h.len ≤ a)) × (is_clear a n hs ≡ true)
clear_parts a n h hs e =
    let b = both (not (nat_lt h.first (a + n) && nat_lt a (h.first + h.len))) (is_clear a n hs) e in
    (grind (arith, leb_tells, b.0), b.1)

-- holes that begin after a clear range's front begin after its end
clear_from : (f a n : ℕ) (hs : List Hole) → a < f → 0 < n → is_apart f hs ≡ true → is_clear a n hs ≡ true → is_apart (a + n) hs ≡ true
clear_from f a n [] lt some e clear = refl
clear_from f a n (h ∷ hs) lt some e clear =
    let p = parts f h hs e in
    let b = p.begins in
    let s = p.some in
    let c = (clear_parts a n h hs clear).0 in
    joined (a + n) h hs (record { begins = ⊎_elim (λ (x : a + n ≤ h.first). x) (λ (x : h.first + h.len ≤ a). absurd (omega arith)) c; some = p.some; ends = p.ends; others = p.others })

ahead_apart : (from a n : ℕ) (hs : List Hole) → from ≤ a → 0 < n → a + n ≤ 2 ^ 63 → is_apart (a + n) hs ≡ true → is_apart from (ahead a n hs) ≡ true
ahead_apart from a n [] le some ends e = joined from (range a n) [] (record { begins = le; some = some; ends = ends; others = refl })
ahead_apart from a n (h ∷ hs) le some ends e =
    let p = parts (a + n) h hs e in
    let b = p.begins in
    let z = p.ends in
    ⊎_elim
    (λ t. let q = t.1 in (λ i. is_apart from (if t.0 i then range a (n + h.len) ∷ hs else range a n ∷ h ∷ hs))
    ∙ joined from (range a (n + h.len)) hs (record {
      begins = le;
      some = omega arith;
      ends = omega arith;
      others = let x : a + (n + h.len) + 1 ≡ h.first + h.len + 1 = omega arith in ap (λ y. is_apart y hs) x ∙ p.others;
    }))
    (λ t. let q = t.1 in (λ i. is_apart from (if t.0 i then range a (n + h.len) ∷ hs else range a n ∷ h ∷ hs))
    ∙ joined from (range a n) (h ∷ hs) (record {
      begins = le;
      some = some;
      ends = ends;
      others = joined (a + n + 1) h hs (record { begins = omega arith; some = p.some; ends = p.ends; others = p.others });
    }))
    (eqb_tells (a + n) h.first)

ahead_free : (a n : ℕ) (hs : List Hole) (w : ℕ) → is_free (ahead a n hs) w ≡ (is_within a n w || is_free hs w)
ahead_free a n [] w = refl
ahead_free a n (h ∷ hs) w =
    ⊎_elim
    (λ t. (λ i. is_free (if t.0 i then range a (n + h.len) ∷ hs else range a n ∷ h ∷ hs) w)
    ∙ ap (λ b. b || is_free hs w) (within_split a n h.len w ∙ ap (λ x. is_within a n w || is_within x h.len w) t.1)
    ∙ or_three (is_within a n w) (is_within h.first h.len w) (is_free hs w))
    (λ t i. is_free (if t.0 i then range a (n + h.len) ∷ hs else range a n ∷ h ∷ hs) w)
    (eqb_tells (a + n) h.first)

-- how a range is given back beside a hole: after it and apart, after it and touching, or before it
abbrev pub Given : ℕ → ℕ → Hole → List Hole → Type 0
Given a n h hs = ((h.first + h.len < a) × (with_range a n (h ∷ hs) ≡ h ∷ with_range a n hs))
    ⊎ (((h.first + h.len ≡ a) × (with_range a n (h ∷ hs) ≡ ahead h.first (h.len + n) hs))
    ⊎ ((a < h.first + h.len) × (with_range a n (h ∷ hs) ≡ ahead a n (h ∷ hs))))

pub given : (a n : ℕ) (h : Hole) (hs : List Hole) → Given a n h hs
given a n h hs =
    ⊎_elim
    (λ t. inl (t.1, λ i. if t.0 i then h ∷ with_range a n hs else (if h.first + h.len == a then ahead h.first (h.len + n) hs else ahead a n (h ∷ hs))))
    (λ t. let le = t.1 in ⊎_elim
    (λ u. inr (inl (u.1, λ i. if t.0 i then h ∷ with_range a n hs else (if u.0 i then ahead h.first (h.len + n) hs else ahead a n (h ∷ hs)))))
    (λ u. let ne = u.1 in inr (inr (omega arith, λ i. if t.0 i then h ∷ with_range a n hs else (if u.0 i then ahead h.first (h.len + n) hs else ahead a n (h ∷ hs)))))
    (eqb_tells (h.first + h.len) a))
    (leb_tells (suc (h.first + h.len)) a)

pub given_apart : (from a n : ℕ) (hs : List Hole) → from ≤ a → 0 < n → a + n ≤ 2 ^ 63 → is_apart from hs ≡ true → is_clear a n hs ≡ true → is_apart from (with_range a n hs) ≡ true
given_apart from a n [] le some ends e clear = joined from (range a n) [] (record { begins = le; some = some; ends = ends; others = refl })
given_apart from a n (h ∷ hs) le some ends e clear =
    let p = parts from h hs e in
    let b = p.begins in
    let c = clear_parts a n h hs clear in
    ⊎_elim
    (λ t. let lt = t.0 in ap (is_apart from) t.1 ∙ joined from h (with_range a n hs) (record { begins = p.begins; some = p.some; ends = p.ends; others = given_apart (h.first + h.len + 1) a n hs (omega arith) some ends p.others c.1 }))
    (λ u. ⊎_elim
    (λ t. let q = t.0 in let x : h.first + (h.len + n) ≡ a + n = omega arith in ap (is_apart from) t.1
    ∙ ahead_apart from h.first (h.len + n) hs p.begins (omega arith) (omega arith) (ap (λ y. is_apart y hs) x ∙ clear_from (h.first + h.len + 1) a n hs (omega arith) some p.others c.1))
    (λ t. let lt = t.0 in ap (is_apart from) t.1
    ∙ ahead_apart from a n (h ∷ hs) le some ends (joined (a + n) h hs (record { begins = ⊎_elim (λ (x : a + n ≤ h.first). x) (λ (x : h.first + h.len ≤ a). absurd (omega arith)) c.0; some = p.some; ends = p.ends; others = p.others })))
    u)
    (given a n h hs)

pub given_free : (from a n : ℕ) (hs : List Hole) (w : ℕ) → 0 < n → is_apart from hs ≡ true → is_clear a n hs ≡ true → is_free (with_range a n hs) w ≡ (is_within a n w || is_free hs w)
given_free from a n [] w some e clear = refl
given_free from a n (h ∷ hs) w some e clear =
    let p = parts from h hs e in
    let c = clear_parts a n h hs clear in
    ⊎_elim
    (λ t. ap (λ x. is_free x w) t.1 ∙ ap (λ b. is_within h.first h.len w || b) (given_free (h.first + h.len + 1) a n hs w some p.others c.1) ∙ or_swap (is_within h.first h.len w) (is_within a n w) (is_free hs w))
    (λ u. ⊎_elim
    (λ t. ap (λ x. is_free x w) t.1 ∙ ahead_free h.first (h.len + n) hs w ∙ ap (λ b. b || is_free hs w) (within_split h.first h.len n w ∙ ap (λ x. is_within h.first h.len w || is_within x n w) t.0)
    ∙ or_three (is_within h.first h.len w) (is_within a n w) (is_free hs w) ∙ or_swap (is_within h.first h.len w) (is_within a n w) (is_free hs w))
    (λ t. ap (λ x. is_free x w) t.1 ∙ ahead_free a n (h ∷ hs) w)
    u)
    (given a n h hs)

-- Vectors

pub ends_at : (from : ℕ) (hs : List Hole) (i : ℕ) → is_apart from hs ≡ true → i < length hs → (from < end_at hs i) × (end_at hs i ≤ 2 ^ 63)
ends_at from [] i e lt = absurd (omega arith)
ends_at from (h ∷ hs) zero e lt = let p = parts from h hs e in let b = p.begins in let s = p.some in (omega arith, p.ends)
ends_at from (h ∷ hs) (suc i) e lt = let p = parts from h hs e in let b = p.begins in let k = ends_at (h.first + h.len + 1) hs i p.others (omega arith) in let k0 = k.0 in (omega arith, k.1)

module _ (a n : ℕ) where
  -- the holes before stay
  pub skip : (h : Hole) (hs : List Hole) → h.first + h.len < a → with_range a n (h ∷ hs) ≡ h ∷ with_range a n hs
  skip h hs lt = ⊎_elim (λ t. t.1) (λ u. ⊎_elim (λ t. let q = t.0 in absurd (omega arith)) (λ t. let q = t.0 in absurd (omega arith)) u) (given a n h hs)

  pub touching : (h : Hole) (hs : List Hole) → h.first + h.len ≡ a → with_range a n (h ∷ hs) ≡ ahead h.first (h.len + n) hs
  touching h hs e = ⊎_elim (λ t. let q = t.0 in absurd (omega arith)) (λ u. ⊎_elim (λ t. t.1) (λ t. let q = t.0 in absurd (omega arith)) u) (given a n h hs)

  pub beyond : (h : Hole) (hs : List Hole) → a < h.first + h.len → with_range a n (h ∷ hs) ≡ ahead a n (h ∷ hs)
  beyond h hs lt = ⊎_elim (λ t. let q = t.0 in absurd (omega arith)) (λ u. ⊎_elim (λ t. let q = t.0 in absurd (omega arith)) (λ t. t.1) u) (given a n h hs)

  pub meets : (x m : ℕ) (h : Hole) (hs : List Hole) → x + m ≡ h.first → ahead x m (h ∷ hs) ≡ range x (m + h.len) ∷ hs
  meets x m h hs e = ⊎_elim (λ t i. if t.0 i then range x (m + h.len) ∷ hs else range x m ∷ h ∷ hs) (λ t. absurd (t.1 e)) (eqb_tells (x + m) h.first)

  pub misses : (x m : ℕ) (h : Hole) (hs : List Hole) → x + m ≢ h.first → ahead x m (h ∷ hs) ≡ range x m ∷ h ∷ hs
  misses x m h hs ne = ⊎_elim (λ t. absurd (ne t.1)) (λ t i. if t.0 i then range x (m + h.len) ∷ hs else range x m ∷ h ∷ hs) (eqb_tells (x + m) h.first)

  -- it touches the hole at i, and not the next
  pub left_alone : (hs : List Hole) (i : ℕ) → SkipTo a hs i → i < length hs → end_at hs i ≡ a → (suc i < length hs → a + n ≢ (hole_at hs (suc i)).first)
      → set hs i (range (hole_at hs i).first ((hole_at hs i).len + n)) ≡ with_range a n hs
  left_alone [] i before lt e far = absurd (omega arith)
  left_alone (h ∷ []) zero before lt e far = sym (touching h [] e)
  left_alone (h ∷ k ∷ hs) zero before lt e far = sym (touching h (k ∷ hs) e ∙ misses h.first (h.len + n) k hs (λ q. far (omega arith) (omega arith)))
  left_alone (h ∷ hs) (suc i) before lt e far = ap (λ x. h ∷ x) (left_alone hs i (λ j l. before (suc j) (omega arith)) (omega arith) e (λ l. far (omega arith))) ∙ sym (skip h hs (before 0 (omega arith)))

  -- it touches the holes at i and i + 1
  pub left_right : (hs : List Hole) (i m : ℕ) → SkipTo a hs i → suc i < length hs → end_at hs i ≡ a → a + n ≡ (hole_at hs (suc i)).first → m ≡ n + (hole_at hs (suc i)).len
      → set (remove hs (suc i)) i (range (hole_at hs i).first ((hole_at hs i).len + m)) ≡ with_range a n hs
  left_right [] i m before lt e near is = absurd (omega arith)
  left_right (h ∷ []) zero m before lt e near is = absurd (omega arith)
  left_right (h ∷ k ∷ hs) zero m before lt e near is = let x : h.len + m ≡ h.len + n + k.len = omega arith in ap (λ y. range h.first y ∷ hs) x ∙ sym (touching h (k ∷ hs) e ∙ meets h.first (h.len + n) k hs (omega arith))
  left_right (h ∷ hs) (suc i) m before lt e near is = ap (λ x. h ∷ x) (left_right hs i m (λ j l. before (suc j) (omega arith)) (omega arith) e near is) ∙ sym (skip h hs (before 0 (omega arith)))

  -- it touches the hole at i, which is behind it
  pub right_alone : (hs : List Hole) (i : ℕ) → SkipTo a hs i → i < length hs → a < end_at hs i → a + n ≡ (hole_at hs i).first → set hs i (range a (n + (hole_at hs i).len)) ≡ with_range a n hs
  right_alone [] i before lt e near = absurd (omega arith)
  right_alone (h ∷ hs) zero before lt e near = sym (beyond h hs e ∙ meets a n h hs near)
  right_alone (h ∷ hs) (suc i) before lt e near = ap (λ x. h ∷ x) (right_alone hs i (λ j l. before (suc j) (omega arith)) (omega arith) e near) ∙ sym (skip h hs (before 0 (omega arith)))

  -- it touches none
  pub alone : (hs : List Hole) (i : ℕ) → SkipTo a hs i → i ≤ length hs → (i < length hs → (a < end_at hs i) × (a + n ≢ (hole_at hs i).first)) → insert hs i (range a n) ≡ with_range a n hs
  alone [] zero before le far = refl
  alone [] (suc i) before le far = absurd (omega arith)
  alone (h ∷ hs) zero before le far = let f = far (omega arith) in sym (beyond h hs f.0 ∙ misses a n h hs f.1)
  alone (h ∷ hs) (suc i) before le far = ap (λ x. h ∷ x) (alone hs i (λ j l. before (suc j) (omega arith)) (omega arith) (λ l. far (omega arith))) ∙ sym (skip h hs (before 0 (omega arith)))

-- The hole that is found

pub not_below : (m n : ℕ) → cond (ltb m n) (Some m) None ≡ None → n ≤ m
not_below m n h = by (ltb m n) refl h
  where
    by : (b : Bool) → ltb m n ≡ b → cond b (Some m) None ≡ None → n ≤ m
    by true e g = absurd (cc)
    by false e g = ltb-false m n e

module _ (need : ℕ) (d : Hole) where
  abbrev pub Before : List Hole → ℕ → Type 0
  Before hs i = (k : ℕ) → k < i → nat_le need (get_or hs k d).len ≡ false

  pub found_at : (hs : List Hole) (i : ℕ) → i < length hs → nat_le need (get_or hs i d).len ≡ true → Before hs i → first_fit need hs ≡ Some (get_or hs i d).first
  found_at [] i lt here before = absurd (omega arith)
  found_at (h ∷ hs) zero lt here before = (λ j. if here j then Some h.first else first_fit need hs)
  found_at (h ∷ hs) (suc i) lt here before = (λ j. if before 0 (omega arith) j then Some h.first else first_fit need hs) ∙ found_at hs i (omega arith) here (λ k l. before (suc k) (omega arith))

  pub whole_gone : (hs : List Hole) (i : ℕ) → i < length hs → nat_le need (get_or hs i d).len ≡ true → Before hs i → (get_or hs i d).len ≡ need → remove hs i ≡ without_fit need hs
  whole_gone [] i lt here before e = absurd (omega arith)
  whole_gone (h ∷ hs) zero lt here before e = sym ((λ j. if here j then rest_of need h ++ hs else h ∷ without_fit need hs)
      ∙ ⊎_elim (λ t j. (if t.0 j then [] else range (h.first + need) (h.len - need) ∷ []) ++ hs) (λ t. absurd (t.1 e)) (eqb_tells h.len need))
  whole_gone (h ∷ hs) (suc i) lt here before e = ap (λ (x : List Hole). h ∷ x) (whole_gone hs i (omega arith) here (λ k l. before (suc k) (omega arith)) e)
      ∙ sym (λ j. if before 0 (omega arith) j then rest_of need h ++ hs else h ∷ without_fit need hs)

  pub front_gone : (hs : List Hole) (i : ℕ) → i < length hs → nat_le need (get_or hs i d).len ≡ true → Before hs i → (get_or hs i d).len ≢ need
      → set hs i (range ((get_or hs i d).first + need) ((get_or hs i d).len - need)) ≡ without_fit need hs
  front_gone [] i lt here before ne = absurd (omega arith)
  front_gone (h ∷ hs) zero lt here before ne = sym ((λ j. if here j then rest_of need h ++ hs else h ∷ without_fit need hs)
      ∙ ⊎_elim (λ t. absurd (ne t.1)) (λ t j. (if t.0 j then [] else range (h.first + need) (h.len - need) ∷ []) ++ hs) (eqb_tells h.len need))
  front_gone (h ∷ hs) (suc i) lt here before ne = ap (λ (x : List Hole). h ∷ x) (front_gone hs i (omega arith) here (λ k l. before (suc k) (omega arith)) ne)
      ∙ sym (λ j. if before 0 (omega arith) j then rest_of need h ++ hs else h ∷ without_fit need hs)

  pub none_at : (hs : List Hole) → ((k : ℕ) → k < length hs → nat_le need (get_or hs k d).len ≡ false) → (first_fit need hs ≡ None) × (without_fit need hs ≡ hs)
  none_at [] all = (refl, refl)
  none_at (h ∷ hs) all =
      let r = none_at hs (λ k l. all (suc k) (omega arith)) in
      let no = all 0 (omega arith) in
      ((λ j. if no j then Some h.first else first_fit need hs) ∙ r.0, (λ j. if no j then rest_of need h ++ hs else h ∷ without_fit need hs) ∙ ap (λ (x : List Hole). h ∷ x) r.1)

-- what is found is there, long enough, and the first
pub found_parts : (need : ℕ) (hs : List Hole) (i : ℕ) (d : Hole) → position (λ (h : Hole). nat_le need h.len) hs ≡ Some i → (i < length hs) × (nat_le need (get_or hs i d).len ≡ true) × Before need d hs i
found_parts need hs i d e = position-Some (λ (h : Hole). nat_le need h.len) hs i d e

pub missing : (need : ℕ) (hs : List Hole) → position (λ (h : Hole). nat_le need h.len) hs ≡ None → (first_fit need hs ≡ None) × (without_fit need hs ≡ hs)
missing need hs e =
    let le = not_below (position_or_len (λ (h : Hole). nat_le need h.len) hs) (length hs) e in
    none_at need (range 0 0) hs (λ k lt. fails_before_first (λ (h : Hole). nat_le need h.len) hs k (range 0 0) (omega arith))

-- if none is found, all are shorter
pub none_largest : (need : ℕ) (hs : List Hole) → 0 < need → first_fit need hs ≡ None → largest hs < need
none_largest need [] some e = some
none_largest need (h ∷ hs) some e =
    ⊎_elim
    (λ t. absurd (none_some h.first (sym e ∙ (λ j. if t.0 j then Some h.first else first_fit need hs))))
    (λ t. let lt = t.1 in let k = none_largest need hs some (sym (λ j. if t.0 j then Some h.first else first_fit need hs) ∙ e) in omega arith)
    (leb_tells need h.len)

-- and where some is found, not all are
pub some_largest : (need : ℕ) (hs : List Hole) (a : ℕ) → first_fit need hs ≡ Some a → need ≤ largest hs
some_largest need [] a e = absurd (none_some a e)
some_largest need (h ∷ hs) a e =
    ⊎_elim
    (λ t. let le = t.1 in omega arith)
    (λ t. let k = some_largest need hs a (sym (λ j. if t.0 j then Some h.first else first_fit need hs) ∙ e) in omega arith)
    (leb_tells need h.len)

longest_next : (hs : List Hole) (i : ℕ) (d : Hole) → i < length hs → largest (take (suc i) hs) ≡ max (largest (take i hs)) (get_or hs i d).len
longest_next [] i d lt = absurd (omega arith)
longest_next (h ∷ hs) zero d lt = omega arith
longest_next (h ∷ hs) (suc i) d lt = let k = longest_next hs i d (omega arith) in omega arith

pub largest_next : (hs : List Hole) (i : ℕ) (d : Hole) → i < length hs → largest (take (i + 1) hs) ≡ max (largest (take i hs)) (get_or hs i d).len
largest_next hs i d lt = let e : i + 1 ≡ suc i = omega arith in ap (λ (k : ℕ). largest (take k hs)) e ∙ longest_next hs i d lt

-- Answers

pub cut_enough : (need : ℕ) (hs : List Hole) (i : ℕ) (d : Hole) → position (λ (h : Hole). nat_le need h.len) hs ≡ Some i → d ≡ get_or hs i d → need ≤ d.len
cut_enough need hs i d e is = let f = found_parts need hs i d e in le_of need d.len (ap (λ (h : Hole). nat_le need h.len) is ∙ f.1)

pub cut_found : (need : ℕ) (hs : List Hole) (i : ℕ) (d : Hole) → position (λ (h : Hole). nat_le need h.len) hs ≡ Some i → d ≡ get_or hs i d → first_fit need hs ≡ Some d.first
cut_found need hs i d e is = let f = found_parts need hs i d e in found_at need d hs i f.0 f.1 f.2 ∙ ap (λ (h : Hole). Some h.first) (sym is)

pub cut_whole : (need : ℕ) (hs : List Hole) (i : ℕ) (d : Hole) → position (λ (h : Hole). nat_le need h.len) hs ≡ Some i → d ≡ get_or hs i d → d.len ≡ need → remove hs i ≡ without_fit need hs
cut_whole need hs i d e is n = let f = found_parts need hs i d e in whole_gone need d hs i f.0 f.1 f.2 (ap (λ (h : Hole). h.len) (sym is) ∙ n)

pub cut_front : (need : ℕ) (hs : List Hole) (i : ℕ) (d : Hole) → position (λ (h : Hole). nat_le need h.len) hs ≡ Some i → d ≡ get_or hs i d → d.len ≢ need → set hs i (range (d.first + need) (d.len - need)) ≡ without_fit need hs
cut_front need hs i d e is n = let f = found_parts need hs i d e in
    ap (λ (h : Hole). set hs i (range (h.first + need) (h.len - need))) is ∙ front_gone need d hs i f.0 f.1 f.2 (λ q. n (ap (λ (h : Hole). h.len) is ∙ q))

pub cut_ends : (need : ℕ) (hs : List Hole) (i : ℕ) (d : Hole) → position (λ (h : Hole). nat_le need h.len) hs ≡ Some i → d ≡ get_or hs i d → is_apart 0 hs ≡ true → d.first + d.len ≤ 2 ^ 63
cut_ends need hs i d e is apart = let f = found_parts need hs i d e in let k = (ends_at 0 hs i apart f.0).1 in
    let q : (hole_at hs i).first + (hole_at hs i).len ≡ d.first + d.len = ap (λ (h : Hole). h.first + h.len) (in_range hs i (range 0 0) d f.0 ∙ sym is) in omega arith
  where
    in_range : (xs : List Hole) (j : ℕ) (x y : Hole) → j < length xs → get_or xs j x ≡ get_or xs j y
    in_range [] j x y lt = absurd (omega arith)
    in_range (z ∷ xs) zero x y lt = refl
    in_range (z ∷ xs) (suc j) x y lt = in_range xs j x y (omega arith)

-- Sides

pub given_both : (a n : ℕ) (hs : List Hole) (i : ℕ) → SkipTo a hs i → IsSide hs i a n Both
    → set (remove hs (i + 1)) i (range (hole_at hs i).first ((hole_at hs i).len + (n + (hole_at hs (i + 1)).len))) ≡ with_range a n hs
given_both a n hs i before h =
    let e : i + 1 ≡ suc i = omega arith in
    let lt = h.0 in
    ap (λ (k : ℕ). set (remove hs k) i (range (hole_at hs i).first ((hole_at hs i).len + (n + (hole_at hs k).len)))) e
    ∙ left_right a n hs i (n + (hole_at hs (suc i)).len) before (omega arith) h.1 (sym h.2 ∙ ap (λ (k : ℕ). (hole_at hs k).first) e) refl

pub given_left : (a n : ℕ) (hs : List Hole) (i : ℕ) → SkipTo a hs i → IsSide hs i a n Left → set hs i (range (hole_at hs i).first ((hole_at hs i).len + n)) ≡ with_range a n hs
given_left a n hs i before h =
    let e : i + 1 ≡ suc i = omega arith in
    left_alone a n hs i before h.0 h.1 (λ lt q. h.2 (omega arith) (ap (λ (k : ℕ). (hole_at hs k).first) e ∙ sym q))

pub given_right : (a n : ℕ) (hs : List Hole) (i : ℕ) → SkipTo a hs i → a ≤ end_at hs i → IsSide hs i a n Right → set hs i (range a (n + (hole_at hs i).len)) ≡ with_range a n hs
given_right a n hs i before le h = let ne = h.1 in right_alone a n hs i before h.0 (omega arith) (sym h.2)

pub given_alone : (a n : ℕ) (hs : List Hole) (i : ℕ) → SkipTo a hs i → i ≤ length hs → (i < length hs → a ≤ end_at hs i) → IsSide hs i a n Neither → insert hs i (range a n) ≡ with_range a n hs
given_alone a n hs i before le beyond h = alone a n hs i before le (λ lt. let t = h lt in let ne = t.0 in let b = beyond lt in (omega arith, λ q. t.1 (sym q)))

pub hole_is : (hs : List Hole) (i : ℕ) (d : Hole) → i < length hs → d ≡ get_or hs i d → hole_at hs i ≡ d
hole_is hs i d lt e = same hs i lt ∙ sym e
  where
    same : (xs : List Hole) (j : ℕ) → j < length xs → hole_at xs j ≡ get_or xs j d
    same [] j lt = absurd (omega arith)
    same (z ∷ xs) zero lt = refl
    same (z ∷ xs) (suc j) lt = same xs j (omega arith)

pub ends_of : (hs : List Hole) (i : ℕ) (d : Hole) → is_apart 0 hs ≡ true → i < length hs → d ≡ get_or hs i d → d.first + d.len ≤ 2 ^ 63
ends_of hs i d apart lt e = let k = (ends_at 0 hs i apart lt).1 in let q = ap (λ (h : Hole). h.first + h.len) (hole_is hs i d lt e) in omega arith

-- ends rise from hole to hole
ends_rise : (from : ℕ) (hs : List Hole) (k m : ℕ) → is_apart from hs ≡ true → k ≤ m → m < length hs → end_at hs k ≤ end_at hs m
ends_rise from [] k m e le lt = absurd (omega arith)
ends_rise from (h ∷ hs) zero zero e le lt = omega arith
ends_rise from (h ∷ hs) zero (suc m) e le lt = let p = parts from h hs e in let q = (ends_at (h.first + h.len + 1) hs m p.others (omega arith)).0 in omega arith
ends_rise from (h ∷ hs) (suc k) zero e le lt = absurd (omega arith)
ends_rise from (h ∷ hs) (suc k) (suc m) e le lt = let p = parts from h hs e in ends_rise (h.first + h.len + 1) hs k m p.others (omega arith) (omega arith)

pub skip_more : (a : ℕ) (hs : List Hole) (m : ℕ) → is_apart 0 hs ≡ true → m < length hs → end_at hs m < a → SkipTo a hs (m + 1)
skip_more a hs m e lt less k below = let r = ends_rise 0 hs k m e (omega arith) lt in omega arith
