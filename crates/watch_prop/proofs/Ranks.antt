-- Ranks, and the two literals that are best to watch.
use Rattle.std.proofs.Common.{◌≡◌, ◌≢◌, ℕ, zero, suc, ◌<◌, ◌≤◌, ◌+◌, ◌⊎◌, nat_lt, if◌then◌else◌, Bool, true, false, not, List, [], ◌∷◌, length, Option, Some, None, unwrap_or, sym, ap, subst, ◌∙◌, inl, inr, arith}
use Rattle.std.specs.Prelude.{slice_get}
use Rattle.std.specs.Option.{option_map}
use Rattle.std.proofs.lemmas.Bool.{cases_Bool, cases_lt, or_left, or_right, or_cases, and_parts, false≢true}
use Rattle.std.proofs.lemmas.Bool.Decides.{nat_tests}
use Rattle.sat_words.specs.Literal.{Literal, opposite, same}
use Rattle.sat_words.specs.Clause.{has, distinct_lits}
use Rattle.sat_words.proofs.Members.{same-true, same-refl}
use Rattle.ring_trail.specs.declared.step.TrailStep.{TrailStep}
use Rattle.ring_trail.specs.TrailData.{TrailData, HasGrown, IsTrail, IsFalseOn, IsFalseClause, lit_at, level_at, level_of}
use Rattle.ring_trail.specs.Reasoned.{ForcesAt}
use Rattle.ring_trail.specs.Closed.{TrueWithin, HasTrue, IsClosedClause}
use Rattle.ring_trail.proofs.Shape.{step_at_place}
use Rattle.watch_prop.specs.declared.choice.Best.{Best}
use Rattle.watch_prop.specs.Watched.{IsGuarded}
use Rattle.watch_prop.specs.Visiting.{NotFalse}
use Rattle.watch_prop.specs.Choice.{IsFalseAt, IsRank, RanksLow, better_of, first_two, StandsAmong, IsBest}
use Rattle.watch_prop.proofs.ListsLemmas.{cases_eq}
use Rattle.watch_prop.proofs.Growing.{step_grown, HasTrue-grow, IsGuarded-grow, IsGuarded-open, TrueWithin-higher}

lt_true : (m n : ℕ) → nat_lt m n ≡ true → m < n
lt_true m n e = grind (arith, nat_tests)

lt_false : (m n : ℕ) → nat_lt m n ≡ false → n ≤ m
lt_false m n e = grind (arith, nat_tests)

-- Members and their places

pub has_at : (c : List Literal) (k : ℕ) (l : Literal) → slice_get c k ≡ Some l → has c l ≡ true
has_at [] k l e = cc
has_at (x ∷ c) zero l e = let is : x ≡ l = cc in or_left (same l x) (has c l) (ap (same l) is ∙ same-refl l)
has_at (x ∷ c) (suc k) l e = or_right (same l x) (has c l) (has_at c k l e)

pub at_has : (c : List Literal) (l : Literal) → has c l ≡ true → (k : ℕ) × (k < length c) × (slice_get c k ≡ Some l)
at_has [] l h = absurd (false≢true h)
at_has (x ∷ c) l h =
    elim (or_cases (same l x) (has c l) h) as (λ _. (k : ℕ) × (k < length (x ∷ c)) × (slice_get (x ∷ c) k ≡ Some l)) [
      | inl e ↦ (0, omega arith, ap Some (sym (same-true l x e)))
      | inr m ↦ let t = at_has c l m in (suc t.0, omega (arith, t.1), t.2)
    ]

not_true : (b : Bool) → not b ≡ true → b ≡ true → ⊥
not_true true e f = false≢true e
not_true false e f = false≢true f

-- a literal of a clause without repeats stands at one place
apart_places : (c : List Literal) (i j : ℕ) (l : Literal) → distinct_lits c ≡ true → i < j → slice_get c i ≡ Some l → slice_get c j ≡ Some l → ⊥
apart_places [] i j l d lt e f = (let z : None ≡ Some l = e in cc)
apart_places (x ∷ c) i zero l d lt e f = omega arith
apart_places (x ∷ c) zero (suc j) l d lt e f =
    let is : x ≡ l = (let z : Some x ≡ Some l = e in cc) in
    not_true (has c x) (and_parts (not (has c x)) (distinct_lits c) d).0 (ap (has c) is ∙ has_at c j l f)
apart_places (x ∷ c) (suc i) (suc j) l d lt e f = apart_places c i j l (and_parts (not (has c x)) (distinct_lits c) d).1 (omega arith) e f

among_ne : (c : List Literal) (n : ℕ) (k l : Literal) → distinct_lits c ≡ true → StandsAmong c n k → slice_get c n ≡ Some l → k ≢ l
among_ne c n k l d a e q = apart_places c a.place n l d a.before (a.there ∙ ap Some q) e

among_more : (c : List Literal) (n : ℕ) (k : Literal) → StandsAmong c n k → StandsAmong c (n + 1) k
among_more c n k a = record { place = a.place; before = omega (arith, a.before); there = a.there }

among_last : (c : List Literal) (n : ℕ) (k : Literal) → slice_get c n ≡ Some k → StandsAmong c (n + 1) k
among_last c n k e = record { place = n; before = omega arith; there = e }

pub among_has : (c : List Literal) (n : ℕ) (k : Literal) → StandsAmong c n k → has c k ≡ true
among_has c n k a = has_at c a.place k a.there

-- Ranks

pub same_there : (c : List Literal) (k n : ℕ) (l m : Literal) → k ≡ n → slice_get c k ≡ Some l → slice_get c n ≡ Some m → l ≡ m
same_there c k n l m q e f = (let z : Some l ≡ Some m = sym e ∙ ap (slice_get c) q ∙ f in cc)

-- a false literal ranks by the level of its variable
pub rank_of_false : (t : TrailData) (l : Literal) (r : ℕ) → IsTrail t → IsFalseOn t.steps l → r ≡ unwrap_or (level_of t.steps l.var) 0 → IsRank t l r
rank_of_false t l r trail f e =
    let step = step_at_place t l.var f.place trail (record { in_range = f.before; var = ap (λ (k : Literal). k.var) f.false_there }) in
    inr (record {
      place = f.place;
      in_range = f.before;
      false_there = f.false_there;
      level = sym (e ∙ ap (λ (o : Option TrailStep). unwrap_or (option_map (λ (s : TrailStep). s.level) o) 0) step);
    })

ranks_low : (t : TrailData) (l m : Literal) (r n : ℕ) → l ≡ m → IsRank t m r → r ≤ n → RanksLow t l n
ranks_low t l m r n q h le = record { rank = r; is_rank = subst (λ (k : Literal). IsRank t k r) (sym q) h; low = le }

lower : (t : TrailData) (l : Literal) (m n : ℕ) → m ≤ n → RanksLow t l m → RanksLow t l n
lower t l m n le h = record { rank = h.rank; is_rank = h.is_rank; low = omega (arith, h.low) }

abbrev second_of : Best → Literal → ℕ → Best
second_of b l r = if nat_lt b.low r then record { first = b.first; second = l; high = b.high; low = r } else b

-- one literal more
pub IsBest-step : (t : TrailData) (c : List Literal) (n : ℕ) (b : Best) (l : Literal) (r : ℕ) → distinct_lits c ≡ true → slice_get c n ≡ Some l → IsRank t l r → IsBest t c n b → IsBest t c (n + 1) (better_of b l r)
IsBest-step t c n b l r d e is h =
    elim (cases_Bool (nat_lt b.high r)) as (λ _. IsBest t c (n + 1) (better_of b l r)) [
      | inl up ↦ rw up record {
        first_in = among_last c n l e;
        second_in = among_more c n b.first h.first_in;
        apart = λ q. among_ne c n b.first l d h.first_in e (sym q);
        high_is = is;
        low_is = h.high_is;
        order = (let q = lt_true b.high r up in omega arith);
        rest = λ k m lt f. elim (cases_eq k n) as (λ _. (m ≡ l) ⊎ RanksLow t m b.high) [
          | inl q ↦ inl (same_there c k n m l q f e)
          | inr ne ↦ inr (elim (h.rest k m (omega arith) f) as (λ _. RanksLow t m b.high) [ inl q ↦ ranks_low t m b.first b.high b.high q h.high_is (omega arith) | inr q ↦ lower t m b.low b.high h.order q ])
        ];
      }
      | inr not_up ↦ rw not_up (elim (cases_Bool (nat_lt b.low r)) as (λ _. IsBest t c (n + 1) (second_of b l r)) [
        | inl up ↦ rw up record {
          first_in = among_more c n b.first h.first_in;
          second_in = among_last c n l e;
          apart = among_ne c n b.first l d h.first_in e;
          high_is = h.high_is;
          low_is = is;
          order = lt_false b.high r not_up;
          rest = λ k m lt f. elim (cases_eq k n) as (λ _. (m ≡ b.first) ⊎ RanksLow t m r) [
            | inl q ↦ inr (ranks_low t m l r r (same_there c k n m l q f e) is (omega arith))
            | inr ne ↦ elim (h.rest k m (omega arith) f) as (λ _. (m ≡ b.first) ⊎ RanksLow t m r) [ inl q ↦ inl q | inr q ↦ inr (let z = lt_true b.low r up in lower t m b.low r (omega arith) q) ]
          ];
        }
        | inr keep ↦ rw keep record {
          first_in = among_more c n b.first h.first_in;
          second_in = among_more c n b.second h.second_in;
          apart = h.apart;
          high_is = h.high_is;
          low_is = h.low_is;
          order = h.order;
          rest = λ k m lt f. elim (cases_eq k n) as (λ _. (m ≡ b.first) ⊎ RanksLow t m b.low) [
            | inl q ↦ inr (ranks_low t m l r b.low (same_there c k n m l q f e) is (lt_false b.low r keep))
            | inr ne ↦ h.rest k m (omega arith) f
          ];
        }
      ])
    ]

-- of two literals of a clause that has no others
IsBest-of : (t : TrailData) (c : List Literal) (i : ℕ) (k : Literal) (m j : ℕ) (l : Literal) (n : ℕ) → i < 2 → j < 2 → i ≢ j → slice_get c i ≡ Some k → slice_get c j ≡ Some l → k ≢ l → IsRank t k m → IsRank t l n → IsBest t c 2 (first_two k m l n)
IsBest-of t c i k m j l n small small' two e f ne is_k is_l =
    let kin : StandsAmong c 2 k = record { place = i; before = small; there = e } in
    let lin : StandsAmong c 2 l = record { place = j; before = small'; there = f } in
    elim (cases_Bool (nat_lt m n)) as (λ _. IsBest t c 2 (first_two k m l n)) [
      | inl up ↦ rw up record {
        first_in = lin;
        second_in = kin;
        apart = λ q. ne (sym q);
        high_is = is_l;
        low_is = is_k;
        order = (let q = lt_true m n up in omega arith);
        rest = λ p x lt g. elim (cases_eq p i) as (λ _. (x ≡ l) ⊎ RanksLow t x m) [
          | inl q ↦ inr (ranks_low t x k m m (same_there c p i x k q g e) is_k (omega arith))
          | inr q ↦ inl (same_there c p j x l (omega arith) g f)
        ];
      }
      | inr not_up ↦ rw not_up record {
        first_in = kin;
        second_in = lin;
        apart = ne;
        high_is = is_k;
        low_is = is_l;
        order = lt_false m n not_up;
        rest = λ p x lt g. elim (cases_eq p i) as (λ _. (x ≡ k) ⊎ RanksLow t x n) [
          | inl q ↦ inl (same_there c p i x k q g e)
          | inr q ↦ inr (ranks_low t x l n n (same_there c p j x l (omega arith) g f) is_l (omega arith))
        ];
      }
    ]

pub IsBest-start : (t : TrailData) (c : List Literal) (k : Literal) (m : ℕ) (l : Literal) (n : ℕ) → distinct_lits c ≡ true → slice_get c 0 ≡ Some k → slice_get c 1 ≡ Some l → IsRank t k m → IsRank t l n → IsBest t c 2 (first_two k m l n)
IsBest-start t c k m l n d e f is_k is_l = IsBest-of t c 0 k m 1 l n (omega arith) (omega arith) (omega arith) e f (λ q. apart_places c 0 1 l d (omega arith) (e ∙ ap Some q) f) is_k is_l

pub IsBest-pair : (t : TrailData) (c : List Literal) (k : Literal) (m : ℕ) (l : Literal) (n : ℕ) → length c ≡ 2 → has c k ≡ true → has c l ≡ true → k ≢ l → IsRank t k m → IsRank t l n → IsBest t c (length c) (first_two k m l n)
IsBest-pair t c k m l n two in_k in_l ne is_k is_l =
    let a = at_has c k in_k in
    let b = at_has c l in_l in
    let apart : a.0 ≢ b.0 = λ q. ne (same_there c a.0 b.0 k l q a.2 b.2) in
    subst (λ (z : ℕ). IsBest t c z (first_two k m l n)) (sym two)
    (IsBest-of t c a.0 k m b.0 l n (omega (arith, a.1, two)) (omega (arith, b.1, two)) apart a.2 b.2 ne is_k is_l)

-- a clause of two literals has no others
pub two_only : (c : List Literal) (k l x : Literal) → length c ≡ 2 → has c k ≡ true → has c l ≡ true → k ≢ l → has c x ≡ true → (x ≡ k) ⊎ (x ≡ l)
two_only c k l x two in_k in_l ne in_x =
    let a = at_has c k in_k in
    let b = at_has c l in_l in
    let p = at_has c x in_x in
    let apart : a.0 ≢ b.0 = λ q. ne (same_there c a.0 b.0 k l q a.2 b.2) in
    elim (cases_eq p.0 a.0) as (λ _. (x ≡ k) ⊎ (x ≡ l)) [
      | inl q ↦ inl (same_there c p.0 a.0 x k q p.2 a.2)
      | inr q ↦ inr (same_there c p.0 b.0 x l (omega (arith, p.1, a.1, b.1, two)) p.2 b.2)
    ]

-- a rank that is a level is that of a false literal
rank-false : (t : TrailData) (l : Literal) (r : ℕ) → IsRank t l r → r ≤ t.level → IsFalseAt t l r
rank-false t l r (inl o) le = absurd (let z = o.0 in omega arith)
rank-false t l r (inr f) le = f

-- a literal of the highest rank isn't false
pub rank-open : (t : TrailData) (l : Literal) (r : ℕ) → IsTrail t → IsRank t l r → t.level < r → NotFalse t.steps l
rank-open t l r trail (inl o) lt = o.1
rank-open t l r trail (inr f) lt = absurd (let z = trail.within f.place f.in_range in let y = f.level in omega arith)

false_on : (t : TrailData) (l : Literal) (r : ℕ) → IsFalseAt t l r → IsFalseOn t.steps l
false_on t l r f = record { place = f.place; before = f.in_range; false_there = f.false_there }

false_within : (t : TrailData) (l : Literal) (r k : ℕ) → r ≤ k → IsFalseAt t l r → TrueWithin t.steps k (opposite l)
false_within t l r k le f = record { place = f.place; in_range = f.in_range; true_there = f.false_there; level = (let z = f.level in omega arith) }

-- a literal of the clause is the first of the best, or ranks no higher than the second
pub best-rest : (t : TrailData) (c : List Literal) (b : Best) (l : Literal) → IsBest t c (length c) b → has c l ≡ true → (l ≡ b.first) ⊎ RanksLow t l b.low
best-rest t c b l h there = let a = at_has c l there in h.rest a.0 l a.1 a.2

-- both of the best are false: so are all
pub best-false : (t : TrailData) (c : List Literal) (b : Best) → IsBest t c (length c) b → b.high ≤ t.level → IsFalseClause t.steps c
best-false t c b h le l there =
    elim (best-rest t c b l h there) as (λ _. IsFalseOn t.steps l) [
      | inl q ↦ subst (λ (k : Literal). IsFalseOn t.steps k) (sym q) (false_on t b.first b.high (rank-false t b.first b.high h.high_is le))
      | inr q ↦ false_on t l q.rank (rank-false t l q.rank q.is_rank (let z = h.order in let y = q.low in omega arith))
    ]

-- the second of the best is false: all but the first are
pub best-forces : (t : TrailData) (c : List Literal) (b : Best) → IsBest t c (length c) b → b.low ≤ t.level → ForcesAt t.steps (length t.steps) b.first c
best-forces t c b h le = record {
  has_lit = among_has c (length c) b.first h.first_in;
  others = λ l there. elim (best-rest t c b l h there) as (λ _. (l ≡ b.first) ⊎ IsFalseOn t.steps l) [
    | inl q ↦ inl q
    | inr q ↦ inr (false_on t l q.rank (rank-false t l q.rank q.is_rank (let y = q.low in omega arith)))
  ];
}

-- a false literal has one rank
rank-at : (t : TrailData) (l : Literal) (r p : ℕ) → IsTrail t → IsRank t l r → p < length t.steps → lit_at t.steps p ≡ opposite l → r ≡ level_at t.steps p
rank-at t l r p trail (inl o) lt q = absurd (o.1 record { place = p; before = lt; false_there = q })
rank-at t l r p trail (inr f) lt q =
    let e : f.place ≡ p = trail.distinct f.place p f.in_range lt (ap (λ (k : Literal). k.var) (f.false_there ∙ sym q)) in
    sym f.level ∙ ap (level_at t.steps) e

-- the best two watch their clause well, once the first is true if the second is false
pub best-guarded : (t u : TrailData) (c : List Literal) (b : Best) → IsTrail t → IsBest t c (length c) b → HasGrown t u → t.level < b.high → (b.low ≤ t.level → TrueWithin u.steps u.level b.first)
    → ((k : ℕ) → k < t.level → IsClosedClause c t.steps k) → IsGuarded u.steps t.done c b.first × IsGuarded u.steps t.done c b.second
best-guarded t u c b trail h g high made closed = (
  rw g.steps (IsGuarded-grow t.steps g.more t.done c b.first trail.done (IsGuarded-open t.steps t.done c b.first trail.done (rank-open t b.first b.high trail h.high_is high))),
  λ p lt q.
      let in_t : p < length t.steps = (let z = trail.done in omega arith) in
      let same_step = ap (λ (xs : List TrailStep). level_at xs p) g.steps ∙ ap (λ (s : TrailStep). s.level) (step_grown t.steps g.more p in_t) in
      let q' : lit_at t.steps p ≡ opposite b.second = ap (λ (s : TrailStep). s.lit) (sym (step_grown t.steps g.more p in_t)) ∙ ap (λ (xs : List TrailStep). lit_at xs p) (sym g.steps) ∙ q in
      let n = level_at t.steps p in
      let low : b.low ≡ n = rank-at t b.second b.low p trail h.low_is in_t q' in
      let within : n ≤ t.level = trail.within p in_t in
      subst (λ (k : ℕ). HasTrue u.steps k c) (sym same_step)
      (elim (cases_lt n t.level) as (λ _. HasTrue u.steps n c) [
        | inl below ↦ elim (closed n below) as (λ _. HasTrue u.steps n c) [
          | inl sat ↦ rw g.steps (HasTrue-grow t.steps g.more n c sat)
          | inr two ↦ absurd (
              let must : (k : Literal) → has c k ≡ true → (TrueWithin t.steps n (opposite k) → ⊥) → k ≡ b.first
              = λ k inside unseen. elim (best-rest t c b k h inside) as (λ _. k ≡ b.first) [
                | inl z ↦ z
                | inr z ↦ absurd (unseen (false_within t k z.rank n (let y = z.low in omega arith) (rank-false t k z.rank z.is_rank (let y = z.low in omega arith))))
              ] in
              two.differ (must two.one two.has_one two.one_open ∙ sym (must two.other two.has_other two.other_open)))
        ]
        | inr ge ↦ record { lit = b.first; has_lit = among_has c (length c) b.first h.first_in; within = TrueWithin-higher u.steps u.level n b.first (let z = g.level in omega arith) (made (omega arith)) }
      ]),
)

pub two_apart : (c : List Literal) (k l : Literal) → distinct_lits c ≡ true → slice_get c 0 ≡ Some k → slice_get c 1 ≡ Some l → k ≢ l
two_apart c k l d e f q = apart_places c 0 1 l d (omega arith) (e ∙ ap Some q) f
