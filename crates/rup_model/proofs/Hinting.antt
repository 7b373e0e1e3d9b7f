-- What hints show.
use Rattle.std.proofs.Common.{◌≡◌, ◌∙◌, ℕ, Bool, true, false, not, ◌&&◌, ◌||◌, List, [], ◌∷◌, Option, Some, None, sym, refl, ap, subst, inl, inr, ◌⊎◌, Contains, map}
use Rattle.std.specs.Prelude.{if◌then◌else◌}
use Rattle.std.specs.List.{find, list_all}
use Rattle.std.specs.Option.{option_and_then, option_map_or}
use Rattle.std.proofs.lemmas.Bool.{or_left, or_right, or_cases, cases_Bool, and_parts, and_from, false≢true}
use Rattle.sat_words.specs.Literal.{Literal, opposite, same}
use Rattle.sat_words.specs.Clause.{has, same_set}
use Rattle.sat_words.proofs.Members.{same-true, same-refl}
use Rattle.rup_model.specs.Rounds.{falsifies}
use Rattle.rup_model.specs.Rup.{rup}
use Rattle.rup_model.specs.Derivation.{Derives, with_derived}
use Rattle.rup_model.proofs.Lists.{In_all, all_In, In_has, has_In}
use Rattle.rup_model.proofs.Derivation.{conflicts_from_derivation}
use Rattle.rup_model.proofs.Covers.{has_same, same_back}
use Rattle.rup_model.specs.Hints.{Numbered, with_lit, if_forced, forced, hinted_from, hinted}

-- the literal is the clause's only one that isn't false, and isn't true
pub record IsForced (A : Literal → Bool) (c : List Literal) (l : Literal) : Type 0 where
  pub has_lit : has c l ≡ true
  pub others : list_all (λ k. same l k || A (opposite k)) c ≡ true
  pub open_yet : A l ≡ false
  pub not_false : A (opposite l) ≡ false

found : (P : Literal → Bool) (c : List Literal) (l : Literal) → find P c ≡ Some l → has c l ≡ true
found P [] l e = absurd (cc)
found P (k ∷ c) l e = elim (cases_Bool (P k)) as (λ _. has (k ∷ c) l ≡ true) [
  | inl y ↦ (let is : k ≡ l = by (P k) y e in or_left _ _ (subst (λ (x : Literal). same l x ≡ true) (sym is) (same-refl l)))
  | inr n ↦ or_right _ _ (found P c l (sym (ap (λ (b : Bool). if b then Some k else find P c) n) ∙ e))
]
  where
    by : (b : Bool) → b ≡ true → (if b then Some k else find P c) ≡ Some l → k ≡ l
    by true y e = cc
    by false y e = absurd (false≢true y)

passes : (P : Literal → Bool) (c : List Literal) (l : Literal) → find P c ≡ Some l → P l ≡ true
passes P [] l e = absurd (cc)
passes P (k ∷ c) l e = elim (cases_Bool (P k)) as (λ _. P l ≡ true) [
  | inl y ↦ (let is : k ≡ l = by (P k) y e in subst (λ (x : Literal). P x ≡ true) is y)
  | inr n ↦ passes P c l (sym (ap (λ (b : Bool). if b then Some k else find P c) n) ∙ e)
]
  where
    by : (b : Bool) → b ≡ true → (if b then Some k else find P c) ≡ Some l → k ≡ l
    by true y e = cc
    by false y e = absurd (false≢true y)

from_if : (A : Literal → Bool) (c : List Literal) (k l : Literal) → if_forced A c k ≡ Some l → (k ≡ l) × ((not (A k) && list_all (λ j. same k j || A (opposite j)) c) ≡ true)
from_if A c k l e = by (not (A k) && list_all (λ j. same k j || A (opposite j)) c) e
  where
    by : (b : Bool) → (if b then Some k else None) ≡ Some l → (k ≡ l) × (b ≡ true)
    by true e = ((cc), refl)
    by false e = absurd (cc)

not_true : (b : Bool) → not b ≡ true → b ≡ false
not_true true e = absurd (false≢true e)
not_true false e = refl

pub forced_is : (A : Literal → Bool) (c : List Literal) (l : Literal) → forced A c ≡ Some l → IsForced A c l
forced_is A c l e =
    by (find (λ k. not (A (opposite k))) c) (λ k q. found (λ j. not (A (opposite j))) c k q) (λ k q. not_true (A (opposite k)) (passes (λ j. not (A (opposite j))) c k q)) e
  where
    by : (o : Option Literal) → ((k : Literal) → o ≡ Some k → has c k ≡ true) → ((k : Literal) → o ≡ Some k → A (opposite k) ≡ false)
        → option_and_then (if_forced A c) o ≡ Some l → IsForced A c l
    by None f g e = absurd (cc)
    by (Some k) f g e =
        let t = from_if A c k l e in
        let both = and_parts (not (A k)) (list_all (λ j. same k j || A (opposite j)) c) t.1 in
        record {
          has_lit = subst (λ (x : Literal). has c x ≡ true) t.0 (f k refl);
          others = subst (λ (x : Literal). list_all (λ j. same x j || A (opposite j)) c ≡ true) t.0 both.1;
          open_yet = subst (λ (x : Literal). A x ≡ false) t.0 (not_true (A k) both.0);
          not_false = subst (λ (x : Literal). A (opposite x) ≡ false) t.0 (g k refl);
        }

-- what the first of two hints or more names
record Step (at : Numbered) (A : Literal → Bool) (n m : ℕ) (ns : List ℕ) : Type 0 where
  clause : List Literal
  lit : Literal
  there : at n ≡ Some clause
  forced_there : IsForced A clause lit
  rest : hinted_from at (with_lit lit A) (m ∷ ns) ≡ true

first_step : (at : Numbered) (A : Literal → Bool) (n m : ℕ) (ns : List ℕ) → hinted_from at A (n ∷ m ∷ ns) ≡ true → Step at A n m ns
unfolding hinted_from
first_step at A n m ns e = by (at n) refl e
  where
    with_lit_or : (c : List Literal) → at n ≡ Some c → (o : Option Literal) → forced A c ≡ o → option_map_or (λ l. hinted_from at (with_lit l A) (m ∷ ns)) o false ≡ true → Step at A n m ns
    with_lit_or c is None q e = absurd (false≢true e)
    with_lit_or c is (Some l) q e = record { clause = c; lit = l; there = is; forced_there = forced_is A c l q; rest = e }

    by : (o : Option (List Literal)) → at n ≡ o → option_map_or (λ l. hinted_from at (with_lit l A) (m ∷ ns)) (option_and_then (forced A) o) false ≡ true → Step at A n m ns
    by None is e = absurd (false≢true e)
    by (Some c) is e = with_lit_or c is (forced A c) refl e

-- what the only hint names
last_step : (at : Numbered) (A : Literal → Bool) (n : ℕ) → hinted_from at A (n ∷ []) ≡ true → (c : List Literal) × (at n ≡ Some c) × (falsifies A c ≡ true)
unfolding hinted_from
last_step at A n e = by (at n) refl e
  where
    by : (o : Option (List Literal)) → at n ≡ o → option_map_or (falsifies A) o false ≡ true → (c : List Literal) × (at n ≡ Some c) × (falsifies A c ≡ true)
    by None is e = absurd (false≢true e)
    by (Some c) is e = (c, is, e)

no_hint : (at : Numbered) (A : Literal → Bool) → hinted_from at A [] ≡ true → ⊥
unfolding hinted_from
no_hint at A e = false≢true e

-- literals that the clauses give one after another, up to a false clause
record Chain (G : List (List Literal)) (A : List Literal) : Type 0 where
  lits : List Literal
  last : List Literal
  derived : Derives G A lits
  known : Contains G last
  false_at_last : falsifies (has (with_derived A lits)) last ≡ true

chain : (at : Numbered) (G : List (List Literal)) → ((n : ℕ) (d : List Literal) → at n ≡ Some d → Contains G d) → (ns : List ℕ) (A : List Literal) → hinted_from at (has A) ns ≡ true → Chain G A
chain at G among [] A e = absurd (no_hint at (has A) e)
chain at G among (n ∷ []) A e =
    let t = last_step at (has A) n e in
    record { lits = []; last = t.0; derived = tt; known = among n t.0 t.1; false_at_last = t.2 }
chain at G among (n ∷ m ∷ ns) A e =
    let s = first_step at (has A) n m ns e in
    let r = chain at G among (m ∷ ns) (s.lit ∷ A) s.rest in
    record {
      lits = s.lit ∷ r.lits;
      last = r.last;
      derived = ((s.clause, among n s.clause s.there, s.forced_there.has_lit, s.forced_there.others), r.derived);
      known = r.known;
      false_at_last = r.false_at_last;
    }

pub follows : (at : Numbered) (G : List (List Literal)) (c : List Literal) (ns : List ℕ) → ((n : ℕ) (d : List Literal) → at n ≡ Some d → Contains G d) → hinted at c ns ≡ true → rup G c ≡ true
unfolding rup
follows at G c ns among e =
    let t = chain at G among ns (map opposite c) e in
    or_right _ _ (conflicts_from_derivation G (map opposite c) t.lits t.last t.derived t.known t.false_at_last)

-- Hints made

-- a clause all of whose literals are false
pub hint_last : (at : Numbered) (A : Literal → Bool) (n : ℕ) (c : List Literal) → at n ≡ Some c → ((k : Literal) → has c k ≡ true → A (opposite k) ≡ true) → hinted_from at A (n ∷ []) ≡ true
unfolding hinted_from
hint_last at A n c is all = ap (λ (o : Option (List Literal)). option_map_or (falsifies A) o false) is ∙ In_all (λ k. A (opposite k)) c (λ k i. all k (In_has c k i))

-- the first literal that isn't false is the one that is open
first_open : (A : Literal → Bool) (c : List Literal) (l : Literal) → has c l ≡ true → ((k : Literal) → has c k ≡ true → (k ≡ l) ⊎ (A (opposite k) ≡ true)) → A (opposite l) ≡ false
    → find (λ k. not (A (opposite k))) c ≡ Some l
first_open A [] l h others o = absurd (false≢true h)
first_open A (k ∷ c) l h others o = elim (cases_Bool (A (opposite k))) as (λ _. find (λ j. not (A (opposite j))) (k ∷ c) ≡ Some l) [
  | inl y ↦ ap (λ (b : Bool). if not b then Some k else find (λ j. not (A (opposite j))) c) y ∙ first_open A c l (later y) (λ j i. others j (or_right _ _ i)) o
  | inr n ↦ ap (λ (b : Bool). if not b then Some k else find (λ j. not (A (opposite j))) c) n ∙ ap (λ (x : Literal). Some x) (elim (others k (or_left _ _ (same-refl k))) as (λ _. k ≡ l) [
    | inl e ↦ e
    | inr y ↦ absurd (false≢true (sym n ∙ y))
  ])
]
  where
    later : A (opposite k) ≡ true → has c l ≡ true
    later y = elim (or_cases (same l k) (has c l) h) as (λ _. has c l ≡ true) [
      | inl s ↦ absurd (false≢true (sym o ∙ ap (λ (x : Literal). A (opposite x)) (same-true l k s) ∙ y))
      | inr t ↦ t
    ]

if_open : (A : Literal → Bool) (c : List Literal) (l : Literal) → A l ≡ false → ((k : Literal) → has c k ≡ true → (k ≡ l) ⊎ (A (opposite k) ≡ true)) → if_forced A c l ≡ Some l
if_open A c l yet others =
    ap (λ (b : Bool). if b then Some l else None) (and_from _ _ (ap not yet) (In_all (λ k. same l k || A (opposite k)) c (λ k i.
    elim (others k (In_has c k i)) as (λ _. (same l k || A (opposite k)) ≡ true) [
      | inl e ↦ or_left _ _ (subst (λ (x : Literal). same l x ≡ true) (sym e) (same-refl l))
      | inr y ↦ or_right _ _ y
    ])))

-- a clause that forces a literal, before other hints
pub hint_first : (at : Numbered) (A : Literal → Bool) (n m : ℕ) (ns : List ℕ) (c : List Literal) (l : Literal) → at n ≡ Some c → has c l ≡ true
    → ((k : Literal) → has c k ≡ true → (k ≡ l) ⊎ (A (opposite k) ≡ true)) → A l ≡ false → A (opposite l) ≡ false
    → hinted_from at (with_lit l A) (m ∷ ns) ≡ true → hinted_from at A (n ∷ m ∷ ns) ≡ true
unfolding hinted_from
hint_first at A n m ns c l is h others yet free rest =
    ap (λ (o : Option (List Literal)). option_map_or (λ k. hinted_from at (with_lit k A) (m ∷ ns)) (option_and_then (forced A) o) false) is
    ∙ ap (λ (o : Option Literal). option_map_or (λ k. hinted_from at (with_lit k A) (m ∷ ns)) (option_and_then (if_forced A c) o) false) (first_open A c l h others free)
    ∙ ap (λ (o : Option Literal). option_map_or (λ k. hinted_from at (with_lit k A) (m ∷ ns)) o false) (if_open A c l yet others)
    ∙ rest

-- over more clauses

last_more : (at more : Numbered) (A : Literal → Bool) (n : ℕ) → ((k : ℕ) (d : List Literal) → at k ≡ Some d → more k ≡ Some d) → hinted_from at A (n ∷ []) ≡ true → hinted_from more A (n ∷ []) ≡ true
last_more at more A n incl e =
    let t = last_step at A n e in
    hint_last more A n t.0 (incl n t.0 t.1) (λ k h. all_In (λ j. A (opposite j)) t.0 k t.2 (has_In t.0 k h))

first_more : (at more : Numbered) (A : Literal → Bool) (n m : ℕ) (ns : List ℕ) → at n ≡ more n → ((l : Literal) → hinted_from at (with_lit l A) (m ∷ ns) ≡ true → hinted_from more (with_lit l A) (m ∷ ns) ≡ true)
    → hinted_from at A (n ∷ m ∷ ns) ≡ true → hinted_from more A (n ∷ m ∷ ns) ≡ true
unfolding hinted_from
first_more at more A n m ns same_there rest e =
    ap (λ (o : Option (List Literal)). option_map_or (λ k. hinted_from more (with_lit k A) (m ∷ ns)) (option_and_then (forced A) o) false) (sym same_there) ∙ by (option_and_then (forced A) (at n)) e
  where
    by : (o : Option Literal) → option_map_or (λ k. hinted_from at (with_lit k A) (m ∷ ns)) o false ≡ true → option_map_or (λ k. hinted_from more (with_lit k A) (m ∷ ns)) o false ≡ true
    by None e = e
    by (Some l) e = rest l e

pub over_more : (at more : Numbered) → ((n : ℕ) (d : List Literal) → at n ≡ Some d → more n ≡ Some d) → (ns : List ℕ) (A : Literal → Bool) → hinted_from at A ns ≡ true → hinted_from more A ns ≡ true
over_more at more incl [] A e = absurd (no_hint at A e)
over_more at more incl (n ∷ []) A e = last_more at more A n incl e
over_more at more incl (n ∷ m ∷ ns) A e =
    let s = first_step at A n m ns e in
    first_more at more A n m ns (s.there ∙ sym (incl n s.clause s.there)) (λ l. over_more at more incl (m ∷ ns) (with_lit l A)) e

-- over clauses with the same literals

-- each clause has one with the same literals under its number
abbrev Meets : Numbered → Numbered → Type 0
Meets at more = (n : ℕ) (c : List Literal) → at n ≡ Some c → (d : List Literal) × (more n ≡ Some d) × (same_set c d ≡ true)

-- literals that are the forced one or false in the other clause
others_there : (A : Literal → Bool) (c d : List Literal) (l : Literal) → same_set c d ≡ true → IsForced A c l → (k : Literal) → has d k ≡ true → (k ≡ l) ⊎ (A (opposite k) ≡ true)
others_there A c d l s f k h =
    elim (or_cases (same l k) (A (opposite k)) (all_In (λ j. same l j || A (opposite j)) c k f.others (has_In c k (has_same d c k (same_back c d s) h)))) as (λ _. (k ≡ l) ⊎ (A (opposite k) ≡ true)) [
      | inl e ↦ inl (sym (same-true l k e))
      | inr y ↦ inr y
    ]

pub over_same : (at more : Numbered) → Meets at more → (ns : List ℕ) (A : Literal → Bool) → hinted_from at A ns ≡ true → hinted_from more A ns ≡ true
over_same at more meets [] A e = absurd (no_hint at A e)
over_same at more meets (n ∷ []) A e =
    let t = last_step at A n e in
    let d = meets n t.0 t.1 in
    hint_last more A n d.0 d.1 (λ k h. all_In (λ j. A (opposite j)) t.0 k t.2 (has_In t.0 k (has_same d.0 t.0 k (same_back t.0 d.0 d.2) h)))
over_same at more meets (n ∷ m ∷ ns) A e =
    let s = first_step at A n m ns e in
    let d = meets n s.clause s.there in
    hint_first more A n m ns d.0 s.lit d.1 (has_same s.clause d.0 s.lit d.2 s.forced_there.has_lit) (others_there A s.clause d.0 s.lit d.2 s.forced_there)
    s.forced_there.open_yet s.forced_there.not_false (over_same at more meets (m ∷ ns) (with_lit s.lit A) s.rest)
