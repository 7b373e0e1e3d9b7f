-- Clauses by address, and sets of literals that are refuted: by a false clause, by a forced literal, and up the trail.
use Rattle.std.proofs.Common.{◌≡◌, ℕ, zero, suc, get_or, true, false, ◌||◌, List, [], ◌∷◌, sym, refl, subst, inl, inr, ◌⊎◌, Contains, map, Option, Some, None, IsSome}
use Rattle.std.specs.Option.{option_map, option_map_or}
use Rattle.std.specs.List.{slice_get}
use Rattle.std.proofs.lemmas.Option.{get_or_from_slice_get}
use Rattle.std.proofs.lemmas.Bool.{or_left, or_right, or_cases, false≢true}
use Rattle.sat_words.specs.Literal.{Literal, opposite, same}
use Rattle.sat_words.specs.Clause.{has}
use Rattle.sat_words.proofs.Members.{same-true, same-refl}
use Rattle.rup_model.specs.Rup.{rup}
use Rattle.rup_model.specs.Rounds.{falsifies}
use Rattle.rup_model.specs.Derivation.{Derives, with_derived}
use Rattle.rup_model.proofs.Lists.{In_all, In_has}
use Rattle.rup_model.proofs.Derivation.{conflicts_from_derivation}
use Rattle.ring_port.specs.PortState.{Holding, PortState, held_at, lits_at, known}
use Rattle.ring_port.proofs.Holdings.{held_is_known}
use Rattle.ring_port.specs.PortState.{clause_at}

-- a clause that is looked up is held, with these literals
pub clause_held : (s : PortState) (a : ℕ) (d : List Literal) → clause_at s a ≡ Some d → IsSome (held_at s a) × (lits_at s a ≡ d)
clause_held s a d e = by (held_at s a) e
  where
    by : (o : Option Holding) → option_map (λ (h : Holding). h.lits) o ≡ Some d → IsSome o × (option_map_or (λ (h : Holding). h.lits) o [] ≡ d)
    by None e = absurd (cc)
    by (Some h) e = (let is : h.lits ≡ d = cc in (refl, is))

pub clause_known : (s : PortState) (a : ℕ) (d : List Literal) → clause_at s a ≡ Some d → Contains (known s) d
clause_known s a d e =
    let h = clause_held s a d e in
    subst (λ (c : List Literal). Contains (known s) c) h.1 (held_is_known s a h.0)

pub has-head : (A : List Literal) (l : Literal) → has (l ∷ A) l ≡ true
has-head A l = or_left _ _ (same-refl l)

pub has-tail : (A : List Literal) (l k : Literal) → has A k ≡ true → has (l ∷ A) k ≡ true
has-tail A l k h = or_right _ _ h

pub has-one : (l k : Literal) → has (l ∷ []) k ≡ true → k ≡ l
has-one l k h =
    elim (or_cases (same k l) false h) as (λ _. k ≡ l) [
      | inl e ↦ same-true k l e
      | inr f ↦ absurd (false≢true f)
    ]

pub has-map : (f : Literal → Literal) (c : List Literal) (l : Literal) → has c l ≡ true → has (map f c) (f l) ≡ true
has-map f [] l e = absurd (false≢true e)
has-map f (k ∷ c) l e =
    elim (or_cases (same l k) (has c l) e) as (λ _. (same (f l) (f k) || has (map f c) (f l)) ≡ true) [
      | inl s ↦ or_left _ _ (subst (λ (x : Literal). same (f l) (f x) ≡ true) (same-true l k s) (same-refl (f l)))
      | inr t ↦ or_right _ _ (has-map f c l t)
    ]

-- literals from which the clauses give others, up to a false clause
pub record Refuted (G : List (List Literal)) (A : List Literal) : Type 0 where
  pub chain : List Literal
  pub last : List Literal
  pub known : Contains G last
  pub derived : Derives G A chain
  pub false_at_last : falsifies (has (with_derived A chain)) last ≡ true

-- a clause all of whose literals have their negations among the literals
pub Refuted-false : (G : List (List Literal)) (A c : List Literal) → Contains G c → ((k : Literal) → has c k ≡ true → has A (opposite k) ≡ true) → Refuted G A
Refuted-false G A c inG f = record {
  chain = [];
  last = c;
  known = inG;
  derived = tt;
  false_at_last = In_all (λ k. has A (opposite k)) c (λ k h. f k (In_has c k h));
}

-- a literal that a clause forces may be added
pub Refuted-forced : (G : List (List Literal)) (A c : List Literal) (l : Literal) → Contains G c → has c l ≡ true
    → ((k : Literal) → has c k ≡ true → (k ≡ l) ⊎ (has A (opposite k) ≡ true)) → Refuted G (l ∷ A) → Refuted G A
Refuted-forced G A c l inG h f r = record {
  chain = l ∷ r.chain;
  last = r.last;
  known = r.known;
  derived = (
    (
      c,
      inG,
      h,
      In_all (λ k. same l k || has A (opposite k)) c (λ k i.
          elim (f k (In_has c k i)) as (λ _. (same l k || has A (opposite k)) ≡ true) [
            | inl e ↦ or_left _ _ (subst (λ (x : Literal). same l x ≡ true) (sym e) (same-refl l))
            | inr old ↦ or_right _ _ old
          ]),
    ),
    r.derived,
  );
  false_at_last = r.false_at_last;
}

-- the negations of a clause being refuted shows that it is RUP
pub rup-Refuted : (G : List (List Literal)) (c : List Literal) → Refuted G (map opposite c) → rup G c ≡ true
unfolding rup
rup-Refuted G c r = or_right _ _ (conflicts_from_derivation G (map opposite c) r.chain r.last r.derived r.known r.false_at_last)

-- the literal that was read at a place of a clause
pub record IsRead (c : List Literal) (i : ℕ) (l : Literal) : Type 0 where
  pub at : (d : Literal) → get_or c i d ≡ l
  pub has_lit : has c l ≡ true

pub lit_read : (c : List Literal) (i : ℕ) (l : Literal) → slice_get c i ≡ Some l → IsRead c i l
lit_read c i l e = record { at = λ d. get_or_from_slice_get c i l d e; has_lit = by c i e }
  where
    by : (c : List Literal) (i : ℕ) → slice_get c i ≡ Some l → has c l ≡ true
    by [] i e = absurd (cc)
    by (k ∷ c) zero e = (let is : k ≡ l = cc in subst (λ (x : Literal). has (x ∷ c) l ≡ true) (sym is) (has-head c l))
    by (k ∷ c) (suc i) e = has-tail c k l (by c i e)
