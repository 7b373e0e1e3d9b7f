-- RUP of a clause with more literals, and RAT over clauses that stand as the same sets.
use Rattle.std.proofs.Common.{◌≡◌, true, not, List, [], ◌∷◌, map, sym, ap, ◌∙◌, subst, inl, inr, ⊎_elim}
use Rattle.std.specs.List.{filter}
use Rattle.std.proofs.lemmas.Bool.{or_left, or_right, or_cases, cases_Bool, false≢true}
use Rattle.sat_words.specs.Literal.{Literal, opposite, same}
use Rattle.sat_words.specs.Clause.{has, has_opposites, same_set}
use Rattle.rup_model.specs.Rup.{conflicts, rup, resolvent, rat_on, rat}
use Rattle.rup_model.proofs.Lists.{In, any_In, In_any, all_In, In_all, In_append, In_append_left, In_append_right, In_map, map_In, has_In, In_has}
use Rattle.rup_model.proofs.RoundsLemmas.{Within}
use Rattle.rup_model.proofs.Growth.{conflicts_more}
use Rattle.rup_model.proofs.Covers.{Covered, rup_covered, has_same, same_back}
use Rattle.rup_model.proofs.Resolvents.{resolves}
use Rattle.simp_base.proofs.Filters.{In_filter, filter_In}

-- each literal of the first is one of the second
abbrev pub HasAll : List Literal → List Literal → Type 0
HasAll c d = (l : Literal) → has c l ≡ true → has d l ≡ true

negated_more : (c d : List Literal) → HasAll c d → Within (has (map opposite c)) (has (map opposite d))
negated_more c d more l h =
    let t = map_In opposite c l (has_In (map opposite c) l h) in
    In_has (map opposite d) l (subst (λ (x : Literal). In x (map opposite d)) t.2 (In_map opposite d t.0 (has_In d t.0 (more t.0 (In_has c t.0 t.1)))))

pub opposites_more : (c d : List Literal) → HasAll c d → has_opposites c ≡ true → has_opposites d ≡ true
opposites_more c d more h =
    let t = In_any (λ l. has c (opposite l)) c h in
    any_In (λ l. has d (opposite l)) d t.0 (has_In d t.0 (more t.0 (In_has c t.0 t.1))) (more (opposite t.0) t.2)

-- with more literals a clause stays RUP
pub rup_wider : (G : List (List Literal)) (c d : List Literal) → HasAll c d → rup G c ≡ true → rup G d ≡ true
unfolding rup
rup_wider G c d more r =
    elim (or_cases (has_opposites c) (conflicts G (map opposite c)) r) as (λ _. rup G d ≡ true) [
      | inl o ↦ or_left _ _ (opposites_more c d more o)
      | inr f ↦ or_right _ _ (conflicts_more G G (map opposite c) (map opposite d) (λ e i. i) (negated_more c d more) f)
    ]

-- the resolvents with clauses that are the same as sets
resolvent_same : (p : Literal) (c d e : List Literal) → same_set d e ≡ true → HasAll (resolvent p c d) (resolvent p c e)
resolvent_same p c d e s l h =
    In_has (resolvent p c e) l
    (⊎_elim
    (λ (i : In l c). In_append_left c (filter (λ k. not (same (opposite p) k)) e) l i)
    (λ (i : In l (filter (λ k. not (same (opposite p) k)) d)).
    (let t = filter_In (λ k. not (same (opposite p) k)) d l i in
    In_append_right c (filter (λ k. not (same (opposite p) k)) e) l (In_filter (λ k. not (same (opposite p) k)) e l (has_In e l (has_same d e l s (In_has d l t.0))) t.1)))
    (In_append c (filter (λ k. not (same (opposite p) k)) d) l (has_In (resolvent p c d) l h)))

resolves_same : (G H : List (List Literal)) (p : Literal) (c d e : List Literal) → Covered G H → same_set d e ≡ true → resolves G p c d ≡ true → resolves H p c e ≡ true
resolves_same G H p c d e forth s r =
    elim (cases_Bool (has e (opposite p))) as (λ _. resolves H p c e ≡ true) [
      | inr none ↦ or_left _ _ (ap not none)
      | inl some ↦ or_right _ _ (elim (or_cases (not (has d (opposite p))) (rup G (resolvent p c d)) r) as (λ _. rup H (resolvent p c e) ≡ true) [
        | inl n ↦ absurd (false≢true (sym (ap not (has_same e d (opposite p) (same_back d e s) some)) ∙ n))
        | inr y ↦ rup_wider H (resolvent p c d) (resolvent p c e) (resolvent_same p c d e s) (rup_covered G H (resolvent p c d) forth y)
      ])
    ]

-- a clause that is RAT over some clauses is RAT over others that have the same sets, but for some without the negation of the pivot
pub rat_beside : (G H : List (List Literal)) (p : Literal) (c : List Literal) → Covered G H
    → ((e : List Literal) → In e H → has e (opposite p) ≡ true → (d : List Literal) × In d G × (same_set e d ≡ true)) → rat G (p ∷ c) ≡ true → rat H (p ∷ c) ≡ true
unfolding rat_on
rat_beside G H p c forth back r =
    In_all (resolves H p (p ∷ c)) H (λ e i.
    elim (cases_Bool (has e (opposite p))) as (λ _. resolves H p (p ∷ c) e ≡ true) [
      | inr none ↦ or_left _ _ (ap not none)
      | inl some ↦ (let t = back e i some in resolves_same G H p (p ∷ c) t.0 e forth (same_back e t.0 t.2) (all_In (resolves G p (p ∷ c)) G t.0 r t.1))
    ])

-- a clause that is RAT over some clauses is RAT over the same sets
pub rat_covered : (G H : List (List Literal)) (c : List Literal) → Covered G H → Covered H G → rat G c ≡ true → rat H c ≡ true
rat_covered G H [] forth back r = absurd (false≢true r)
rat_covered G H (p ∷ c) forth back r = rat_beside G H p c forth (λ e i _. back e i) r
