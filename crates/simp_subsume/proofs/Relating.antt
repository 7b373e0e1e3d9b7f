-- How clauses stand to one another.
use Rattle.std.proofs.Common.{◌≡◌, ◌⊎◌, ◌&&◌, Bool, true, false, not, cond, List, [], ◌∷◌, refl, sym, ap, ◌∙◌, inl, inr, ⊎_elim}
use Rattle.std.specs.List.{list_all}
use Rattle.std.proofs.lemmas.Bool.{and_parts, and_from, cases_Bool, true≢false, false≢true}
use Rattle.sat_words.specs.Literal.{Literal, opposite, same}
use Rattle.sat_words.specs.Clause.{has, includes, has_opposites, two_or_more}
use Rattle.sat_words.proofs.Members.{same-true, same-refl}
use Rattle.rup_model.proofs.Lists.{In, any_In, In_all, all_In, In_has, has_In, In_map, map_In}
use Rattle.simp_base.proofs.Filters.{filter_In, In_filter}
use Rattle.simp_base.specs.Parts.{takes_part}
use Rattle.simp_subsume.specs.Related.{subsumes, negated_at, strengthens, IsUnrelated}
use Rattle.simp_subsume.specs.Compared.{without}

not_true : (b : Bool) → not b ≡ true → b ≡ false
not_true true h = absurd (false≢true h)
not_true false h = refl

-- what does not hold
pub refuted : (b : Bool) → (b ≡ true → ⊥) → b ≡ false
refuted b wrong = elim (cases_Bool b) as (λ _. b ≡ false) [ inl t ↦ absurd (wrong t) | inr f ↦ f ]

-- a literal and its negation
pub opposed : (d : List Literal) (l : Literal) → has d l ≡ true → has d (opposite l) ≡ true → has_opposites d ≡ false → ⊥
opposed d l h k none = true≢false (sym (any_In (λ j. has d (opposite j)) d l (has_In d l h) k) ∙ none)

pub part_parts : (c : List Literal) → takes_part c ≡ true → (two_or_more c ≡ true) × (has_opposites c ≡ false)
part_parts c h = let t = and_parts (two_or_more c) (not (has_opposites c)) h in (t.0, not_true (has_opposites c) t.1)

-- Subsumption

pub subsumes_in : (c d : List Literal) → subsumes c d ≡ true → (k : Literal) → has c k ≡ true → has d k ≡ true
subsumes_in c d h k i = all_In (has d) c k h (has_In c k i)

pub in_subsumes : (c d : List Literal) → ((k : Literal) → has c k ≡ true → has d k ≡ true) → subsumes c d ≡ true
in_subsumes c d f = In_all (has d) c (λ k i. f k (In_has c k i))

-- Self-subsuming resolution

image : Literal → Literal → Literal
image l k = cond (same l k) (opposite k) k

pub strengthens_parts : (c d : List Literal) (l : Literal) → strengthens c d l ≡ true → (has c l ≡ true) × (has d (opposite l) ≡ true) × ((k : Literal) → has c k ≡ true → (same l k ≡ true) ⊎ (has d k ≡ true))
unfolding image
strengthens_parts c d l h =
    let t = and_parts (has c l) (includes d (negated_at l c)) h in
    let each : (k : Literal) → has c k ≡ true → has d (image l k) ≡ true = λ k i. all_In (has d) (negated_at l c) (image l k) t.1 (In_map (image l) c k (has_In c k i)) in (
      t.0,
      ap (λ b. has d (cond b (opposite l) l)) (sym (same-refl l)) ∙ each l t.0,
      λ k i. by (same l k) k refl (each k i),
    )
  where
    by : (b : Bool) → (k : Literal) → same l k ≡ b → has d (cond b (opposite k) k) ≡ true → (same l k ≡ true) ⊎ (has d k ≡ true)
    by true k e h = inl e
    by false k e h = inr h

pub strengthens_from : (c d : List Literal) (l : Literal) → has c l ≡ true → has d (opposite l) ≡ true → ((k : Literal) → has c k ≡ true → (same l k ≡ true) ⊎ (has d k ≡ true)) → strengthens c d l ≡ true
unfolding image
strengthens_from c d l there negated others =
    and_from _ _ there (In_all (has d) (negated_at l c) (λ j i. (
    let t = map_In (image l) c j i in
    ap (has d) (sym t.2) ∙ by (same l t.0) t.0 refl (others t.0 (In_has c t.0 t.1)))))
  where
    by : (b : Bool) → (k : Literal) → same l k ≡ b → (same l k ≡ true) ⊎ (has d k ≡ true) → has d (cond b (opposite k) k) ≡ true
    by true k e h = ap (λ j. has d (opposite j)) (sym (same-true l k e)) ∙ negated
    by false k e (inl t) = absurd (true≢false (sym t ∙ e))
    by false k e (inr h) = h

-- Clauses of no use

-- a part is no more related than the whole
pub unrelated_part : (c d f : List Literal) → ((k : Literal) → has f k ≡ true → has d k ≡ true) → IsUnrelated c d → IsUnrelated c f
unrelated_part c d f part u = record {
  subsumes = refuted (subsumes c f) (λ t. true≢false (sym (in_subsumes c d (λ k i. part k (subsumes_in c f t k i))) ∙ u.subsumes));
  strengthens = λ l. refuted (strengthens c f l) (λ t. (
      let s = strengthens_parts c f l t in
      true≢false (sym (strengthens_from c d l s.0 (part (opposite l) s.1) (λ k i. ⊎_elim (λ (e : same l k ≡ true). inl e) (λ (h : has f k ≡ true). inr (part k h)) (s.2 k i))) ∙ u.strengthens l)));
}

-- neither a literal of the clause nor its negation is in the other one
pub unrelated_by_one : (c d : List Literal) (l : Literal) → has c l ≡ true → has d l ≡ false → has d (opposite l) ≡ false → IsUnrelated c d
unrelated_by_one c d l there none away = record {
  subsumes = refuted (subsumes c d) (λ t. true≢false (sym (subsumes_in c d t l there) ∙ none));
  strengthens = λ k. refuted (strengthens c d k) (λ t. (
      let s = strengthens_parts c d k t in
      ⊎_elim
      (λ (e : same k l ≡ true). true≢false (sym (ap (λ j. has d (opposite j)) (sym (same-true k l e)) ∙ s.1) ∙ away))
      (λ (h : has d l ≡ true). true≢false (sym h ∙ none))
      (s.2 l there)));
}

-- two literals of the clause are not in the other one
pub unrelated_by_two : (c d : List Literal) (l m : Literal) → has c l ≡ true → has c m ≡ true → same l m ≡ false → has d l ≡ false → has d m ≡ false → IsUnrelated c d
unrelated_by_two c d l m hl hm ne no_l no_m = record {
  subsumes = refuted (subsumes c d) (λ t. true≢false (sym (subsumes_in c d t l hl) ∙ no_l));
  strengthens = λ k. refuted (strengthens c d k) (λ t. (
      let s = strengthens_parts c d k t in
      ⊎_elim
      (λ (e : same k l ≡ true). ⊎_elim
      (λ (f : same k m ≡ true). true≢false (sym (sym (ap (λ x. same x m) (same-true k l e)) ∙ f) ∙ ne))
      (λ (h : has d m ≡ true). true≢false (sym h ∙ no_m))
      (s.2 m hm))
      (λ (h : has d l ≡ true). true≢false (sym h ∙ no_l))
      (s.2 l hl)));
}

-- What is left of a clause

pub left_in : (l k : Literal) (d : List Literal) → has (without l d) k ≡ true → (has d k ≡ true) × (same l k ≡ false)
left_in l k d h = let t = filter_In (λ j. not (same l j)) d k (has_In (without l d) k h) in (In_has d k t.0, not_true (same l k) t.1)

pub in_left : (l k : Literal) (d : List Literal) → has d k ≡ true → same l k ≡ false → has (without l d) k ≡ true
in_left l k d h ne = In_has (without l d) k (In_filter (λ j. not (same l j)) d k (has_In d k h) (ap not ne))

-- the clause is of no use to what it left of another one
pub unrelated_left : (c d f : List Literal) (l : Literal) → has_opposites d ≡ false → strengthens c d l ≡ true → ((k : Literal) → has f k ≡ has (without (opposite l) d) k) → IsUnrelated c f
unrelated_left c d f l none t alike =
    let s = strengthens_parts c d l t in
    unrelated_by_one c f l s.0
    (refuted (has f l) (λ h. opposed d l (left_in (opposite l) l d (sym (alike l) ∙ h)).0 s.1 none))
    (refuted (has f (opposite l)) (λ h. true≢false (sym (same-refl (opposite l)) ∙ (left_in (opposite l) (opposite l) d (sym (alike (opposite l)) ∙ h)).1)))

-- Clauses of two literals or more

not_all : (p : Literal → Bool) (xs : List Literal) → list_all p xs ≡ false → (x : Literal) × In x xs × (p x ≡ false)
not_all p [] h = absurd (true≢false h)
not_all p (y ∷ ys) h = elim (cases_Bool (p y)) as (λ _. (x : Literal) × In x (y ∷ ys) × (p x ≡ false)) [
  | inl t ↦ (let r = not_all p ys (ap (λ b. b && list_all p ys) (sym t) ∙ h) in (r.0, inr r.1, r.2))
  | inr f ↦ (y, inl refl, f)
]

-- a clause of two literals or more has one beside each
pub another : (c : List Literal) (l : Literal) → two_or_more c ≡ true → (k : Literal) × (has c k ≡ true) × (same l k ≡ false)
another [] l h = absurd (false≢true h)
another (x ∷ c) l h = elim (cases_Bool (same l x)) as (λ _. (k : Literal) × (has (x ∷ c) k ≡ true) × (same l k ≡ false)) [
  | inl t ↦ (let r = not_all (same x) c (not_true (list_all (same x) c) h) in (r.0, In_has (x ∷ c) r.0 (inr r.1), ap (λ y. same y r.0) (same-true l x t) ∙ r.2))
  | inr f ↦ (x, In_has (x ∷ c) x (inl refl), f)
]
