-- Resolvents follow, and what their literals are.
use Rattle.std.proofs.Common.{◌≡◌, Bool, true, false, not, ◌&&◌, List, [], ◌∷◌, ◌++◌, sym, refl, ap, subst, ◌∙◌, inl, inr, ◌⊎◌}
use Rattle.std.specs.List.{list_any, list_all}
use Rattle.std.proofs.lemmas.Bool.{cases_Bool, true≢false, not-true, and_parts, and_from}
use Rattle.sat_words.specs.Literal.{Literal, opposite, same}
use Rattle.sat_words.specs.Clause.{has, has_opposites, is_empty, two_or_more}
use Rattle.sat_words.proofs.Members.{same-true, same-refl, opposite-opposite}
use Rattle.sat_words.proofs.Insertion.{has-clause_of}
use Rattle.rup_model.specs.Rup.{rup}
use Rattle.rup_model.proofs.Lists.{In, In_has, has_In, In_any, any_In, none_In, In_append, In_append_left, In_append_right}
use Rattle.rup_model.proofs.Quietly.{follows_unless, quiet_open, quiet_closed}
use Rattle.simp_base.proofs.Filters.{In_filter, filter_In}
use Rattle.simp_elim.specs.Resolution.{occurs, without, resolved, clashes}
use Rattle.simp_elim.proofs.Elimination.{occurs_parts}

-- a resolvent is RUP
pub resolvent_follows : (x : Literal) (G : List (List Literal)) (c d : List Literal) → In c G → In d G → has c x ≡ true → rup G (resolved x c d) ≡ true
resolvent_follows x G c d inC inD hasx = follows_unless G (resolved x c d) (λ S q neg.
    let keeps : (l : Literal) → In l (without x c ++ without (opposite x) d) → S (opposite l) ≡ true = λ l h. neg l (has-clause_of _ l ∙ In_has _ l h) in
    let forced : S x ≡ true = quiet_closed G S q c inC x (has_In c x hasx) (λ k h.
    elim (cases_Bool (same x k)) as (λ _. (k ≡ x) ⊎ (S (opposite k) ≡ true)) [
      | inl e ↦ inl (sym (same-true x k e))
      | inr n ↦ inr (keeps k (In_append_left (without x c) _ k (In_filter (λ m. not (same x m)) c k h (ap not n))))
    ]) in
    quiet_open G S q d inD (λ k h.
    elim (cases_Bool (same (opposite x) k)) as (λ _. S (opposite k) ≡ true) [
      | inl e ↦ ap S (ap opposite (sym (same-true (opposite x) k e)) ∙ opposite-opposite x) ∙ forced
      | inr n ↦ keeps k (In_append_right (without x c) _ k (In_filter (λ m. not (same (opposite x) m)) d k h (ap not n)))
    ]))

-- what is known is RUP
pub itself_follows : (G : List (List Literal)) (c : List Literal) → In c G → rup G c ≡ true
itself_follows G c inC = follows_unless G c (λ S q neg. quiet_open G S q c inC (λ k h. neg k (In_has c k h)))

-- A literal of the second clause whose negation is in the first one

same_bool : (a b : Bool) → (a ≡ true → b ≡ true) → (b ≡ true → a ≡ true) → a ≡ b
same_bool true b f g = sym (f refl)
same_bool false true f g = g refl
same_bool false false f g = refl

pub clash_told : (x : Literal) (c d : List Literal) → occurs x c ≡ true → occurs (opposite x) d ≡ true → list_any (clashes x c) d ≡ has_opposites (resolved x c d)
clash_told x c d oc od = same_bool (list_any (clashes x c) d) (has_opposites (resolved x c d)) there back
  where
    both : List Literal
    both = without x c ++ without (opposite x) d

    in_both : (l : Literal) → In l both → has (resolved x c d) l ≡ true
    in_both l i = has-clause_of both l ∙ In_has both l i

    there : list_any (clashes x c) d ≡ true → has_opposites (resolved x c d) ≡ true
    there h =
        let t = In_any (clashes x c) d h in
        let p = and_parts (not (same (opposite x) t.0)) (has c (opposite t.0)) t.2 in
        let k : Literal = t.0 in
        let second : In k both = In_append_right (without x c) (without (opposite x) d) k (In_filter (λ m. not (same (opposite x) m)) d k t.1 p.0) in
        let apart : same x (opposite k) ≡ false = elim (cases_Bool (same x (opposite k))) as (λ _. same x (opposite k) ≡ false) [
          | inl e ↦ absurd (true≢false (sym (same-refl k) ∙ ap (λ (m : Literal). same m k) (sym (opposite-opposite k) ∙ ap opposite (sym (same-true x (opposite k) e))) ∙ not-true _ p.0))
          | inr e ↦ e
        ] in
        let first : In (opposite k) both = In_append_left (without x c) (without (opposite x) d) (opposite k) (In_filter (λ m. not (same x m)) c (opposite k) (has_In c (opposite k) p.1) (ap not apart)) in
        any_In (λ l. has (resolved x c d) (opposite l)) (resolved x c d) k (has_In (resolved x c d) k (in_both k second)) (in_both (opposite k) first)

    none : (e : List Literal) → has_opposites e ≡ false → (l : Literal) → In l e → In (opposite l) e → ⊥
    none e h l i j = true≢false (sym (In_has e (opposite l) j) ∙ none_In (λ k. has e (opposite k)) e l h i)

    met : (k : Literal) → In k (without (opposite x) d) → In (opposite k) (without x c) → list_any (clashes x c) d ≡ true
    met k i j =
        let a = filter_In (λ m. not (same (opposite x) m)) d k i in
        let b = filter_In (λ m. not (same x m)) c (opposite k) j in
        any_In (clashes x c) d k a.0 (and_from _ _ a.1 (In_has c (opposite k) b.0))

    back : has_opposites (resolved x c d) ≡ true → list_any (clashes x c) d ≡ true
    back h =
        let t = In_any (λ l. has (resolved x c d) (opposite l)) (resolved x c d) h in
        let l : Literal = t.0 in
        let i : In l both = has_In both l (sym (has-clause_of both l) ∙ In_has (resolved x c d) l t.1) in
        let j : In (opposite l) both = has_In both (opposite l) (sym (has-clause_of both (opposite l)) ∙ t.2) in
        elim (In_append (without x c) (without (opposite x) d) l i) as (λ _. list_any (clashes x c) d ≡ true) [
          | inl a ↦ elim (In_append (without x c) (without (opposite x) d) (opposite l) j) as (λ _. list_any (clashes x c) d ≡ true) [
            | inl b ↦ absurd (none c (occurs_parts x c oc).1 l (filter_In (λ m. not (same x m)) c l a).0 (filter_In (λ m. not (same x m)) c (opposite l) b).0)
            | inr b ↦ met (opposite l) b (subst (λ (m : Literal). In m (without x c)) (sym (opposite-opposite l)) a)
          ]
          | inr a ↦ elim (In_append (without x c) (without (opposite x) d) (opposite l) j) as (λ _. list_any (clashes x c) d ≡ true) [
            | inl b ↦ met l a b
            | inr b ↦ absurd (none d (occurs_parts (opposite x) d od).1 l (filter_In (λ m. not (same (opposite x) m)) d l a).0 (filter_In (λ m. not (same (opposite x) m)) d (opposite l) b).0)
          ]
        ]

-- A clause of two literals or more has another literal

differs : (l : Literal) (d : List Literal) → list_all (same l) d ≡ false → (k : Literal) × In k d × (same l k ≡ false)
differs l [] f = absurd (true≢false f)
differs l (k ∷ d) f = by (same l k) refl f (differs l d)
  where
    by : (b : Bool) → same l k ≡ b → (b && list_all (same l) d) ≡ false → (list_all (same l) d ≡ false → (m : Literal) × In m d × (same l m ≡ false)) → (m : Literal) × In m (k ∷ d) × (same l m ≡ false)
    by false e g r = (k, inl refl, e)
    by true e g r = let t = r g in (t.0, inr t.1, t.2)

pub another : (x : Literal) (c : List Literal) → two_or_more c ≡ true → (k : Literal) × In k c × (same x k ≡ false)
another x [] h = absurd (true≢false (sym h))
another x (l ∷ c) h =
    elim (cases_Bool (same x l)) as (λ _. (k : Literal) × In k (l ∷ c) × (same x k ≡ false)) [
      | inr n ↦ (l, inl refl, n)
      | inl e ↦ (let t = differs l c (not-true _ h) in (t.0, inr t.1, ap (λ (m : Literal). same m t.0) (same-true x l e) ∙ t.2))
    ]

-- so a resolvent is not empty
pub resolved_some : (x : Literal) (c d : List Literal) → two_or_more c ≡ true → is_empty (resolved x c d) ≡ false
resolved_some x c d h =
    let t = another x c h in
    let i : In t.0 (without x c ++ without (opposite x) d) = In_append_left (without x c) _ t.0 (In_filter (λ m. not (same x m)) c t.0 t.1 (ap not t.2)) in
    some (resolved x c d) t.0 (has_In (resolved x c d) t.0 (has-clause_of _ t.0 ∙ In_has _ t.0 i))
  where
    some : (e : List Literal) (k : Literal) → In k e → is_empty e ≡ false
    some [] k i = absurd i
    some (l ∷ e) k i = refl
