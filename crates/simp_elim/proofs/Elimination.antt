-- If the resolvents and the other clauses are true, the stack makes the clauses before elimination true.
use Rattle.std.proofs.Common.{◌≡◌, ◌≢◌, ◌≤◌, Bool, true, false, not, ◌||◌, List, [], ◌∷◌, ◌++◌, map, cond, sym, refl, ap, subst, ◌∙◌, inl, inr, ◌⊎◌}
use Rattle.std.proofs.lemmas.Bool.{or_left, or_right, cases_Bool, not-true, and_parts, and_from, true≢false}
use Rattle.sat_words.specs.Literal.{Literal, opposite, same}
use Rattle.sat_words.specs.Clause.{has, has_opposites}
use Rattle.sat_words.specs.Truth.{lit_true, clause_true, formula_true}
use Rattle.sat_words.proofs.Members.{same-refl, opposite-opposite}
use Rattle.sat_words.proofs.Insertion.{has-clause_of}
use Rattle.rup_model.proofs.Lists.{In, any_In, In_any, all_In, In_all, none_In, has_In, In_has, In_append}
use Rattle.model_stack.specs.Extend.{made_true, mended, extend, Lifts}
use Rattle.model_stack.proofs.Walk.{extend-append}
use Rattle.simp_base.proofs.Filters.{filter_In}
use Rattle.simp_elim.specs.Resolution.{occurs, mentions, without, resolved, fix_of}
use Rattle.simp_base.proofs.Truths.{Agree, agree_made_true, true_made_true, lit_cases, true_opposites}
use Rattle.simp_elim.proofs.Truths.{Apart, apart_has, true_apart, true_has}

-- what the entries of the clauses with the literal do: nothing, as all are true, or the literal is made true, as one is false
data Walked (x : Literal) (P : List (List Literal)) (a : List Bool) (b : List Bool) : Type 0 where
  left_alone : b ≡ a → ((c : List Literal) → In c P → clause_true a c ≡ true) → Walked x P a b
  turned : b ≡ made_true a x → (c : List Literal) → In c P → clause_true a c ≡ false → Walked x P a b

walked : (x : Literal) (P : List (List Literal)) (a : List Bool) → 1 ≤ x.var → ((c : List Literal) → In c P → has c x ≡ true) → Walked x P a (extend (map (fix_of x) P) a)
walked x [] a pos hold = left_alone refl (λ c h. absurd h)
walked x (c ∷ P) a pos hold = step (walked x P a pos (λ d h. hold d (inr h)))
  where
    step : {b : List Bool} → Walked x P a b → Walked x (c ∷ P) a (mended b (fix_of x c))
    step {b} (left_alone e all) = by (clause_true b c) refl
      where
        by : (t : Bool) → clause_true b c ≡ t → Walked x (c ∷ P) a (cond t b (made_true b x))
        by true q = left_alone e (λ d h. first d h)
          where
            first : (d : List Literal) → In d (c ∷ P) → clause_true a d ≡ true
            first d (inl s) = ap (clause_true a) (sym s) ∙ ap (λ (y : List Bool). clause_true y c) (sym e) ∙ q
            first d (inr h) = all d h
        by false q = turned (ap (λ (y : List Bool). made_true y x) e) c (inl refl) (ap (λ (y : List Bool). clause_true y c) (sym e) ∙ q)
    step {b} (turned e d inP f) =
        let t : clause_true b c ≡ true = true_has b c x (hold c (inl refl)) (ap (λ (y : List Bool). lit_true y x) e ∙ true_made_true a x pos) in
        turned (ap (λ (y : Bool). cond y b (made_true b x)) t ∙ e) d (inr inP) f

pub occurs_parts : (x : Literal) (c : List Literal) → occurs x c ≡ true → (has c x ≡ true) × (has_opposites c ≡ false)
occurs_parts x c h = let p = and_parts (has c x) _ h in (p.0, not-true _ p.1)

-- a clause with one of the two and no tautology has not the other
pub one_only : (x : Literal) (c : List Literal) → has c x ≡ true → has_opposites c ≡ false → has c (opposite x) ≡ false
one_only x c h none = none_In (λ l. has c (opposite l)) c x none (has_In c x h)

-- a clause that elimination leaves is a tautology or has no literal of the variable
pub unmentioned_apart : (x : Literal) (c : List Literal) → mentions x c ≡ false → (has_opposites c ≡ true) ⊎ Apart x c
unmentioned_apart x c m =
    elim (cases_Bool (has_opposites c)) as (λ _. (has_opposites c ≡ true) ⊎ Apart x c) [
      | inl t ↦ inl t
      | inr p ↦ inr (apart_has x c (lacks p x (λ h. or_left _ _ h)) (lacks p (opposite x) (λ h. or_right _ _ h)))
    ]
  where
    lacks : has_opposites c ≡ false → (l : Literal) → (occurs l c ≡ true → mentions x c ≡ true) → has c l ≡ false
    lacks p l f =
        elim (cases_Bool (has c l)) as (λ _. has c l ≡ false) [
          | inl h ↦ absurd (true≢false (sym (f (and_from _ _ h (ap not p))) ∙ m))
          | inr n ↦ n
        ]

-- a literal of a resolvent is one of the two clauses
pub resolved_parts : (x : Literal) (c d : List Literal) (l : Literal) → In l (resolved x c d) → In l c ⊎ In l d
resolved_parts x c d l h =
    elim (In_append (without x c) (without (opposite x) d) l (has_In _ l (sym (has-clause_of (without x c ++ without (opposite x) d) l) ∙ In_has (resolved x c d) l h))) as (λ _. In l c ⊎ In l d) [
      | inl k ↦ inl (filter_In (λ k. not (same x k)) c l k).0
      | inr k ↦ inr (filter_In (λ k. not (same (opposite x) k)) d l k).0
    ]

-- a resolvent of clauses that are no tautologies has no literal of the variable
pub resolved_apart : (x : Literal) (c d : List Literal) → occurs x c ≡ true → occurs (opposite x) d ≡ true
    → (l : Literal) → has (resolved x c d) l ≡ true → (In l c ⊎ In l d) × (l.var ≢ x.var)
resolved_apart x c d oc od l h =
    let m : In l (without x c ++ without (opposite x) d) = has_In _ l (sym (has-clause_of (without x c ++ without (opposite x) d) l) ∙ h) in
    let pc = occurs_parts x c oc in
    let pd = occurs_parts (opposite x) d od in
    elim (In_append (without x c) (without (opposite x) d) l m) as (λ _. (In l c ⊎ In l d) × (l.var ≢ x.var)) [
      | inl k ↦ (let t = filter_In (λ k. not (same x k)) c l k in (
        inl t.0,
        λ e. elim (lit_cases x l e) as (λ _. ⊥) [
          | inl s ↦ true≢false (sym (same-refl x) ∙ ap (same x) (sym s) ∙ not-true _ t.1)
          | inr s ↦ true≢false (sym (In_has c l t.0) ∙ ap (has c) s ∙ one_only x c pc.0 pc.1)
        ],
      ))
      | inr k ↦ (let t = filter_In (λ k. not (same (opposite x) k)) d l k in (
        inr t.0,
        λ e. elim (lit_cases x l e) as (λ _. ⊥) [
          | inl s ↦ true≢false (sym (In_has d l t.0) ∙ ap (has d) (s ∙ sym (opposite-opposite x)) ∙ one_only (opposite x) d pd.0 pd.1)
          | inr s ↦ true≢false (sym (same-refl (opposite x)) ∙ ap (same (opposite x)) (sym s) ∙ not-true _ t.1)
        ],
      ))
    ]

-- if the first clause is false, a true resolvent makes the second true, whatever the variable's value
pub resolved_true : (x : Literal) (c d : List Literal) (a b : List Bool) → occurs x c ≡ true → occurs (opposite x) d ≡ true → Agree x a b
    → clause_true a (resolved x c d) ≡ true → clause_true a c ≡ false → clause_true b d ≡ true
resolved_true x c d a b oc od agree r f =
    let t = In_any (lit_true a) (resolved x c d) r in
    let p = resolved_apart x c d oc od t.0 (In_has _ t.0 t.1) in
    elim p.0 as (λ _. clause_true b d ≡ true) [
      | inl inC ↦ absurd (true≢false (sym t.2 ∙ none_In (lit_true a) c t.0 f inC))
      | inr inD ↦ any_In (lit_true b) d t.0 inD (agree t.0 p.1 ∙ t.2)
    ]

-- Any list of clauses that has the resolvents and the clauses left alone will do

pub record Resolves (x : Literal) (G H : List (List Literal)) : Type 0 where
  pub left : (c : List Literal) → In c G → mentions x c ≡ false → (has_opposites c ≡ true) ⊎ In c H
  pub paired : (c d : List Literal) → In c G → In d G → occurs x c ≡ true → occurs (opposite x) d ≡ true
      → (has_opposites (resolved x c d) ≡ true) ⊎ In (resolved x c d) H

-- P: the clauses with the literal, in any order
pub lifts_elimination : (x : Literal) (G H P : List (List Literal)) → 1 ≤ x.var
    → ((c : List Literal) → In c P → In c G × (occurs x c ≡ true))
    → ((c : List Literal) → In c G → occurs x c ≡ true → In c P)
    → Resolves x G H
    → Lifts G H (map (fix_of x) P ++ fix_of (opposite x) (opposite x ∷ []) ∷ [])
lifts_elimination x G H P pos sound whole res = λ a all.
    let z : List Bool = mended a (fix_of (opposite x) (opposite x ∷ [])) in
    let f = first a in
    let w = walked x P z pos (λ c h. (occurs_parts x c (sound c h).1).0) in
    subst (λ (b : List Bool). formula_true b G ≡ true) (sym (extend-append (map (fix_of x) P) (fix_of (opposite x) (opposite x ∷ []) ∷ []) a))
    (In_all (clause_true _) G (λ d inG. each a z all f.1 f.0 (extend (map (fix_of x) P) z) w d inG))
  where
    first : (a : List Bool) → (lit_true (mended a (fix_of (opposite x) (opposite x ∷ []))) (opposite x) ≡ true) × Agree x a (mended a (fix_of (opposite x) (opposite x ∷ [])))
    first a = by (lit_true a (opposite x)) refl
      where
        by : (t : Bool) → lit_true a (opposite x) ≡ t → (lit_true (cond (t || false) a (made_true a (opposite x))) (opposite x) ≡ true) × Agree x a (cond (t || false) a (made_true a (opposite x)))
        by true e = (e, λ l ne. refl)
        by false e = (true_made_true a (opposite x) pos, λ l ne. agree_made_true (opposite x) a l ne)

    each : (a z : List Bool) → formula_true a H ≡ true → Agree x a z → lit_true z (opposite x) ≡ true
        → (b : List Bool) → Walked x P z b → (d : List Literal) → In d G → clause_true b d ≡ true
    each a z all agree off b w d inG =
        elim (cases_Bool (occurs x d)) as (λ _. clause_true b d ≡ true) [
          | inl pos_d ↦ with_x w pos_d
          | inr no_x ↦ elim (cases_Bool (occurs (opposite x) d)) as (λ _. clause_true b d ≡ true) [
            | inl neg_d ↦ with_not w neg_d
            | inr no_not ↦ neither (λ l ne. still w l ne ∙ agree l ne) (or_none no_x no_not)
          ]
        ]
      where
        or_none : occurs x d ≡ false → occurs (opposite x) d ≡ false → mentions x d ≡ false
        or_none p q = ap (λ (y : Bool). y || occurs (opposite x) d) p ∙ q

        still : Walked x P z b → Agree x z b
        still (left_alone e t) l ne = ap (λ (y : List Bool). lit_true y l) e
        still (turned e c i f) l ne = ap (λ (y : List Bool). lit_true y l) e ∙ agree_made_true x z l ne

        neither : Agree x a b → mentions x d ≡ false → clause_true b d ≡ true
        neither to m =
            elim (res.left d inG m) as (λ _. clause_true b d ≡ true) [
              | inl t ↦ true_opposites b d t
              | inr inH ↦ elim (unmentioned_apart x d m) as (λ _. clause_true b d ≡ true) [
                | inl t ↦ true_opposites b d t
                | inr ap' ↦ true_apart x a b d to ap' (all_In (clause_true a) H d all inH)
              ]
            ]

        with_x : Walked x P z b → occurs x d ≡ true → clause_true b d ≡ true
        with_x (left_alone e t) o = ap (λ (y : List Bool). clause_true y d) e ∙ t d (whole d inG o)
        with_x (turned e c i f) o = true_has b d x (occurs_parts x d o).0 (ap (λ (y : List Bool). lit_true y x) e ∙ true_made_true z x pos)

        with_not : Walked x P z b → occurs (opposite x) d ≡ true → clause_true b d ≡ true
        with_not (left_alone e t) o = true_has b d (opposite x) (occurs_parts (opposite x) d o).0 (ap (λ (y : List Bool). lit_true y (opposite x)) e ∙ off)
        with_not (turned e c i f) o =
            let s = sound c i in
            let r : clause_true z (resolved x c d) ≡ true = elim (res.paired c d s.0 inG s.1 o) as (λ _. clause_true z (resolved x c d) ≡ true) [
              | inl t ↦ true_opposites z (resolved x c d) t
              | inr inH ↦ true_apart x a z (resolved x c d) agree (λ l k. (resolved_apart x c d s.1 o l (In_has _ l k)).1) (all_In (clause_true a) H (resolved x c d) all inH)
            ] in
            resolved_true x c d z b s.1 o (still (turned e c i f)) r f
