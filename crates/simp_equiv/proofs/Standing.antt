-- What stands for what.
use Rattle.std.proofs.Common.{◌≡◌, ◌≢◌, ℕ, ◌≤◌, ◌<◌, ◌+◌, zero, suc, Bool, true, false, cond, nat_eq, List, [], ◌∷◌, ◌++◌, sym, refl, ap, subst, ◌∙◌, inl, inr, ◌⊎◌, Contains, arith}
use Rattle.std.specs.List.{flat_map, range_with_len}
use Rattle.std.proofs.lemmas.Bool.{cases_eq, eqb-true, eqb-false}
use Rattle.sat_words.specs.Literal.{Literal, opposite}
use Rattle.sat_words.proofs.Members.{opposite-opposite}
use Rattle.rup_model.proofs.Lists.{In, In_Contains, Contains_In}
use Rattle.model_stack.specs.Extend.{Lifts}
use Rattle.simp_equiv.specs.Graphs.{Walk, Reaches, Connected}
use Rattle.simp_equiv.specs.Implications.{Implies, IsConsistent, StandsFor}
use Rattle.simp_equiv.specs.Replacements.{Becomes, Replacement, positive, replacement_of, replacement_at, replacements, replaced_entries}
use Rattle.simp_equiv.proofs.Ways.{chain, stay, connected_chain, connected_back}
use Rattle.simp_base.proofs.Truths.{lit_cases}
use Rattle.simp_equiv.proofs.Edges.{flat_In, In_flat}
use Rattle.simp_equiv.proofs.Replacing.{Told, listed, negated, itself, Separate, lifts_replaced}

-- each edge has its mirror

mirror : (U : ℕ → Bool) (G : List (List Literal)) (k l : Literal) → Implies U G k l → Implies U G (opposite l) (opposite k)
mirror U G k l e = record {
  clause = e.clause;
  alive = e.alive;
  is = elim e.is as (λ _. (e.clause ≡ opposite (opposite l) ∷ opposite k ∷ []) ⊎ (e.clause ≡ opposite k ∷ opposite (opposite l) ∷ [])) [
    | inl s ↦ inr (s ∙ ap (λ (x : Literal). opposite k ∷ x ∷ []) (sym (opposite-opposite l)))
    | inr s ↦ inl (s ∙ ap (λ (x : Literal). x ∷ opposite k ∷ []) (sym (opposite-opposite l)))
  ];
  free = e.free_too;
  free_too = e.free;
}

mirror_walk : (U : ℕ → Bool) (G : List (List Literal)) (k l : Literal) (js : List Literal) → Walk (Implies U G) k js l → Reaches (Implies U G) (opposite l) (opposite k)
mirror_walk U G k l [] w = stay (Implies U G) (opposite l) (opposite k) (ap opposite (sym w))
mirror_walk U G k l (j ∷ js) w =
    chain (Implies U G) (opposite l) (opposite j) (opposite k) (mirror_walk U G j l js w.1)
    (record { through = opposite k ∷ []; walk = (mirror U G k j w.0, refl) })

pub mirror_connected : (U : ℕ → Bool) (G : List (List Literal)) (k l : Literal) → Connected (Implies U G) k l → Connected (Implies U G) (opposite k) (opposite l)
mirror_connected U G k l c = record { there = mirror_walk U G l k c.back.through c.back.walk; back = mirror_walk U G k l c.there.through c.there.walk }

-- What stands for it

pub stands_mirrored : (U : ℕ → Bool) (G : List (List Literal)) (l r : Literal) → StandsFor (Implies U G) l r → StandsFor (Implies U G) (opposite l) (opposite r)
stands_mirrored U G l r s = record {
  connected = mirror_connected U G l r s.connected;
  least = λ m c. s.least (opposite m) (subst (λ (x : Literal). Connected (Implies U G) x (opposite m)) (opposite-opposite l) (mirror_connected U G (opposite l) m c));
}

pub stands_itself : (E : Literal → Literal → Type 0) (l r : Literal) → StandsFor E l r → StandsFor E r r
stands_itself E l r s = record {
  connected = record { there = stay E r r refl; back = stay E r r refl };
  least = λ m c. s.least m (connected_chain E l r m s.connected c);
}

pub stands_alone : (E : Literal → Literal → Type 0) → IsConsistent E → (l r s : Literal) → StandsFor E l r → StandsFor E l s → r ≡ s
stands_alone E sound l r s a b =
    let le = a.least s b.connected in
    let ge = b.least r a.connected in
    let v : r.var ≡ s.var = omega arith in
    elim (lit_cases s r v) as (λ _. r ≡ s) [
      | inl e ↦ e
      | inr e ↦ absurd (sound s (subst (λ (x : Literal). Connected E s x) e (connected_chain E s l r (connected_back E l s b.connected) a.connected)))
    ]

-- The replacements

pub record IsRepresented (U : ℕ → Bool) (G : List (List Literal)) (rep : Literal → Literal) : Type 0 where
  pub sound : IsConsistent (Implies U G)
  pub stands : (l : Literal) → StandsFor (Implies U G) l (rep l)

rep_opposite : (U : ℕ → Bool) (G : List (List Literal)) (rep : Literal → Literal) → IsRepresented U G rep → (l : Literal) → rep (opposite l) ≡ opposite (rep l)
rep_opposite U G rep t l = stands_alone (Implies U G) t.sound (opposite l) (rep (opposite l)) (opposite (rep l)) (t.stands (opposite l)) (stands_mirrored U G l (rep l) (t.stands l))

pub rep_rep : (U : ℕ → Bool) (G : List (List Literal)) (rep : Literal → Literal) → IsRepresented U G rep → (l : Literal) → rep (rep l) ≡ rep l
rep_rep U G rep t l = stands_alone (Implies U G) t.sound (rep l) (rep (rep l)) (rep l) (t.stands (rep l)) (stands_itself (Implies U G) l (rep l) (t.stands l))

-- a literal whose variable stands for itself is its own
pub rep_own : (U : ℕ → Bool) (G : List (List Literal)) (rep : Literal → Literal) → IsRepresented U G rep → (l : Literal) → (rep l).var ≡ l.var → rep l ≡ l
rep_own U G rep t l e =
    elim (lit_cases l (rep l) e) as (λ _. rep l ≡ l) [
      | inl s ↦ s
      | inr s ↦ absurd (t.sound l (subst (λ (x : Literal). Connected (Implies U G) l x) s (t.stands l).connected))
    ]

-- what stands for another has not the variable of a replaced one
rep_kept : (U : ℕ → Bool) (G : List (List Literal)) (rep : Literal → Literal) → IsRepresented U G rep → (k l : Literal) → (rep l).var ≢ l.var → (rep k).var ≢ l.var
rep_kept U G rep t k l ne e =
    elim (lit_cases l (rep k) e) as (λ _. ⊥) [
      | inl s ↦ ne (ap (λ (x : Literal). x.var) (ap rep (sym s) ∙ rep_rep U G rep t k) ∙ e)
      | inr s ↦ ne (ap (λ (x : Literal). x.var) (sym (rep_opposite U G rep t l) ∙ ap rep (sym s) ∙ rep_rep U G rep t k) ∙ e)
    ]

record IsFrom (rep : Literal → Literal) (m : ℕ) (p : Replacement) : Type 0 where
  replaced : p.replaced ≡ positive p.replaced.var
  by : p.by ≡ rep p.replaced
  moved : (rep p.replaced).var ≢ p.replaced.var
  from : m ≤ p.replaced.var

at_In : (rep : Literal → Literal) (v : ℕ) (p : Replacement) → In p (replacement_at rep v) → (p.replaced.var ≡ v) × IsFrom rep v p
at_In rep v p h = by (nat_eq (rep (positive v)).var v) refl h
  where
    by : (b : Bool) → nat_eq (rep (positive v)).var v ≡ b → In p (cond b [] (replacement_of rep v ∷ [])) → (p.replaced.var ≡ v) × IsFrom rep v p
    by true e k = absurd k
    by false e (inr k) = absurd k
    by false e (inl s) = subst (λ (q : Replacement). (q.replaced.var ≡ v) × IsFrom rep v q) s
        (refl, record { replaced = refl; by = refl; moved = eqb-false (rep (positive v)).var v e; from = omega arith })

range_In : (m n v : ℕ) → In v (range_with_len m n) → (m ≤ v) × (v < m + n)
range_In m zero v h = absurd h
range_In m (suc n) v (inl e) = (omega arith, omega arith)
range_In m (suc n) v (inr h) = let t = range_In (m + 1) n v h in (let a : m + 1 ≤ v = t.0 in omega arith, let b : v < (m + 1) + n = t.1 in omega arith)

In_range : (m n v : ℕ) → m ≤ v → v < m + n → In v (range_with_len m n)
In_range m zero v a b = absurd (omega arith)
In_range m (suc n) v a b =
    elim (cases_eq m v) as (λ _. In v (range_with_len m (suc n))) [
      | inl e ↦ inl e
      | inr ne ↦ inr (In_range (m + 1) n v (omega arith) (omega arith))
    ]

all_from : (rep : Literal → Literal) (m n : ℕ) (p : Replacement) → In p (flat_map (replacement_at rep) (range_with_len m n)) → IsFrom rep m p
all_from rep m n p h =
    let t = flat_In (replacement_at rep) (range_with_len m n) p h in
    let r = (range_In m n t.0 t.1).0 in
    let a = (at_In rep t.0 p t.2).1 in
    let f = a.from in
    record { replaced = a.replaced; by = a.by; moved = a.moved; from = omega arith }

separate : (U : ℕ → Bool) (G : List (List Literal)) (rep : Literal → Literal) → IsRepresented U G rep → (m n : ℕ) → 1 ≤ m → Separate (flat_map (replacement_at rep) (range_with_len m n))
separate U G rep t m zero pos = tt
separate U G rep t m (suc n) pos = by (nat_eq (rep (positive m)).var m) refl (separate U G rep t (m + 1) n (omega arith)) (λ p h. all_from rep (m + 1) n p h)
  where
    rest : List Replacement
    rest = flat_map (replacement_at rep) (range_with_len (m + 1) n)

    by : (b : Bool) → nat_eq (rep (positive m)).var m ≡ b → Separate (flat_map (replacement_at rep) (range_with_len (m + 1) n))
        → ((p : Replacement) → In p (flat_map (replacement_at rep) (range_with_len (m + 1) n)) → IsFrom rep (m + 1) p)
        → Separate (cond b [] (replacement_of rep m ∷ []) ++ flat_map (replacement_at rep) (range_with_len (m + 1) n))
    by true e s f = s
    by false e s f =
        let ne = eqb-false (rep (positive m)).var m e in (
          pos,
          ne,
          (λ q h.
              let a = f q (Contains_In (flat_map (replacement_at rep) (range_with_len (m + 1) n)) q h) in
              let above = a.from in
              record {
                distinct = λ k. omega arith;
                by_first = subst (λ (x : Literal). x.var ≢ m) (sym a.by) (rep_kept U G rep t q.replaced (positive m) ne);
                by_other = rep_kept U G rep t (positive m) q.replaced a.moved;
              }),
          s,
        )

In_at : (rep : Literal → Literal) (v : ℕ) → (rep (positive v)).var ≢ v → In (replacement_of rep v) (replacement_at rep v)
In_at rep v ne = by (nat_eq (rep (positive v)).var v) refl
  where
    by : (b : Bool) → nat_eq (rep (positive v)).var v ≡ b → In (replacement_of rep v) (cond b [] (replacement_of rep v ∷ []))
    by true e = absurd (ne (eqb-true (rep (positive v)).var v e))
    by false e = inl refl

told : (U : ℕ → Bool) (G : List (List Literal)) (rep : Literal → Literal) (vars : ℕ) → IsRepresented U G rep
    → ((l : Literal) → ((rep l).var ≢ l.var) → (1 ≤ l.var) × (l.var ≤ vars)) → (l : Literal) → Told rep (replacements rep vars) l
told U G rep vars t range l =
    elim (cases_eq (rep l).var l.var) as (λ _. Told rep (replacements rep vars) l) [
      | inl e ↦ itself (rep_own U G rep t l e) (λ p h k.
          let a = all_from rep 1 vars p (Contains_In (replacements rep vars) p h) in
          a.moved (elim (lit_cases p.replaced l k) as (λ _. (rep p.replaced).var ≡ p.replaced.var) [
            | inl s ↦ ap (λ (x : Literal). (rep x).var) (sym s) ∙ e ∙ k
            | inr s ↦ ap (λ (x : Literal). x.var) (sym (rep_opposite U G rep t p.replaced) ∙ ap rep (sym s)) ∙ e ∙ k
          ]))
      | inr ne ↦ (
          let r = range l ne in
          let lo : 1 ≤ l.var = r.0 in
          let hi : l.var ≤ vars = r.1 in
          let here : In l.var (range_with_len 1 vars) = In_range 1 vars l.var lo (omega arith) in
          elim (lit_cases (positive l.var) l refl) as (λ _. Told rep (replacements rep vars) l) [
            | inl s ↦ listed (replacement_of rep l.var)
                (In_Contains (replacements rep vars) _ (In_flat (replacement_at rep) (range_with_len 1 vars) l.var (replacement_of rep l.var) here (In_at rep l.var (λ k. ne (ap (λ (x : Literal). (rep x).var) s ∙ k)))))
                s (ap rep s)
            | inr s ↦ (
                let turned : rep l ≡ opposite (rep (positive l.var)) = ap rep s ∙ rep_opposite U G rep t (positive l.var) in
                negated (replacement_of rep l.var)
                (In_Contains (replacements rep vars) _ (In_flat (replacement_at rep) (range_with_len 1 vars) l.var (replacement_of rep l.var) here (In_at rep l.var (λ k. ne (ap (λ (x : Literal). x.var) turned ∙ k)))))
                s turned)
          ])
    ]

pub lifts_representatives : (U : ℕ → Bool) (G F H : List (List Literal)) (rep : Literal → Literal) (vars : ℕ) → IsRepresented U G rep
    → ((l : Literal) → ((rep l).var ≢ l.var) → (1 ≤ l.var) × (l.var ≤ vars))
    → ((c : List Literal) → Contains F c → Becomes rep c H) → Lifts F H (replaced_entries (replacements rep vars))
lifts_representatives U G F H rep vars t range each =
    lifts_replaced rep (replacements rep vars) F H (separate U G rep t 1 vars (omega arith)) (told U G rep vars t range) each
