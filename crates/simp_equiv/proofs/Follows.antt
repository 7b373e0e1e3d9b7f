-- What is RUP over clauses by ways in the implication graph.
use Rattle.std.proofs.Common.{◌≡◌, ℕ, Bool, true, false, not, List, [], ◌∷◌, sym, refl, ap, subst, ◌∙◌, inl, inr, ◌⊎◌, Contains}
use Rattle.std.proofs.lemmas.Bool.{or_left, true≢false}
use Rattle.sat_words.specs.Literal.{Literal, opposite}
use Rattle.sat_words.specs.Clause.{has}
use Rattle.sat_words.proofs.Members.{same-refl, opposite-opposite}
use Rattle.rup_model.specs.Rup.{rup}
use Rattle.rup_model.specs.Quiet.{IsQuiet}
use Rattle.rup_model.proofs.Lists.{In, In_has, has_In, Contains_In}
use Rattle.rup_model.proofs.Quietly.{follows_unless, quiet_open, quiet_closed}
use Rattle.simp_equiv.specs.Graphs.{Walk, Reaches}
use Rattle.simp_equiv.specs.Implications.{Implies}

-- Ways in the graph

-- the clause of an edge, as a set
record IsArrow (G : List (List Literal)) (k l : Literal) : Type 0 where
  clause : List Literal
  alive : In clause G
  negated : has clause (opposite k) ≡ true
  implied : has clause l ≡ true
  only : (m : Literal) → In m clause → (m ≡ opposite k) ⊎ (m ≡ l)

arrow : (U : ℕ → Bool) (G : List (List Literal)) (k l : Literal) → Implies U G k l → IsArrow G k l
arrow U G k l e = by e.is
  where
    first : (c d : Literal) → In c (c ∷ d ∷ [])
    first c d = inl refl

    second : (c d : Literal) → In d (c ∷ d ∷ [])
    second c d = inr (inl refl)

    two : (c d m : Literal) → In m (c ∷ d ∷ []) → (m ≡ c) ⊎ (m ≡ d)
    two c d m (inl h) = inl (sym h)
    two c d m (inr (inl h)) = inr (sym h)
    two c d m (inr (inr h)) = absurd h

    by : (e.clause ≡ opposite k ∷ l ∷ []) ⊎ (e.clause ≡ l ∷ opposite k ∷ []) → IsArrow G k l
    by (inl s) = record {
      clause = opposite k ∷ l ∷ [];
      alive = subst (λ (c : List Literal). In c G) s (Contains_In G e.clause e.alive);
      negated = In_has (opposite k ∷ l ∷ []) (opposite k) (first (opposite k) l);
      implied = In_has (opposite k ∷ l ∷ []) l (second (opposite k) l);
      only = λ m i. two (opposite k) l m i;
    }
    by (inr s) = record {
      clause = l ∷ opposite k ∷ [];
      alive = subst (λ (c : List Literal). In c G) s (Contains_In G e.clause e.alive);
      negated = In_has (l ∷ opposite k ∷ []) (opposite k) (second l (opposite k));
      implied = In_has (l ∷ opposite k ∷ []) l (first l (opposite k));
      only = λ m i. elim (two l (opposite k) m i) as (λ _. (m ≡ opposite k) ⊎ (m ≡ l)) [ inl h ↦ inr h | inr h ↦ inl h ];
    }

forth : (G : List (List Literal)) (S : Literal → Bool) → IsQuiet G S → (k l : Literal) → IsArrow G k l → S k ≡ true → S l ≡ true
forth G S q k l e h = quiet_closed G S q e.clause e.alive l (has_In e.clause l e.implied) (λ m i.
    elim (e.only m i) as (λ _. (m ≡ l) ⊎ (S (opposite m) ≡ true)) [
      | inl s ↦ inr (ap S (ap opposite s ∙ opposite-opposite k) ∙ h)
      | inr s ↦ inl s
    ])

back : (G : List (List Literal)) (S : Literal → Bool) → IsQuiet G S → (k l : Literal) → IsArrow G k l → S (opposite l) ≡ true → S (opposite k) ≡ true
back G S q k l e h = quiet_closed G S q e.clause e.alive (opposite k) (has_In e.clause (opposite k) e.negated) (λ m i.
    elim (e.only m i) as (λ _. (m ≡ opposite k) ⊎ (S (opposite m) ≡ true)) [
      | inl s ↦ inl s
      | inr s ↦ inr (ap S (ap opposite s) ∙ h)
    ])

-- an implication that holds is not broken
unbroken : (G : List (List Literal)) (S : Literal → Bool) → IsQuiet G S → (k l : Literal) → IsArrow G k l → S k ≡ true → S (opposite l) ≡ true → ⊥
unbroken G S q k l e h g = quiet_open G S q e.clause e.alive (λ m i.
    elim (e.only m i) as (λ _. S (opposite m) ≡ true) [
      | inl s ↦ ap S (ap opposite s ∙ opposite-opposite k) ∙ h
      | inr s ↦ ap S (ap opposite s) ∙ g
    ])

back_along : (U : ℕ → Bool) (G : List (List Literal)) (S : Literal → Bool) → IsQuiet G S → (k l : Literal) (js : List Literal) → Walk (Implies U G) k js l → S (opposite l) ≡ true → S (opposite k) ≡ true
back_along U G S q k l [] w h = ap S (ap opposite w) ∙ h
back_along U G S q k l (j ∷ js) w h = back G S q k j (arrow U G k j w.0) (back_along U G S q j l js w.1 h)

-- a way from a true literal to a false one is no way at all
clash : (U : ℕ → Bool) (G : List (List Literal)) (S : Literal → Bool) → IsQuiet G S → (k l : Literal) (js : List Literal) → Walk (Implies U G) k js l → S k ≡ true → S (opposite l) ≡ true → k ≡ l
clash U G S q k l [] w h g = w
clash U G S q k l (j ∷ js) w h g =
    let a = arrow U G k j w.0 in
    let e : j ≡ l = clash U G S q j l js w.1 (forth G S q k j a h) g in
    absurd (unbroken G S q k j a h (ap S (ap opposite e) ∙ g))

-- a clause whose literals imply those of another gives the other
pub replaced_follows : (U : ℕ → Bool) (G : List (List Literal)) (c d : List Literal) → In c G
    → ((l : Literal) → In l c → (k : Literal) × (has d k ≡ true) × Reaches (Implies U G) l k) → rup G d ≡ true
replaced_follows U G c d inC each = follows_unless G d (λ S q neg.
    quiet_open G S q c inC (λ l h.
    let t = each l h in
    back_along U G S q l t.0 t.2.through t.2.walk (neg t.0 t.1)))

pub differs : (l : Literal) → l ≡ opposite l → ⊥
differs l e = by l.neg (λ i. (e i).neg)
  where
    by : (b : Bool) → b ≡ not b → ⊥
    by true f = true≢false f
    by false f = true≢false (sym f)

-- a literal that implies its negation is false
pub negation_follows : (U : ℕ → Bool) (G : List (List Literal)) (l : Literal) → Reaches (Implies U G) l (opposite l) → rup G (opposite l ∷ []) ≡ true
negation_follows U G l r = follows_unless G (opposite l ∷ []) (λ S q neg.
    let on : S (opposite (opposite l)) ≡ true = neg (opposite l) (or_left _ _ (same-refl (opposite l))) in
    differs l (clash U G S q l (opposite l) r.through r.walk (ap S (sym (opposite-opposite l)) ∙ on) on))

-- and where the negation implies it too, there is a conflict
pub empty_follows : (U : ℕ → Bool) (G : List (List Literal)) (l : Literal) (d : List Literal) → Reaches (Implies U G) (opposite l) l → In d G → ((k : Literal) → has d k ≡ has (opposite l ∷ []) k) → rup G [] ≡ true
empty_follows U G l d r alive alike = follows_unless G [] (λ S q neg.
    let on : S (opposite l) ≡ true = quiet_closed G S q d alive (opposite l) (has_In d (opposite l) (alike (opposite l) ∙ or_left _ _ (same-refl (opposite l)))) (λ k h. lone S k (has_In (opposite l ∷ []) k (sym (alike k) ∙ In_has d k h))) in
    differs l (sym (clash U G S q (opposite l) l r.through r.walk on on)))
  where
    lone : (S : Literal → Bool) (k : Literal) → In k (opposite l ∷ []) → (k ≡ opposite l) ⊎ (S (opposite k) ≡ true)
    lone S k (inl e) = inl (sym e)
    lone S k (inr h) = absurd h

-- Ways over more clauses

walk_over : (U : ℕ → Bool) (G H : List (List Literal)) → ((c : List Literal) → Contains G c → Contains H c) → (k l : Literal) (js : List Literal) → Walk (Implies U G) k js l → Walk (Implies U H) k js l
walk_over U G H f k l [] w = w
walk_over U G H f k l (j ∷ js) w = (record { clause = w.0.clause; alive = f w.0.clause w.0.alive; is = w.0.is; free = w.0.free; free_too = w.0.free_too }, walk_over U G H f j l js w.1)

pub reaches_over : (U : ℕ → Bool) (G H : List (List Literal)) → ((c : List Literal) → Contains G c → Contains H c) → (k l : Literal) → Reaches (Implies U G) k l → Reaches (Implies U H) k l
reaches_over U G H f k l r = record { through = r.through; walk = walk_over U G H f k l r.through r.walk }
