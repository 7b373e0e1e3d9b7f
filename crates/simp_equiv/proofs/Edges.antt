-- Edges put one after another.
use Rattle.std.proofs.Common.{◌≡◌, ◌≢◌, ℕ, ◌+◌, ◌*◌, ◌^◌, ◌<◌, ◌≤◌, Bool, true, false, ◌||◌, List, [], ◌∷◌, ◌++◌, length, get_or, cond, take, zero, suc, sym, refl, ap, subst, ◌∙◌, inl, inr, ◌⊎◌, Contains, arith, append_assoc, append-nil}
use Rattle.std.proofs.Math.ListN.{set}
use Rattle.std.specs.List.{flat_map}
use Rattle.std.proofs.lemmas.Bool.{cases_eq}
use Rattle.std.proofs.lemmas.List.{take_more, length-set, get_or-set_other}
use Rattle.sat_words.specs.Literal.{Literal, opposite, code_of, literal_of}
use Rattle.sat_words.specs.Codes.{literal_of-code_of}
use Rattle.rup_model.proofs.Lists.{In, In_append, In_append_left, In_append_right, In_Contains, Contains_In}
use Rattle.simp_equiv.specs.Graphs.{targets, Edge}
use Rattle.simp_equiv.proofs.Lists.{set_same}
use Rattle.simp_equiv.specs.Arrows.{Arrow, arrows, arrows_of, Draws, MoreEdge}

-- a target put after those of a node
pub more_edge : (G H : List (List ℕ)) (x y : ℕ) → x < length G → H ≡ set G x (get_or G x [] ++ y ∷ []) → MoreEdge G H x y
more_edge G H x y lt e = record {
  size = ap length e ∙ length-set G x (get_or G x [] ++ y ∷ []);
  edges = λ u v. (λ h. to u v (subst (λ (K : List (List ℕ)). Edge K u v) e h), λ h. subst (λ (K : List (List ℕ)). Edge K u v) (sym e) (from u v h));
}
  where
    to : (u v : ℕ) → Edge (set G x (get_or G x [] ++ y ∷ [])) u v → Edge G u v ⊎ ((u ≡ x) × (v ≡ y))
    to u v h =
        elim (cases_eq u x) as (λ _. Edge G u v ⊎ ((u ≡ x) × (v ≡ y))) [
          | inr ne ↦ inl (subst (λ (ts : List ℕ). Contains ts v) (get_or-set_other G x u (get_or G x [] ++ y ∷ []) [] ne) h)
          | inl s ↦ (
              let here : Contains (get_or G x [] ++ y ∷ []) v = subst (λ (ts : List ℕ). Contains ts v) (ap (λ (w : ℕ). targets (set G x (get_or G x [] ++ y ∷ [])) w) s ∙ set_same G x (get_or G x [] ++ y ∷ []) [] lt) h in
              elim (In_append (get_or G x []) (y ∷ []) v (Contains_In (get_or G x [] ++ y ∷ []) v here)) as (λ _. Edge G u v ⊎ ((u ≡ x) × (v ≡ y))) [
                | inl k ↦ inl (subst (λ (w : ℕ). Edge G w v) (sym s) (In_Contains (get_or G x []) v k))
                | inr k ↦ elim k as (λ _. Edge G u v ⊎ ((u ≡ x) × (v ≡ y))) [ inl q ↦ inr (s, sym q) | inr q ↦ absurd q ]
              ])
        ]

    from : (u v : ℕ) → Edge G u v ⊎ ((u ≡ x) × (v ≡ y)) → Edge (set G x (get_or G x [] ++ y ∷ [])) u v
    from u v (inl h) =
        elim (cases_eq u x) as (λ _. Edge (set G x (get_or G x [] ++ y ∷ [])) u v) [
          | inr ne ↦ subst (λ (ts : List ℕ). Contains ts v) (sym (get_or-set_other G x u (get_or G x [] ++ y ∷ []) [] ne)) h
          | inl s ↦ at u v s (In_Contains (get_or G x [] ++ y ∷ []) v (In_append_left (get_or G x []) (y ∷ []) v (Contains_In (get_or G x []) v (subst (λ (w : ℕ). Edge G w v) s h))))
        ]
      where
        at : (u v : ℕ) → u ≡ x → Contains (get_or G x [] ++ y ∷ []) v → Edge (set G x (get_or G x [] ++ y ∷ [])) u v
        at u v s h = subst (λ (ts : List ℕ). Contains ts v) (sym (ap (λ (w : ℕ). targets (set G x (get_or G x [] ++ y ∷ [])) w) s ∙ set_same G x (get_or G x [] ++ y ∷ []) [] lt)) h
    from u v (inr t) =
        subst (λ (ts : List ℕ). Contains ts v) (sym (ap (λ (w : ℕ). targets (set G x (get_or G x [] ++ y ∷ [])) w) t.0 ∙ set_same G x (get_or G x [] ++ y ∷ []) [] lt))
        (In_Contains (get_or G x [] ++ y ∷ []) v (In_append_right (get_or G x []) (y ∷ []) v (inl (sym t.1))))

code_eq : (k l : Literal) → code_of k ≡ code_of l → k ≡ l
code_eq k l e = sym (literal_of-code_of k) ∙ ap literal_of e ∙ literal_of-code_of l

pub code_small : (vars : ℕ) (l : Literal) → l.var ≤ vars → code_of l < 2 * vars + 2
code_small vars l h = by l.neg
  where
    by : (b : Bool) → 2 * l.var + cond b 1 0 < 2 * vars + 2
    by true = omega arith
    by false = omega arith

-- one arrow more
pub draws_more : (vars : ℕ) (given : List Arrow) (G H : List (List ℕ)) (a b : Literal) → b.var ≤ vars → a.var ≤ 2 ^ 30 → Draws vars given G → MoreEdge G H (code_of a) (code_of b)
    → Draws vars (given ++ record { from = a; to = b } ∷ []) H
draws_more vars given G H a b fits low d m = record {
  size = m.size ∙ d.size;
  range = λ u v h. elim ((m.edges u v).0 h) as (λ _. v < length H) [
    | inl k ↦ (let lt = d.range u v k in let s = m.size in omega arith)
    | inr t ↦ (let lt : code_of b < 2 * vars + 2 = code_small vars b fits in let q = m.size in let r = d.size in let e : v ≡ code_of b = t.1 in omega (arith, lt, e, q, r))
  ];
  edges = λ k l. (
    λ h. elim ((m.edges (code_of k) (code_of l)).0 h) as (λ _. Contains (given ++ arrow ∷ []) (record { from = k; to = l })) [
      | inl e ↦ In_Contains (given ++ arrow ∷ []) _ (In_append_left given (arrow ∷ []) _ (Contains_In given _ ((d.edges k l).0 e)))
      | inr t ↦ In_Contains (given ++ arrow ∷ []) _ (In_append_right given (arrow ∷ []) _ (inl (λ i. record { from = sym (code_eq k a t.0) i; to = sym (code_eq l b t.1) i })))
    ],
    λ h. (m.edges (code_of k) (code_of l)).1
        (elim (In_append given (arrow ∷ []) _ (Contains_In (given ++ arrow ∷ []) _ h)) as (λ _. Edge G (code_of k) (code_of l) ⊎ ((code_of k ≡ code_of a) × (code_of l ≡ code_of b))) [
          | inl i ↦ inl ((d.edges k l).1 (In_Contains given _ i))
          | inr i ↦ elim i as (λ _. Edge G (code_of k) (code_of l) ⊎ ((code_of k ≡ code_of a) × (code_of l ≡ code_of b))) [
            | inl s ↦ inr (ap (λ (x : Arrow). code_of x.from) (sym s), ap (λ (x : Arrow). code_of x.to) (sym s))
            | inr n ↦ absurd n
          ]
        ]),
  );
  few = λ x h. elim (In_append given (arrow ∷ []) x (Contains_In (given ++ arrow ∷ []) x h)) as (λ _. x.from.var ≤ 2 ^ 30) [
    | inl i ↦ d.few x (In_Contains given x i)
    | inr i ↦ elim i as (λ _. x.from.var ≤ 2 ^ 30) [
      | inl e ↦ subst (λ (y : Arrow). y.from.var ≤ 2 ^ 30) e low
      | inr n ↦ absurd n
    ]
  ];
}
  where
    arrow : Arrow
    arrow = record { from = a; to = b }

pub draws_both : (vars : ℕ) (given : List Arrow) (G H K : List (List ℕ)) (a b : Literal) → a.var ≤ vars → b.var ≤ vars → a.var ≤ 2 ^ 30 → b.var ≤ 2 ^ 30
    → MoreEdge G H (code_of (opposite a)) (code_of b) → MoreEdge H K (code_of (opposite b)) (code_of a)
    → Draws vars given G → Draws vars (given ++ arrows_of a b) K
draws_both vars given G H K a b ha hb la lb m n d =
    subst (λ (gs : List Arrow). Draws vars gs K) (append_assoc given _ _)
    (draws_more vars (given ++ record { from = opposite a; to = b } ∷ []) H K (opposite b) a ha lb (draws_more vars given G H (opposite a) b hb la d m) n)

pub two_items : (xs : List Literal) (a b : Literal) → length xs ≡ 2 → a ≡ get_or xs 0 a → b ≡ get_or xs 1 b → xs ≡ a ∷ b ∷ []
two_items [] a b l e f = absurd (omega arith)
two_items (x ∷ []) a b l e f = absurd (omega arith)
two_items (x ∷ y ∷ []) a b l e f = λ i. sym e i ∷ sym f i ∷ []
two_items (x ∷ y ∷ z ∷ xs) a b l e f = absurd (omega arith)

-- a clause of another length has no arrow
pub no_arrows : (U : ℕ → Bool) (c : List Literal) → length c ≢ 2 → arrows U c ≡ []
no_arrows U [] ne = refl
no_arrows U (a ∷ []) ne = refl
no_arrows U (a ∷ b ∷ []) ne = absurd (ne refl)
no_arrows U (a ∷ b ∷ d ∷ c) ne = refl

pub arrows_two : (U : ℕ → Bool) (c : List Literal) (a b : Literal) (f : Bool) → c ≡ a ∷ b ∷ [] → f ≡ (U a.var || U b.var) → f ≡ false → arrows_of a b ≡ arrows U c
arrows_two U c a b f e told q =
    sym (ap (arrows U) e ∙ ap (λ (t : Bool). cond t [] (arrows_of a b)) (sym told ∙ q))

-- a clause of a variable with a unit has no arrow
pub arrows_fixed : (U : ℕ → Bool) (c : List Literal) (a b : Literal) (f : Bool) → c ≡ a ∷ b ∷ [] → f ≡ (U a.var || U b.var) → f ≡ true → arrows U c ≡ []
arrows_fixed U c a b f e told q = ap (arrows U) e ∙ ap (λ (t : Bool). cond t [] (arrows_of a b)) (sym told ∙ q)

-- Members of joined lists

left : {Y : Type 0} (us vs : List Y) (y : Y) → In y us → In y (us ++ vs)
left us vs y h = In_append_left us vs y h

pub In_flat : {X Y : Type 0} (f : X → List Y) (xs : List X) (x : X) (y : Y) → In x xs → In y (f x) → In y (flat_map f xs)
In_flat f [] x y h k = absurd h
In_flat {X} f (z ∷ zs) x y (inl e) k = left (f z) (flat_map f zs) y (subst (λ (w : X). In y (f w)) (sym e) k)
In_flat f (z ∷ zs) x y (inr h) k = In_append_right (f z) (flat_map f zs) y (In_flat f zs x y h k)

pub flat_In : {X Y : Type 0} (f : X → List Y) (xs : List X) (y : Y) → In y (flat_map f xs) → (x : X) × In x xs × In y (f x)
flat_In f [] y h = absurd h
flat_In {X} f (z ∷ zs) y h =
    elim (In_append (f z) (flat_map f zs) y h) as (λ _. (x : X) × In x (z ∷ zs) × In y (f x)) [
      | inl k ↦ (z, inl refl, k)
      | inr k ↦ (let t = flat_In f zs y k in (t.0, inr t.1, t.2))
    ]

pub flat_last : {X Y : Type 0} (f : X → List Y) (xs : List X) (x : X) → flat_map f (xs ++ x ∷ []) ≡ flat_map f xs ++ f x
flat_last f [] x = append-nil (f x)
flat_last f (z ∷ zs) x = ap (λ (r : List _). f z ++ r) (flat_last f zs x) ∙ sym (append_assoc (f z) (flat_map f zs) (f x))

pub flat_more : {X Y : Type 0} (f : X → List Y) (xs : List X) (i : ℕ) (x : X) → i < length xs → x ≡ get_or xs i x → flat_map f (take (i + 1) xs) ≡ flat_map f (take i xs) ++ f x
flat_more {X} f xs i x lt e = ap (λ (r : List X). flat_map f r) (take_more xs i x lt ∙ ap (λ (y : X). take i xs ++ y ∷ []) (sym e)) ∙ flat_last f (take i xs) x

-- A graph with no edge

pub empties_more : (G : List (List ℕ)) (t : List ℕ) → ((u : ℕ) → targets G u ≡ []) → t ≡ [] → (u : ℕ) → targets (G ++ t ∷ []) u ≡ []
empties_more [] t h e zero = e
empties_more [] t h e (suc u) = refl
empties_more (x ∷ G) t h e zero = h 0
empties_more (x ∷ G) t h e (suc u) = empties_more G t (λ v. h (suc v)) e u

pub empty_draws : (vars : ℕ) (G : List (List ℕ)) → length G ≡ 2 * vars + 2 → ((u : ℕ) → targets G u ≡ []) → Draws vars [] G
empty_draws vars G size none = record {
  size = size;
  range = λ u v h. absurd (no_edge u v h);
  edges = λ k l. (λ h. absurd (no_edge (code_of k) (code_of l) h), λ h. let t = h.1 in absurd (omega arith));
  few = λ x h. let t = h.1 in absurd (omega arith);
}
  where
    no_edge : (u v : ℕ) → Edge G u v → ⊥
    no_edge u v h = let lt : h.0 < length (targets G u) = h.1 in let e : length (targets G u) ≡ 0 = ap length (none u) in omega (arith, lt, e)
