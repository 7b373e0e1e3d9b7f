-- Start clauses and the clauses of units, each with its number.
use Rattle.std.proofs.Common.{◌≡◌, ◌≢◌, ◌∙◌, ℕ, zero, suc, ◌<◌, ◌≤◌, true, false, not, List, [], ◌∷◌, ◌++◌, length, get_or, Some, refl, sym, ap, inl, inr, ⊎_elim, arith, Contains}
use Rattle.std.specs.List.{All}
use Rattle.std.specs.Option.{option_map}
use Rattle.std.proofs.lemmas.Bool.{and_parts, not-true, true≢false}
use Rattle.sat_words.specs.Literal.{Literal}
use Rattle.sat_words.specs.Clause.{has, distinct_lits, clause_of}
use Rattle.rup_model.specs.Journal.{Book}
use Rattle.rup_model.proofs.Lists.{In, In_has, In_map, map_In, In_append, In_append_right, In_get_or, Contains_In, In_Contains}
use Rattle.simp_base.specs.WorkState.{HaveOwnNumbers, AreHeld, unit_cells, unit_lits}
use Rattle.simp_base.proofs.Lists.{All_In, In_All}
use Rattle.ruler_simp.specs.Ruled.{HaveUnitNumbers}
use Rattle.ruler_simp.proofs.Numbered.{Cell}

-- Numbers that differ

-- the number of the first is none of the others'
pub first_apart : (x : Cell) (xs : List Cell) → HaveOwnNumbers (x ∷ xs) → (y : Cell) → In y xs → x.0 ≢ y.0
first_apart x xs own y i e = let t = In_Contains xs y i in own 0 (suc t.0) y (omega arith) (let lt = t.1 in omega arith) (e ∙ ap (λ (z : Cell). z.0) (sym t.2))

pub own_both : (xs ys : List Cell) → HaveOwnNumbers xs → HaveOwnNumbers ys → ((x y : Cell) → In x xs → In y ys → x.0 ≢ y.0) → HaveOwnNumbers (xs ++ ys)
own_both [] ys own others apart i j d ij jl q = others i j d ij jl q
own_both (x ∷ xs) ys own others apart i zero d ij jl q = absurd (omega arith)
own_both (x ∷ xs) ys own others apart zero (suc j) d ij jl q =
    ⊎_elim (λ (k : In (get_or (xs ++ ys) j d) xs). first_apart x xs own _ k q) (λ (k : In (get_or (xs ++ ys) j d) ys). apart x _ (inl refl) k q)
    (In_append xs ys _ (In_get_or (xs ++ ys) j d (omega arith)))
own_both (x ∷ xs) ys own others apart (suc i) (suc j) d ij jl q =
    own_both xs ys (λ a b e ab bl. own (suc a) (suc b) e (omega arith) (omega arith)) others (λ y z k m. apart y z (inr k) m) i j d (omega arith) (omega arith) q

-- The clauses of units

module _ (b : Book) where
  -- units with one number are one
  one_literal : (u v : Literal × ℕ) → b.clause u.1 ≡ Some (u.0 ∷ []) → b.clause v.1 ≡ Some (v.0 ∷ []) → u.1 ≡ v.1 → u.0 ≡ v.0
  one_literal u v is are e = let both : Some (u.0 ∷ []) ≡ Some (v.0 ∷ []) = sym is ∙ ap b.clause e ∙ are in cc

  own_units : (us : List (Literal × ℕ)) → HaveUnitNumbers b us → distinct_lits (unit_lits us) ≡ true → HaveOwnNumbers (unit_cells us)
  own_units [] numbered distinct i j d ij jl q = absurd (omega arith)
  own_units (u ∷ us) numbered distinct i zero d ij jl q = absurd (omega arith)
  own_units (u ∷ us) numbered distinct zero (suc j) d ij jl q =
      let parts = and_parts (not (has (unit_lits us) u.0)) (distinct_lits (unit_lits us)) distinct in
      let t = map_In (λ (v : Literal × ℕ). (v.1, v.0 ∷ [])) us (get_or (unit_cells us) j d) (In_get_or (unit_cells us) j d (omega arith)) in
      let same : u.0 ≡ t.0.0 = one_literal u t.0 (numbered 0 u (omega arith)) (All_In (λ (v : Literal × ℕ). b.clause v.1 ≡ Some (v.0 ∷ [])) (u ∷ us) t.0 numbered (inr t.1)) (q ∙ ap (λ (x : Cell). x.0) (sym t.2)) in
      true≢false (sym (In_has (unit_lits us) t.0.0 (In_map (λ (v : Literal × ℕ). v.0) us t.0 t.1)) ∙ ap (has (unit_lits us)) (sym same) ∙ not-true (has (unit_lits us) u.0) parts.0)
  own_units (u ∷ us) numbered distinct (suc i) (suc j) d ij jl q =
      own_units us (λ k e lt. numbered (suc k) e (omega arith)) (and_parts (not (has (unit_lits us) u.0)) (distinct_lits (unit_lits us)) distinct).1 i j d (omega arith) (omega arith) q

  -- what a unit's cell is
  unit_cell : (us : List (Literal × ℕ)) → HaveUnitNumbers b us → (n : ℕ) (c : List Literal) → In (n, c) (unit_cells us) → (l : Literal) × (c ≡ l ∷ []) × (b.clause n ≡ Some (l ∷ []))
  unit_cell us numbered n c i =
      let t = map_In (λ (v : Literal × ℕ). (v.1, v.0 ∷ [])) us (n, c) i in (
        t.0.0,
        ap (λ (x : Cell). x.1) (sym t.2),
        ap (λ (x : Cell). b.clause x.0) (sym t.2) ∙ All_In (λ (v : Literal × ℕ). b.clause v.1 ≡ Some (v.0 ∷ [])) us t.0 numbered t.1,
      )

  -- Both

  module _ (cells : List Cell) (us : List (Literal × ℕ)) (numbered : HaveUnitNumbers b us) (distinct : distinct_lits (unit_lits us) ≡ true)
      (held : (n : ℕ) (c : List Literal) → Contains cells (n, c) → option_map clause_of (b.clause n) ≡ Some c) (long : All (λ (x : Cell). 2 ≤ length x.1) cells) where
    apart : (x y : Cell) → In x cells → In y (unit_cells us) → x.0 ≢ y.0
    apart x y i j e =
        let t = unit_cell us numbered y.0 y.1 j in
        let both : Some x.1 ≡ Some (t.0 ∷ []) = sym (held x.0 x.1 (In_Contains cells x i)) ∙ ap (λ (n : ℕ). option_map clause_of (b.clause n)) e ∙ ap (option_map clause_of) t.2 in
        let one : x.1 ≡ t.0 ∷ [] = cc in
        let two = All_In (λ (z : Cell). 2 ≤ length z.1) cells x long i in
        let short = ap (λ (c : List Literal). length c) one in absurd (omega arith)

    pub own_together : HaveOwnNumbers cells → HaveOwnNumbers (cells ++ unit_cells us)
    own_together own = own_both cells (unit_cells us) own (own_units us numbered distinct) apart

    pub held_together : (n : ℕ) (c : List Literal) → Contains (cells ++ unit_cells us) (n, c) → option_map clause_of (b.clause n) ≡ Some c
    held_together n c h = ⊎_elim
        (λ (i : In (n, c) cells). held n c (In_Contains cells (n, c) i))
        (λ (i : In (n, c) (unit_cells us)). (let t = unit_cell us numbered n c i in ap (option_map clause_of) t.2 ∙ ap (λ (d : List Literal). Some d) (sym t.1)))
        (In_append cells (unit_cells us) (n, c) (Contains_In (cells ++ unit_cells us) (n, c) h))

    pub alone_together : (n : ℕ) (l : Literal) → Contains (cells ++ unit_cells us) (n, l ∷ []) → b.clause n ≡ Some (l ∷ [])
    alone_together n l h = ⊎_elim
        (λ (i : In (n, l ∷ []) cells). (let two = All_In (λ (z : Cell). 2 ≤ length z.1) cells (n, l ∷ []) long i in absurd (omega arith)))
        (λ (i : In (n, l ∷ []) (unit_cells us)). (let t = unit_cell us numbered n (l ∷ []) i in t.2 ∙ ap (λ (d : List Literal). Some d) (sym t.1)))
        (In_append cells (unit_cells us) (n, l ∷ []) (Contains_In (cells ++ unit_cells us) (n, l ∷ []) h))

pub held_after : (cells : List Cell) (us : List (Literal × ℕ)) → AreHeld (cells ++ unit_cells us) us
held_after cells us = In_All (λ (u : Literal × ℕ). Contains (cells ++ unit_cells us) (u.1, u.0 ∷ [])) us (λ u i.
    In_Contains (cells ++ unit_cells us) (u.1, u.0 ∷ []) (In_append_right cells (unit_cells us) (u.1, u.0 ∷ []) (In_map (λ (v : Literal × ℕ). (v.1, v.0 ∷ [])) us u i)))
