-- Ways in the graph on codes are ways on literals, and the least codes of its components stand for their literals.
use Rattle.std.proofs.Common.{◌≡◌, ℕ, ◌+◌, ◌*◌, ◌<◌, ◌≤◌, ◌/◌, Bool, true, false, ◌||◌, List, [], ◌∷◌, length, map, cond, sym, refl, ap, subst, ◌∙◌, inl, inr, ◌⊎◌, Contains, arith}
use Rattle.std.specs.List.{slice_index}
use Rattle.std.proofs.lemmas.Bool.{or_parts}
use Rattle.sat_words.specs.Literal.{Literal, opposite, code_of, literal_of}
use Rattle.sat_words.specs.Codes.{literal_of-code_of, code_of-literal_of}
use Rattle.sat_words.proofs.Members.{opposite-opposite}
use Rattle.rup_model.proofs.Lists.{In, In_map, map_In, In_Contains, Contains_In}
use Rattle.simp_base.specs.WorkState.{lists}
use Rattle.simp_equiv.specs.Graphs.{Edge, AreComponents, Walk, Connected}
use Rattle.simp_equiv.specs.Implications.{Implies, StandsFor}
use Rattle.simp_equiv.specs.Arrows.{Arrow, arrows, arrows_of, arrows_in, Draws}
use Rattle.simp_equiv.specs.Leasts.{AreLeast}
use Rattle.simp_equiv.proofs.Edges.{code_small, flat_In, In_flat}

-- An arrow is an implication

In_arrows : (U : ℕ → Bool) (cs : List (ℕ × List Literal)) (c : List Literal) (a : Arrow) → In c (lists cs) → In a (arrows U c) → In a (arrows_in U cs)
In_arrows U cs c a h k =
    let t = map_In (λ (x : ℕ × List Literal). x.1) cs c h in
    In_flat (λ (x : ℕ × List Literal). arrows U x.1) cs t.0 a t.1 (subst (λ (d : List Literal). In a (arrows U d)) (sym t.2) k)

arrows_In : (U : ℕ → Bool) (cs : List (ℕ × List Literal)) (a : Arrow) → In a (arrows_in U cs) → (c : List Literal) × In c (lists cs) × In a (arrows U c)
arrows_In U cs a h =
    let t = flat_In (λ (x : ℕ × List Literal). arrows U x.1) cs a h in
    (t.0.1, In_map (λ (x : ℕ × List Literal). x.1) cs t.0 t.1, t.2)

pub implies_arrow : (U : ℕ → Bool) (cs : List (ℕ × List Literal)) (k l : Literal) → Implies U (lists cs) k l → Contains (arrows_in U cs) (record { from = k; to = l })
implies_arrow U cs k l e = In_Contains (arrows_in U cs) arrow (by e.is)
  where
    arrow : Arrow
    arrow = record { from = k; to = l }

    open_pair : (a b : Literal) → U a.var ≡ false → U b.var ≡ false → arrows_of a b ≡ arrows U (a ∷ b ∷ [])
    open_pair a b p q = ap (λ (t : Bool). cond t [] (arrows_of a b)) (sym (ap (λ (t : Bool). t || U b.var) p ∙ q))

    by : (e.clause ≡ opposite k ∷ l ∷ []) ⊎ (e.clause ≡ l ∷ opposite k ∷ []) → In (record { from = k; to = l }) (arrows_in U cs)
    by (inl s) = In_arrows U cs (opposite k ∷ l ∷ []) arrow (subst (λ (c : List Literal). In c (lists cs)) s (Contains_In (lists cs) e.clause e.alive))
        (subst (λ (gs : List Arrow). In arrow gs) (open_pair (opposite k) l e.free e.free_too) (inl (λ i. record { from = opposite-opposite k i; to = l })))
    by (inr s) = In_arrows U cs (l ∷ opposite k ∷ []) arrow (subst (λ (c : List Literal). In c (lists cs)) s (Contains_In (lists cs) e.clause e.alive))
        (subst (λ (gs : List Arrow). In arrow gs) (open_pair l (opposite k) e.free_too e.free) (inr (inl (λ i. record { from = opposite-opposite k i; to = l }))))

arrow_implies : (U : ℕ → Bool) (cs : List (ℕ × List Literal)) (k l : Literal) → Contains (arrows_in U cs) (record { from = k; to = l }) → Implies U (lists cs) k l
arrow_implies U cs k l h =
    let t = arrows_In U cs (record { from = k; to = l }) (Contains_In (arrows_in U cs) (record { from = k; to = l }) h) in
    of t.0 t.1 t.2
  where
    of : (c : List Literal) → In c (lists cs) → In (record { from = k; to = l }) (arrows U c) → Implies U (lists cs) k l
    of [] i m = absurd m
    of (a ∷ []) i m = absurd m
    of (a ∷ b ∷ d ∷ c) i m = absurd m
    of (a ∷ b ∷ []) i m = by (U a.var || U b.var) refl m
      where
        by : (t : Bool) → (U a.var || U b.var) ≡ t → In (record { from = k; to = l }) (cond t [] (arrows_of a b)) → Implies U (lists cs) k l
        by true e n = absurd n
        by false e (inl q) = let p = or_parts (U a.var) (U b.var) e in
            let from : opposite a ≡ k = ap (λ (x : Arrow). x.from) q in
            let to : b ≡ l = ap (λ (x : Arrow). x.to) q in
            let back : a ≡ opposite k = sym (opposite-opposite a) ∙ ap opposite from in
            record {
              clause = a ∷ b ∷ [];
              alive = In_Contains (lists cs) (a ∷ b ∷ []) i;
              is = inl (λ j. back j ∷ to j ∷ []);
              free = ap U (ap (λ (x : Literal). x.var) (sym from)) ∙ p.0;
              free_too = ap U (ap (λ (x : Literal). x.var) (sym to)) ∙ p.1;
            }
        by false e (inr (inl q)) = let p = or_parts (U a.var) (U b.var) e in
            let from : opposite b ≡ k = ap (λ (x : Arrow). x.from) q in
            let to : a ≡ l = ap (λ (x : Arrow). x.to) q in
            let back : b ≡ opposite k = sym (opposite-opposite b) ∙ ap opposite from in
            record {
              clause = a ∷ b ∷ [];
              alive = In_Contains (lists cs) (a ∷ b ∷ []) i;
              is = inr (λ j. to j ∷ back j ∷ []);
              free = ap U (ap (λ (x : Literal). x.var) (sym from)) ∙ p.1;
              free_too = ap U (ap (λ (x : Literal). x.var) (sym to)) ∙ p.0;
            }
        by false e (inr (inr q)) = absurd q

-- Ways on literals and ways on codes

to_codes : (U : ℕ → Bool) (cs : List (ℕ × List Literal)) (vars : ℕ) (D : List (List ℕ)) → Draws vars (arrows_in U cs) D
    → (k l : Literal) (js : List Literal) → Walk (Implies U (lists cs)) k js l → Walk (Edge D) (code_of k) (map code_of js) (code_of l)
to_codes U cs vars D d k l [] w = ap code_of w
to_codes U cs vars D d k l (j ∷ js) w = ((d.edges k j).1 (implies_arrow U cs k j w.0), to_codes U cs vars D d j l js w.1)

to_literals : (U : ℕ → Bool) (cs : List (ℕ × List Literal)) (vars : ℕ) (D : List (List ℕ)) → Draws vars (arrows_in U cs) D
    → (x y : ℕ) (js : List ℕ) → Walk (Edge D) x js y → Walk (Implies U (lists cs)) (literal_of x) (map literal_of js) (literal_of y)
to_literals U cs vars D d x y [] w = ap literal_of w
to_literals U cs vars D d x y (j ∷ js) w = (
  arrow_implies U cs (literal_of x) (literal_of j) ((d.edges (literal_of x) (literal_of j)).0
      (subst (λ (u : ℕ). Edge D u (code_of (literal_of j))) (sym (code_of-literal_of x)) (subst (λ (v : ℕ). Edge D x v) (sym (code_of-literal_of j)) w.0))),
  to_literals U cs vars D d j y js w.1,
)

pub connected_codes : (U : ℕ → Bool) (cs : List (ℕ × List Literal)) (vars : ℕ) (D : List (List ℕ)) → Draws vars (arrows_in U cs) D
    → (k l : Literal) → Connected (Implies U (lists cs)) k l → Connected (Edge D) (code_of k) (code_of l)
connected_codes U cs vars D d k l c = record {
  there = record { through = map code_of c.there.through; walk = to_codes U cs vars D d k l c.there.through c.there.walk };
  back = record { through = map code_of c.back.through; walk = to_codes U cs vars D d l k c.back.through c.back.walk };
}

connected_literals : (U : ℕ → Bool) (cs : List (ℕ × List Literal)) (vars : ℕ) (D : List (List ℕ)) → Draws vars (arrows_in U cs) D
    → (x y : ℕ) → Connected (Edge D) x y → Connected (Implies U (lists cs)) (literal_of x) (literal_of y)
connected_literals U cs vars D d x y c = record {
  there = record { through = map literal_of c.there.through; walk = to_literals U cs vars D d x y c.there.through c.there.walk };
  back = record { through = map literal_of c.back.through; walk = to_literals U cs vars D d y x c.back.through c.back.walk };
}

-- What stands for a literal

-- an end of a way with a step is in range; an end of a way without one is its start
in_range : (D : List (List ℕ)) → ((k l : ℕ) → Edge D k l → l < length D) → (x y : ℕ) (js : List ℕ) → Walk (Edge D) x js y → x < length D → y < length D
in_range D r x y [] w h = subst (λ (z : ℕ). z < length D) w h
in_range D r x y (j ∷ js) w h = in_range D r j y js w.1 (r x j w.0)

pub least_stands : (U : ℕ → Bool) (cs : List (ℕ × List Literal)) (vars : ℕ) (D : List (List ℕ)) (numbers least : List ℕ) → Draws vars (arrows_in U cs) D
    → AreComponents D numbers → AreLeast numbers least
    → (l : Literal) → l.var ≤ vars → StandsFor (Implies U (lists cs)) l (literal_of (slice_index least (code_of l)))
least_stands U cs vars D numbers least d are f l on =
    let size = d.size in
    let n = are.each in
    let small : code_of l < 2 * vars + 2 = code_small vars l on in
    let here : code_of l < length D = omega (arith, small, size) in
    let place : code_of l < length numbers = omega (arith, here, n) in
    let t = f.same (code_of l) place in
    let r : ℕ = slice_index least (code_of l) in
    let there : r < length D = let q : r < length numbers = t.0 in omega (arith, q, n) in
    let joined : Connected (Edge D) (code_of l) r = (are.connected (code_of l) r here there).0 (sym t.1) in
    record {
      connected = subst (λ (k : Literal). Connected (Implies U (lists cs)) k (literal_of r)) (literal_of-code_of l) (connected_literals U cs vars D d (code_of l) r joined);
      least = λ m c.
          let codes = connected_codes U cs vars D d l m c in
          let m_here : code_of m < length D = in_range D d.range (code_of l) (code_of m) codes.there.through codes.there.walk here in
          let same : slice_index numbers (code_of m) ≡ slice_index numbers (code_of l) = sym ((are.connected (code_of l) (code_of m) here m_here).1 codes) in
          let le : r ≤ code_of m = f.first (code_of l) (code_of m) place (omega (arith, m_here, n)) same in
          half r m le;
    }
  where
    half : (r : ℕ) (m : Literal) → r ≤ code_of m → (literal_of r).var ≤ m.var
    half r m le = by m.neg le
      where
        by : (b : Bool) → r ≤ 2 * m.var + cond b 1 0 → r / 2 ≤ m.var
        by true h = omega arith
        by false h = omega arith
