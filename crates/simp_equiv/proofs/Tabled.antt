-- What the table tells.
use Rattle.std.proofs.Common.{◌≡◌, ◌≢◌, ℕ, ◌+◌, ◌*◌, ◌<◌, ◌≤◌, ◌^◌, Bool, true, false, not, List, [], ◌∷◌, length, cond, zero, suc, get_or, sym, refl, ap, subst, ◌∙◌, inl, inr, ◌⊎◌, arith}
use Rattle.std.specs.List.{slice_index}
use Rattle.std.proofs.lemmas.Bool.{cases_lt}
use Rattle.sat_words.specs.Literal.{Literal, IsOn, opposite, code_of, literal_of}
use Rattle.sat_words.specs.Codes.{literal_of-code_of}
use Rattle.rup_model.proofs.Lists.{In, Contains_In}
use Rattle.simp_base.specs.WorkState.{lists}
use Rattle.simp_equiv.specs.Graphs.{AreComponents, Walk, Connected}
use Rattle.simp_equiv.specs.Implications.{Implies, IsConsistent, StandsFor}
use Rattle.simp_equiv.specs.Arrows.{Draws, arrows_in}
use Rattle.simp_equiv.specs.Leasts.{AreLeast}
use Rattle.simp_equiv.specs.Tables.{stand_in, IsTable, HasPlaces}
use Rattle.simp_equiv.proofs.Ways.{connected_self, connected_chain, connected_back}
use Rattle.simp_equiv.proofs.Edges.{code_small}
use Rattle.simp_equiv.proofs.Drawn.{implies_arrow, connected_codes, least_stands}
use Rattle.simp_equiv.proofs.Follows.{differs}

-- all literals of the clauses are on the variables
abbrev pub AllOn : ℕ → List (List Literal) → Type 0
AllOn vars G = (c : List Literal) → In c G → (l : Literal) → In l c → IsOn vars l

start_on : (U : ℕ → Bool) (G : List (List Literal)) (vars : ℕ) → AllOn vars G → (k l : Literal) → Implies U G k l → IsOn vars k
start_on U G vars on k l e = by e.is
  where
    turned : IsOn vars (opposite k) → IsOn vars k
    turned o = record { low = o.low; high = o.high }

    by : (e.clause ≡ opposite k ∷ l ∷ []) ⊎ (e.clause ≡ l ∷ opposite k ∷ []) → IsOn vars k
    by (inl s) = turned (on e.clause (Contains_In G e.clause e.alive) (opposite k) (subst (λ (c : List Literal). In (opposite k) c) (sym s) (inl refl)))
    by (inr s) = turned (on e.clause (Contains_In G e.clause e.alive) (opposite k) (subst (λ (c : List Literal). In (opposite k) c) (sym s) (inr (inl refl))))

-- a literal that leads nowhere, or to another one by a step of its own
pub step_or_stay : (E : Literal → Literal → Type 0) (k l : Literal) (js : List Literal) → Walk E k js l → (k ≡ l) ⊎ ((j : Literal) × E k j)
step_or_stay E k l [] w = inl w
step_or_stay E k l (j ∷ js) w = inr (j, w.0)

get_or_in : (xs : List ℕ) (i d e : ℕ) → i < length xs → get_or xs i d ≡ get_or xs i e
get_or_in [] i d e lt = absurd (omega arith)
get_or_in (x ∷ xs) zero d e lt = refl
get_or_in (x ∷ xs) (suc i) d e lt = get_or_in xs i d e (omega arith)

get_or_past : (xs : List ℕ) (i d : ℕ) → length xs ≤ i → get_or xs i d ≡ d
get_or_past [] i d le = refl
get_or_past (x ∷ xs) zero d le = absurd (omega arith)
get_or_past (x ∷ xs) (suc i) d le = get_or_past xs i d (omega arith)

pub stand_in_at : (t : List ℕ) (l : Literal) → code_of l < length t → stand_in t l ≡ literal_of (slice_index t (code_of l))
stand_in_at t l lt = ap literal_of (get_or_in t (code_of l) (code_of l) 0 lt)

stand_in_past : (t : List ℕ) (l : Literal) → length t ≤ code_of l → stand_in t l ≡ l
stand_in_past t l le = ap literal_of (get_or_past t (code_of l) (code_of l) le) ∙ literal_of-code_of l

var_low : (vars : ℕ) (l : Literal) → code_of l < 2 * vars + 2 → l.var ≤ vars
var_low vars l = by l.neg
  where
    by : (b : Bool) → 2 * l.var + cond b 1 0 < 2 * vars + 2 → l.var ≤ vars
    by true h = omega arith
    by false h = omega arith

var_high : (vars : ℕ) (l : Literal) → 2 * vars + 2 ≤ code_of l → l.var ≤ vars → ⊥
var_high vars l = by l.neg
  where
    by : (b : Bool) → 2 * vars + 2 ≤ 2 * l.var + cond b 1 0 → l.var ≤ vars → ⊥
    by true h k = omega arith
    by false h k = omega arith

pub table_from : (U : ℕ → Bool) (cs : List (ℕ × List Literal)) (vars : ℕ) (D : List (List ℕ)) (numbers least : List ℕ) → AllOn vars (lists cs) → Draws vars (arrows_in U cs) D
    → AreComponents D numbers → AreLeast numbers least → IsTable U (lists cs) vars least
table_from U cs vars D numbers least on d are f = record {
  size = size;
  stands = λ l. elim (cases_lt (code_of l) (length least)) as (λ _. StandsFor (Implies U (lists cs)) l (stand_in least l)) [
    | inl lt ↦ subst (λ (r : Literal). StandsFor (Implies U (lists cs)) l r) (sym (stand_in_at least l lt)) (least_stands U cs vars D numbers least d are f l (var_low vars l (omega (arith, lt, size))))
    | inr le ↦ subst (λ (r : Literal). StandsFor (Implies U (lists cs)) l r) (sym (stand_in_past least l le)) (lone l (var_high vars l (omega (arith, le, size))))
  ];
  one = one;
  low = λ k l e. (start_on U (lists cs) vars on k l e, d.few (record { from = k; to = l }) (implies_arrow U cs k l e));
}
  where
    size : length least ≡ 2 * vars + 2
    size = let a = f.each in let b = are.each in let e = d.size in omega arith

    lone : (l : Literal) → (l.var ≤ vars → ⊥) → StandsFor (Implies U (lists cs)) l l
    lone l off = record {
      connected = connected_self (Implies U (lists cs)) l;
      least = λ m c. elim (step_or_stay (Implies U (lists cs)) l m c.there.through c.there.walk) as (λ _. l.var ≤ m.var) [
        | inl e ↦ subst (λ (x : Literal). l.var ≤ x.var) e (omega arith)
        | inr t ↦ absurd (off (start_on U (lists cs) vars on l t.0 t.1).high)
      ];
    }

    one : (k l : Literal) → k.var ≤ vars → l.var ≤ vars → Connected (Implies U (lists cs)) k l → slice_index least (code_of k) ≡ slice_index least (code_of l)
    one k l kv lv c =
        let size = d.size in
        let n = are.each in
        let k_small = code_small vars k kv in
        let l_small = code_small vars l lv in
        let k_here : code_of k < length D = omega (arith, k_small, size) in
        let l_here : code_of l < length D = omega (arith, l_small, size) in
        let k_place : code_of k < length numbers = omega (arith, k_here, n) in
        let l_place : code_of l < length numbers = omega (arith, l_here, n) in
        let same : slice_index numbers (code_of k) ≡ slice_index numbers (code_of l) = (are.connected (code_of k) (code_of l) k_here l_here).1 (connected_codes U cs vars D d k l c) in
        let s = f.same (code_of k) k_place in
        let t = f.same (code_of l) l_place in
        let a : slice_index least (code_of k) ≤ slice_index least (code_of l) = f.first (code_of k) (slice_index least (code_of l)) k_place t.0 (t.1 ∙ sym same) in
        let b : slice_index least (code_of l) ≤ slice_index least (code_of k) = f.first (code_of l) (slice_index least (code_of k)) l_place s.0 (s.1 ∙ same) in
        omega (arith, a, b)

module _ (U : ℕ → Bool) (G : List (List Literal)) (vars : ℕ) (t : List ℕ) (table : IsTable U G vars t) where
  in_table : (l : Literal) → l.var ≤ vars → code_of l < length t
  in_table l on = let s = table.size in let c = code_small vars l on in omega (arith, s, c)

  -- a literal is its own, or it is on the variables
  own_or_on : (l m : Literal) → Connected (Implies U G) l m → (l ≡ m) ⊎ (IsOn vars l × (l.var ≤ 2 ^ 30))
  own_or_on l m c = elim (step_or_stay (Implies U G) l m c.there.through c.there.walk) as (λ _. (l ≡ m) ⊎ (IsOn vars l × (l.var ≤ 2 ^ 30))) [
    | inl e ↦ inl e
    | inr s ↦ inr (table.low l s.0 s.1)
  ]

  -- a variable for which another one stands
  pub moved_on : (l : Literal) → ((stand_in t l).var ≢ l.var) → IsOn vars l × (l.var ≤ 2 ^ 30)
  moved_on l ne = elim (own_or_on l (stand_in t l) (table.stands l).connected) as (λ _. IsOn vars l × (l.var ≤ 2 ^ 30)) [
    | inl e ↦ absurd (ne (ap (λ (x : Literal). x.var) (sym e)))
    | inr o ↦ o
  ]

  pub has_places : HasPlaces vars t
  has_places l on = record {
    place = in_table l on.high;
    low = elim (own_or_on (stand_in t l) l (connected_back (Implies U G) l (stand_in t l) (table.stands l).connected)) as (λ _. 1 ≤ (stand_in t l).var) [
      | inl e ↦ subst (λ (x : Literal). 1 ≤ x.var) (sym e) on.low
      | inr o ↦ o.0.low
    ];
    high = (table.stands l).least l (connected_self (Implies U G) l);
  }

  -- the codes of a variable have one number
  pub clash_at : (v : ℕ) → v ≤ vars → slice_index t (2 * v) ≡ slice_index t (2 * v + 1)
      → Connected (Implies U G) (record { var = v; neg = false }) (record { var = v; neg = true })
  clash_at v le e =
      let a = (table.stands l).connected in
      let b : Connected (Implies U G) k (stand_in t l) = subst (λ (r : Literal). Connected (Implies U G) k r)
      (stand_in_at t k (in_table k le) ∙ ap literal_of (sym (ap (slice_index t) plain ∙ e)) ∙ sym (stand_in_at t l (in_table l le))) (table.stands k).connected in
      connected_chain (Implies U G) l (stand_in t l) k a (connected_back (Implies U G) k (stand_in t l) b)
    where
      l : Literal
      l = record { var = v; neg = false }

      k : Literal
      k = record { var = v; neg = true }

      plain : 2 * v + 0 ≡ 2 * v
      plain = omega arith

  pub clash_on : (v : ℕ) → v ≤ vars → slice_index t (2 * v) ≡ slice_index t (2 * v + 1) → v ≤ 2 ^ 30
  clash_on v le e = elim (own_or_on (record { var = v; neg = false }) (record { var = v; neg = true }) (clash_at v le e)) as (λ _. v ≤ 2 ^ 30) [
    | inl s ↦ absurd (differs (record { var = v; neg = false }) s)
    | inr o ↦ o.1
  ]

  -- if no variable's codes have one number, no literal is in one component with its negation
  pub consistent_from : ((v : ℕ) → 1 ≤ v → v ≤ vars → slice_index t (2 * v) ≢ slice_index t (2 * v + 1)) → IsConsistent (Implies U G)
  consistent_from none l c = elim (own_or_on l (opposite l) c) as (λ _. ⊥) [
    | inl e ↦ differs l e
    | inr o ↦ none l.var o.0.low o.0.high (alike l.neg refl (table.one l (opposite l) o.0.high o.0.high c))
  ]
    where
      plain : 2 * l.var + 0 ≡ 2 * l.var
      plain = omega arith

      alike : (b : Bool) → l.neg ≡ b → slice_index t (code_of l) ≡ slice_index t (code_of (opposite l)) → slice_index t (2 * l.var) ≡ slice_index t (2 * l.var + 1)
      alike b e h = at b (subst (λ (n : Bool). slice_index t (2 * l.var + cond n 1 0) ≡ slice_index t (2 * l.var + cond (not n) 1 0)) e h)
        where
          at : (b : Bool) → slice_index t (2 * l.var + cond b 1 0) ≡ slice_index t (2 * l.var + cond (not b) 1 0) → slice_index t (2 * l.var) ≡ slice_index t (2 * l.var + 1)
          at true h = ap (slice_index t) (sym plain) ∙ sym h
          at false h = ap (slice_index t) (sym plain) ∙ h
