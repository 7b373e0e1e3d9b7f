-- What a walk over the start clauses stands on, and what it finds.
use Rattle.std.proofs.Common.{◌≡◌, ◌∙◌, ℕ, zero, suc, ◌+◌, ◌<◌, cond, Bool, true, false, not, List, [], ◌∷◌, ◌++◌, length, map, take, get_or, Option, Some, sym, ap, subst, refl, inl, inr, arith, All}
use Rattle.std.specs.Prelude.{slice_get}
use Rattle.std.specs.List.{Contains}
use Rattle.std.proofs.lemmas.Bool.{cases_Bool, false≢true, true≢false}
use Rattle.std.proofs.lemmas.List.{take_more, get_or-map, length-map}
use Rattle.std.proofs.lemmas.List.Sums.{get_or-le-sum_by}
use Rattle.std.proofs.lemmas.Option.{get_or_from_slice_get, slice_get_within}
use Rattle.sat_words.specs.Literal.{Literal, IsOn, opposite}
use Rattle.sat_words.specs.Clause.{has, has_opposites, clause_of}
use Rattle.sat_words.specs.Truth.{clause_true}
use Rattle.sat_words.specs.declared.shared.Cref.{Cref}
use Rattle.sat_words.proofs.Members.{clause_true_alike}
use Rattle.sat_words.proofs.Insertion.{has-clause_of}
use Rattle.rup_model.proofs.Lists.{In, In_any, In_get_or, In_has, has_In, In_map, In_Contains}
use Rattle.ring_port.specs.PortState.{PortState, Holding, held_at, lits_at, lits_in, IsKept}
use Rattle.ring_trail.specs.declared.step.TrailStep.{TrailStep}
use Rattle.ring_trail.specs.TrailData.{TrailData, IsTrail, no_step, lit_at}
use Rattle.ring_walk.specs.WalkData.{false_under}
use Rattle.ring_walk.proofs.Ordered.{all_has}
use Rattle.ring_run.specs.Walked.{walked_clauses, lits_of, IsStartModel}

-- one more literal that was read
pub take_read : {X : Type 0} (xs : List X) (i : ℕ) (x : X) → slice_get xs i ≡ Some x → take (i + 1) xs ≡ take i xs ++ x ∷ []
take_read xs i x e = take_more xs i x (slice_get_within xs i x e) ∙ ap (λ y. take i xs ++ y ∷ []) (get_or_from_slice_get xs i x x e)

-- the clauses that are held at the start clauses' addresses
pub walked_are : (s : PortState) (hs : List Holding) → All (λ (h : Holding). held_at s h.address ≡ Some h) hs
    → map (λ (c : Cref). clause_of (lits_at s c.address)) (map (λ (h : Holding). record { address = h.address }) hs) ≡ map (λ (h : Holding). clause_of h.lits) hs
walked_are s [] held = refl
walked_are s (h ∷ hs) held =
    ap (λ (c : List Literal). c ∷ map (λ (c : Cref). clause_of (lits_at s c.address)) (map (λ (k : Holding). record { address = k.address }) hs)) (ap (λ (o : Option Holding). clause_of (lits_in o)) (held 0 h (omega arith)))
    ∙ ap (λ (G : List (List Literal)). clause_of h.lits ∷ G) (walked_are s hs (λ k d lt. held (suc k) d (omega arith)))

all_from_has : (P : Literal → Type 0) (c : List Literal) → ((l : Literal) → has c l ≡ true → P l) → All P c
all_from_has P c f = λ k d lt. f (get_or c k d) (In_has c (get_or c k d) (In_get_or c k d lt))

-- the literals of a clause are those of the list
on_clause : (vars : ℕ) (c : List Literal) → All (IsOn vars) c → All (IsOn vars) (clause_of c)
on_clause vars c on = all_from_has (IsOn vars) (clause_of c) (λ l h. all_has (IsOn vars) c l on (sym (has-clause_of c l) ∙ h))

pub on_walked : (vars : ℕ) (hs : List Holding) → All (IsKept vars) hs → All (All (IsOn vars)) (map (λ (h : Holding). clause_of h.lits) hs)
on_walked vars [] all k d lt = absurd (omega arith)
on_walked vars (h ∷ hs) all zero d lt = on_clause vars h.lits (all 0 h (omega arith)).on
on_walked vars (h ∷ hs) all (suc k) d lt = on_walked vars hs (λ i e low. all (suc i) e (omega arith)) k d (omega arith)

lit_there : (steps : List TrailStep) (k : ℕ) (d : Literal) → k < length (lits_of steps) → get_or (lits_of steps) k d ≡ lit_at steps k
lit_there steps k d lt = let l = length-map steps (λ (x : TrailStep). x.lit) in get_or-map (λ (x : TrailStep). x.lit) steps k no_step d (omega arith)

pub units_on : (t : TrailData) → IsTrail t → All (IsOn t.vars) (lits_of t.steps)
units_on t shape k d lt =
    let l = length-map t.steps (λ (x : TrailStep). x.lit) in
    subst (IsOn t.vars) (sym (lit_there t.steps k d lt)) (record { low = shape.low k (omega arith); high = shape.high k (omega arith) })

place_of : (steps : List TrailStep) (l : Literal) → In l (lits_of steps) → (p : ℕ) × (p < length steps) × (lit_at steps p ≡ l)
place_of [] l h = absurd h
place_of (x ∷ steps) l (inl e) = (0, omega arith, e)
place_of (x ∷ steps) l (inr h) = let r = place_of steps l h in (suc r.0, omega arith, r.2)

differs : (l : Literal) → l ≡ opposite l → ⊥
differs l e = by l.neg (ap (λ (x : Literal). x.neg) e)
  where
    by : (b : Bool) → b ≡ not b → ⊥
    by true f = true≢false f
    by false f = false≢true f

pub units_apart : (t : TrailData) → IsTrail t → has_opposites (lits_of t.steps) ≡ false
units_apart t shape = elim (cases_Bool (has_opposites (lits_of t.steps))) as (λ _. has_opposites (lits_of t.steps) ≡ false) [
  | inl h ↦ (
      let f = In_any (λ (l : Literal). has (lits_of t.steps) (opposite l)) (lits_of t.steps) h in
      let p = place_of t.steps f.0 f.1 in
      let q = place_of t.steps (opposite f.0) (has_In (lits_of t.steps) (opposite f.0) f.2) in
      let same = shape.distinct p.0 q.0 p.1 q.1 (ap (λ (l : Literal). l.var) p.2 ∙ sym (ap (λ (l : Literal). l.var) q.2)) in
      absurd (differs f.0 (sym p.2 ∙ ap (lit_at t.steps) same ∙ q.2)))
  | inr n ↦ n
]

-- if no clause is false, each is true
none_false : (G : List (List Literal)) (a : List Bool) → false_under G a ≡ 0 → (c : List Literal) → Contains G c → clause_true a c ≡ true
none_false G a none c there = elim (cases_Bool (clause_true a c)) as (λ _. clause_true a c ≡ true) [
  | inl y ↦ y
  | inr n ↦ (
      let le = get_or-le-sum_by (λ (d : List Literal). cond {A = ℕ} (not (clause_true a d)) 1 0) G there.0 c there.1 in
      let one : cond {A = ℕ} (not (clause_true a (get_or G there.0 c))) 1 0 ≡ 1 = ap (λ (d : List Literal). cond {A = ℕ} (not (clause_true a d)) 1 0) there.2 ∙ ap (λ (b : Bool). cond {A = ℕ} (not b) 1 0) n in
      absurd (omega arith))
]

-- an assignment under which no clause of the walk is false makes each start clause true
pub start_model : (s : PortState) (a : List Bool) → length a ≡ s.vars → false_under (walked_clauses s) a ≡ 0 → IsStartModel s a
start_model s a long none = record {
  long = long;
  clauses = λ h there.
      clause_true_alike a h.lits (clause_of h.lits) (λ l. sym (has-clause_of h.lits l))
      ∙ none_false (walked_clauses s) a none (clause_of h.lits)
      (In_Contains (walked_clauses s) (clause_of h.lits) (In_map (λ (k : Holding). clause_of k.lits) s.start h (subst (λ (k : Holding). In k s.start) there.2 (In_get_or s.start there.0 h there.1))));
}
