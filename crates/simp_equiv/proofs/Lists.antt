-- The vectors of the search.
use Rattle.std.proofs.Common.{◌≡◌, ℕ, zero, suc, ◌+◌, ◌<◌, ◌≤◌, Bool, List, [], ◌∷◌, ◌++◌, length, get_or, reverse, cond, refl, sym, ap, ◌∙◌, inl, inr, arith}
use Rattle.std.proofs.Math.ListN.{set}
use Rattle.std.specs.List.{count_by, sum_by}
use Rattle.std.proofs.lemmas.Bool.{cases_lt}
use Rattle.std.proofs.lemmas.List.{reverse-append, get_or-set_other, get_or_append_left}
use Rattle.std.proofs.Math.Seq.{get_or-append_seam}
use Rattle.std.proofs.lemmas.List.Sums.{sum_by-set, sum_by-append}
use Rattle.simp_equiv.specs.Graphs.{targets}
use Rattle.simp_equiv.specs.Searches.{mark_in, stack_in, is_new, Searching, ClosedTo}
use Rattle.simp_equiv.specs.declared.components.Mark.{Mark}
use Rattle.simp_equiv.specs.declared.components.Mark.TheVariants.{New, Open, Closed}
use Rattle.simp_equiv.specs.declared.components.StackFrame.{StackFrame}
use Rattle.simp_equiv.proofs.Steps.{Grown, ClosedFrom}

pub reverse_last : {X : Type 0} (xs : List X) (x : X) → reverse (xs ++ x ∷ []) ≡ x ∷ reverse xs
reverse_last xs x = reverse-append xs (x ∷ [])

pub set_same : {X : Type 0} (xs : List X) (i : ℕ) (y d : X) → i < length xs → get_or (set xs i y) i d ≡ y
set_same [] i y d h = absurd (omega arith)
set_same (x ∷ xs) zero y d h = refl
set_same (x ∷ xs) (suc i) y d h = set_same xs i y d (omega arith)

pub met_in_range : (marks : List Mark) (v : ℕ) → (mark_in marks v ≡ New → ⊥) → v < length marks
met_in_range [] v h = absurd (h refl)
met_in_range (m ∷ marks) zero h = omega arith
met_in_range (m ∷ marks) (suc v) h = let r = met_in_range marks v h in omega arith

pub open_in_range : (marks : List Mark) (v q : ℕ) → mark_in marks v ≡ Open q → v < length marks
open_in_range marks v q e = met_in_range marks v (λ n. let x : New ≡ Open q = sym n ∙ e in cc)

pub grown_lists : (marks : List Mark) (stack : List ℕ) (v : ℕ) → mark_in marks v ≡ New → v < length marks
    → Grown (mark_in marks) (mark_in (set marks v (Open (length stack)))) (stack_in stack) (stack_in (stack ++ v ∷ [])) (length stack) v
grown_lists marks stack v e h = record {
  fresh = e;
  marked = set_same marks v (Open (length stack)) New h;
  others = λ y ne. get_or-set_other marks v y (Open (length stack)) New ne;
  placed = get_or-append_seam stack v [] 0;
  under = λ p lt. get_or_append_left stack (v ∷ []) 0 p lt;
}

-- Counts

pub count_opened : (marks : List Mark) (v p : ℕ) → v < length marks → mark_in marks v ≡ New → count_by is_new (set marks v (Open p)) + 1 ≡ count_by is_new marks
count_opened marks v p h e =
    let f : Mark → ℕ = λ m. cond (is_new m) 1 0 in
    let s : sum_by f (set marks v (Open p)) + f (get_or marks v New) ≡ sum_by f marks + f (Open p) = sum_by-set f marks v (Open p) New h in
    let one : f (get_or marks v New) ≡ 1 = ap f e in
    omega (arith, s, one)

sum_cons : {X : Type 0} (f : X → ℕ) (x : X) (xs : List X) → sum_by f (x ∷ xs) ≡ f x + sum_by f xs
sum_cons f x xs = let e : sum_by f ((x ∷ []) ++ xs) ≡ (0 + f x) + sum_by f xs = sum_by-append f (x ∷ []) xs in omega (arith, e)

pub count_alike : (xs ys : List Mark) → length xs ≡ length ys → ((v : ℕ) → is_new (mark_in xs v) ≡ is_new (mark_in ys v)) → count_by is_new xs ≡ count_by is_new ys
count_alike [] [] e h = refl
count_alike [] (b ∷ ys) e h = absurd (omega arith)
count_alike (a ∷ xs) [] e h = absurd (omega arith)
count_alike (a ∷ xs) (b ∷ ys) e h =
    let f : Mark → ℕ = λ m. cond (is_new m) 1 0 in
    let here : f a ≡ f b = ap (λ (t : Bool). cond t 1 0) (h 0) in
    let rest : sum_by f xs ≡ sum_by f ys = count_alike xs ys (omega arith) (λ v. h (suc v)) in
    omega (arith, here, rest, sum_cons f a xs, sum_cons f b ys)

pub targets_few : (G : List (List ℕ)) (v : ℕ) → length (targets G v) ≤ sum_by length G
targets_few [] v = omega arith
targets_few (t ∷ G) zero = omega (arith, sum_cons length t G)
targets_few (t ∷ G) (suc v) = omega (arith, sum_cons length t G, targets_few G v)

-- Closing

pub closed_lists : (G : List (List ℕ)) (marks after : List Mark) (stack : List ℕ) (fs : List StackFrame) (closed place : ℕ) → ClosedTo stack marks after closed place
    → Searching G (mark_in marks) (stack_in stack) (length stack) fs closed → ClosedFrom (mark_in marks) (mark_in after) place closed
closed_lists G marks after stack fs closed place k s = record {
  above = λ v q e le. let t = s.placed v q e in ap (mark_in after) (sym t.1) ∙ k.from_place q le t.0;
  kept = λ v q e lt. k.others v (λ p le h same. let x : Open p ≡ Open q = sym (s.marked p h) ∙ ap (mark_in marks) same ∙ e in
      let eq : p ≡ q = cc in omega arith) ∙ e;
  other = λ v none. k.others v (λ p le h same. none p (ap (mark_in marks) (sym same) ∙ s.marked p h));
}

pub count_closed : (m n : ℕ → Mark) (place closed : ℕ) → ClosedFrom m n place closed → (v : ℕ) → is_new (n v) ≡ is_new (m v)
count_closed m n place closed k v = by (m v) refl
  where
    by : (x : Mark) → m v ≡ x → is_new (n v) ≡ is_new (m v)
    by New e = ap is_new (k.other v (λ q h. let x : New ≡ Open q = sym e ∙ h in cc))
    by (Closed c) e = ap is_new (k.other v (λ q h. let x : Closed c ≡ Open q = sym e ∙ h in cc))
    by (Open q) e =
        elim (cases_lt q place) as (λ _. is_new (n v) ≡ is_new (m v)) [
          | inl lt ↦ ap is_new (k.kept v q e lt) ∙ sym (ap is_new e)
          | inr ge ↦ ap is_new (k.above v q e ge) ∙ sym (ap is_new e)
        ]
