-- The clauses of a literal are those that are named in its room, each once.
use Rattle.std.proofs.Common.{◌≡◌, ◌∙◌, ℕ, zero, suc, ◌+◌, ◌<◌, ◌≤◌, Bool, true, false, List, [], length, get_or, take, refl, sym, subst, inl, inr, arith, All}
use Rattle.std.specs.Prelude.{slice_range}
use Rattle.std.specs.List.{sum_by}
use Rattle.std.proofs.Math.Numerals.{add-one}
use Rattle.std.proofs.lemmas.Bool.{cases_lt}
use Rattle.std.proofs.lemmas.List.{take-take}
use Rattle.std.proofs.lemmas.List.Edits.{length-between, get_or-between}
use Rattle.std.proofs.lemmas.List.Sums.{sum_by_more, sum_by-take-le, sum_by-le}
use Rattle.sat_words.specs.Literal.{Literal, code_of}
use Rattle.sat_words.specs.Clause.{has, distinct_lits, InOrder}
use Rattle.ring_walk.specs.Occurrences.{codes_of, times, rank, AreNamed, AreOccurrences}
use Rattle.ring_walk.specs.Truths.{is_in, IsOnce, Names}
use Rattle.ring_walk.proofs.Ordered.{distinct, has_times, times_has, times_once}
use Rattle.ring_walk.proofs.Spacing.{climb}
use Rattle.ring_walk.proofs.Taking.{in_own, place_in}

pub rank_next : (G : List (List Literal)) (x j : ℕ) → j < length G → rank G x (j + 1) ≡ rank G x j + times x (get_or G j [])
rank_next G x j lt = sum_by_more (times x) G j [] lt

pub rank_up : (G : List (List Literal)) (x j k : ℕ) → j ≤ k → rank G x j ≤ rank G x k
rank_up G x j k le =
    subst (λ (c : List (List Literal)). sum_by (times x) c ≤ rank G x k) (take-take j k G le) (sum_by-take-le (times x) (take k G) j)

-- which clause comes at a place
pub find_rank : (G : List (List Literal)) (x r n : ℕ) → r < rank G x n → (j : ℕ) × (j < n) × (rank G x j ≤ r) × (r < rank G x (j + 1))
find_rank G x r zero lt = absurd (omega arith)
find_rank G x r (suc n) lt = elim (cases_lt r (rank G x n)) as (λ _. (j : ℕ) × (j < suc n) × (rank G x j ≤ r) × (r < rank G x (j + 1))) [
  | inl low ↦ (let f = find_rank G x r n low in (f.0, omega arith, f.2, f.3))
  | inr high ↦ (n, omega arith, high, subst (λ (m : ℕ). r < rank G x m) (sym (add-one n)) lt)
]

-- where the clauses of a literal start and end, and those that stand there
abbrev pub start_of : List ℕ → Literal → ℕ
start_of starts l = get_or starts (code_of l) 0

abbrev pub end_of : List ℕ → Literal → ℕ
end_of starts l = get_or starts (code_of l + 1) 0

abbrev pub room_of : List ℕ → List ℕ → Literal → List ℕ
room_of starts named l = slice_range named (start_of starts l) (end_of starts l)

module _ (vars : ℕ) (G : List (List Literal)) (starts named : List ℕ) (o : AreOccurrences vars G starts named) (l : Literal) (on : code_of l < codes_of vars) where
  pub next_is : end_of starts l ≡ start_of starts l + rank G (code_of l) (length G)
  next_is = o.spaced.next (code_of l) on

  pub order : start_of starts l ≤ end_of starts l
  order = let n = next_is in omega arith

  pub wide : code_of l + 1 < length starts
  wide = let w = o.spaced.wide in omega arith

  pub ends : end_of starts l ≤ length named
  ends =
      let e = climb starts (codes_of vars) (λ y lt. let n = o.spaced.next y lt in omega arith) (code_of l + 1) (codes_of vars) (omega arith) (omega arith) in
      let f = o.ends in
      omega arith

  size : length (room_of starts named l) ≡ rank G (code_of l) (length G)
  size = let n = next_is in let e = ends in let s = length-between named (start_of starts l) (end_of starts l) ends in omega arith

  -- a clause stands at each place from its rank on, up to the next one's
  stands : (j r : ℕ) → j < length G → rank G (code_of l) j ≤ r → r < rank G (code_of l) (j + 1) → (r < length (room_of starts named l)) × (get_or (room_of starts named l) r 0 ≡ j)
  stands j r low from to =
      let up = rank_up G (code_of l) (j + 1) (length G) (omega arith) in
      let n = next_is in
      let s = size in
      (omega arith, get_or-between named (start_of starts l) (end_of starts l) r 0 (omega arith) ∙ o.each (code_of l) j r on low from to)

  found : (r : ℕ) → r < length (room_of starts named l) → (j : ℕ) × (j < length G) × (rank G (code_of l) j ≤ r) × (r < rank G (code_of l) (j + 1)) × (get_or (room_of starts named l) r 0 ≡ j)
  found r lt =
      let s = size in
      let f = find_rank G (code_of l) r (length G) (omega arith) in
      (f.0, f.1, f.2, f.3, (stands f.0 r f.1 f.2 f.3).1)

  pub low : (k : ℕ) → k < length (room_of starts named l) → get_or (room_of starts named l) k 0 < length G
  low k lt = let f = found k lt in let e = f.4 in let b = f.1 in omega arith

  pub once : ((i : ℕ) → i < length G → distinct_lits (get_or G i []) ≡ true) → IsOnce (room_of starts named l)
  once distinct j k lt high e =
      let f = found k high in
      let g = found j (omega arith) in
      let same : g.0 ≡ f.0 = sym g.4 ∙ e ∙ f.4 in
      let one = times_once (code_of l) (get_or G f.0 []) (distinct f.0 f.1) in
      let next = rank_next G (code_of l) f.0 f.1 in
      let from : rank G (code_of l) f.0 ≤ j = subst (λ (m : ℕ). rank G (code_of l) m ≤ j) same g.2 in
      let to = f.3 in
      omega arith

  pub names : Names G l (room_of starts named l)
  names i lt = alike (is_in (room_of starts named l) i) (has (get_or G i []) l)
      (λ h.
      let p = place_in (room_of starts named l) i h in
      let f = found p.0 p.1 in
      let is : f.0 ≡ i = sym f.4 ∙ p.2 in
      let next = rank_next G (code_of l) f.0 f.1 in
      let from = f.2 in
      let to = f.3 in
      times_has l (get_or G i []) (subst (λ (m : ℕ). 1 ≤ times (code_of l) (get_or G m [])) is (omega arith)))
      (λ h.
      let some = has_times l (get_or G i []) h in
      let next = rank_next G (code_of l) i lt in
      let s = stands i (rank G (code_of l) i) lt (omega arith) (omega arith) in
      subst (λ (m : ℕ). is_in (room_of starts named l) m ≡ true) s.1 (in_own (room_of starts named l) (rank G (code_of l) i) s.0))
    where
      alike : (a b : Bool) → (a ≡ true → b ≡ true) → (b ≡ true → a ≡ true) → a ≡ b
      alike true b f g = sym (f refl)
      alike false true f g = g refl
      alike false false f g = refl

-- no code occurs in more clauses than there are
pub rank_small : (G : List (List Literal)) (x j : ℕ) → All InOrder G → rank G x j ≤ length G
rank_small G x j ordered =
    let t = sum_by-take-le (times x) G j in
    let s = sum_by-le (times x) 1 G (λ k d lt. times_once x (get_or G k d) (distinct (get_or G k d) (ordered k d lt))) in
    omega arith

-- one more clause is named
pub named_more : (G : List (List Literal)) (codes : ℕ) (starts N M F : List ℕ) (i : ℕ) → i < length G → ((x : ℕ) → x < codes → get_or F x 0 ≡ rank G x i)
    → ((x r : ℕ) → x < codes → r < get_or F x 0 → get_or M (get_or starts x 0 + r) 0 ≡ get_or N (get_or starts x 0 + r) 0)
    → ((x r : ℕ) → x < codes → get_or F x 0 ≤ r → r < get_or F x 0 + times x (get_or G i []) → get_or M (get_or starts x 0 + r) 0 ≡ i)
    → AreNamed G codes starts N i → AreNamed G codes starts M (i + 1)
named_more G codes starts N M F i lt filled kept added was x j r low below from to = elim (cases_lt j i) as (λ _. get_or M (get_or starts x 0 + r) 0 ≡ j) [
  | inl before ↦ (
      let up = rank_up G x (j + 1) i (omega arith) in
      let f = filled x low in
      kept x r low (omega arith) ∙ was x j r low before from to)
  | inr here ↦ (
      let e : i ≡ j = omega arith in
      let f = filled x low in
      let next = rank_next G x i lt in
      let from_i : rank G x i ≤ r = subst (λ (m : ℕ). rank G x m ≤ r) (sym e) from in
      let to_i : r < rank G x (i + 1) = subst (λ (m : ℕ). r < rank G x (m + 1)) (sym e) to in
      added x r low (omega arith) (omega arith) ∙ e)
]
