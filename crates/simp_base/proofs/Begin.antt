-- How a work begins.
use Rattle.std.proofs.Common.{◌≡◌, ℕ, zero, suc, ◌+◌, ◌<◌, true, false, List, [], ◌∷◌, ◌++◌, length, take, get_or, refl, sym, ap, ◌∙◌, subst, inl, inr, arith, Some, Contains}
use Rattle.std.proofs.lemmas.Bool.{true≢false}
use Rattle.std.specs.List.{All, slice_get}
use Rattle.std.specs.Option.{option_map}
use Rattle.sat_words.specs.Literal.{Literal, IsOn}
use Rattle.sat_words.specs.Clause.{InOrder, clause_of}
use Rattle.sat_words.proofs.Canonical.{same_clause}
use Rattle.sat_words.proofs.Insertion.{InOrder-clause_of, clause_of_in_order}
use Rattle.sat_words.specs.FormulaData.{FormulaData}
use Rattle.rup_model.specs.Journal.{formula_clause, is_told}
use Rattle.rup_model.proofs.Lists.{In, In_Contains, Contains_In}
use Rattle.rup_model.proofs.Covers.{same_has}
use Rattle.rup_model.proofs.Told.{told_alive}
use Rattle.rup_model.proofs.JournalSteps.{log_starts}
use Rattle.drat_text.specs.LineState.{LineState}
use Rattle.drat_text.proofs.JournalLines.{has_text_begun}
use Rattle.simp_base.specs.WorkState.{IsWork, lists, numbered, begun, is_unit}
use Rattle.simp_base.specs.Log.{Stands}
use Rattle.simp_base.proofs.Keeping.{clause_of_on}
use Rattle.simp_base.proofs.Order.{held_ordered}
use Rattle.simp_base.proofs.Steps.{unit_alive}

-- one more clause
pub numbered_more : (n : ℕ) (F : List (List Literal)) (i : ℕ) (d : List Literal) → i < length F → numbered n (take (i + 1) F) ≡ numbered n (take i F) ++ (n + i, clause_of (get_or F i d)) ∷ []
numbered_more n [] i d lt = absurd (omega arith)
numbered_more n (c ∷ F) zero d lt = let e : n ≡ n + 0 = omega arith in ap (λ k. (k, clause_of c) ∷ []) e
numbered_more n (c ∷ F) (suc i) d lt =
    let e : suc i + 1 ≡ suc (i + 1) = omega arith in
    let k : suc n + i ≡ n + suc i = omega arith in
    ap (λ j. numbered n (take j (c ∷ F))) e ∙ ap (λ xs. (n, clause_of c) ∷ xs) (numbered_more (suc n) F i d (omega arith) ∙ ap (λ j. numbered (suc n) (take i F) ++ (j, clause_of (get_or F i d)) ∷ []) k)

length-numbered : (n : ℕ) (F : List (List Literal)) → length (numbered n F) ≡ length F
length-numbered n [] = refl
length-numbered n (c ∷ F) = ap suc (length-numbered (suc n) F)

number_at : (n : ℕ) (F : List (List Literal)) (i : ℕ) (d : ℕ × List Literal) → i < length F → (get_or (numbered n F) i d).0 ≡ n + i
number_at n [] i d lt = absurd (omega arith)
number_at n (c ∷ F) zero d lt = omega arith
number_at n (c ∷ F) (suc i) d lt = let r = number_at (suc n) F i d (omega arith) in omega arith

on_numbered : (vars n : ℕ) (F : List (List Literal)) → All (All (IsOn vars)) F → All (All (IsOn vars)) (lists (numbered n F))
on_numbered vars n [] all k d lt = absurd (omega arith)
on_numbered vars n (c ∷ F) all zero d lt = clause_of_on vars c (all zero c (omega arith))
on_numbered vars n (c ∷ F) all (suc k) d lt = on_numbered vars (suc n) F (λ j e jl. all (suc j) e (omega arith)) k d (omega arith)

-- the clause with a number
held_from : (n : ℕ) (F : List (List Literal)) (k : ℕ) (c : List Literal) → In (k, c) (numbered n F) → (i : ℕ) × (k ≡ n + i) × (option_map clause_of (slice_get F i) ≡ Some c)
held_from n [] k c i = absurd i
held_from n (d ∷ F) k c (inl e) = (0, (let a : n ≡ k = ap (λ (x : ℕ × List Literal). x.0) e in omega arith), ap (λ (x : ℕ × List Literal). Some x.1) e)
held_from n (d ∷ F) k c (inr i) = let t = held_from (suc n) F k c i in (suc t.0, (let z = t.1 in omega arith), t.2)

all_from : (n : ℕ) (F : List (List Literal)) (i : ℕ) (c : List Literal) → option_map clause_of (slice_get F i) ≡ Some c → In (n + i, c) (numbered n F)
all_from n [] i c is = absurd (cc)
all_from n (d ∷ F) zero c is = let e : clause_of d ≡ c = cc in let k : n ≡ n + 0 = omega arith in inl (λ j. (k j, e j))
all_from n (d ∷ F) (suc i) c is = let k : suc n + i ≡ n + suc i = omega arith in inr (subst (λ j. In (j, c) (numbered (suc n) F)) k (all_from (suc n) F i c is))

pub begun_work : (F : FormulaData) (out : LineState) → out.last ≡ length F.clauses → All (All (IsOn F.vars)) F.clauses → IsWork (begun F out)
begun_work F out last on = record {
  unheld = omega arith;
  numbers = λ i j d ij jl q. (
      let n = length-numbered 1 F.clauses in
      let a = number_at 1 F.clauses i d (omega arith) in
      let b = number_at 1 F.clauses j d (omega arith) in omega arith);
  given = λ k d lt. (let n = length-numbered 1 F.clauses in let a = number_at 1 F.clauses k d (omega arith) in omega arith);
  clauses_on = on_numbered F.vars 1 F.clauses on;
  units_on = λ k d lt. absurd (omega arith);
  stack_on = λ k d lt. absurd (omega arith);
  distinct = refl;
  units_held = λ k d lt. absurd (omega arith);
}

pub begun_stands : (F : FormulaData) (out : LineState) → out.spent ≡ false → out.entries ≡ 0 → out.last ≡ length F.clauses → Stands (record { formula = F.clauses; journal = []; output = out }) [] (begun F out)
begun_stands F out unspent blank last = record {
  sound = log_starts F.clauses;
  hinted = λ _. tt;
  rulers = λ k d lt. absurd (omega arith);
  on = λ k d lt. absurd (omega arith);
  ended = refl;
  held = λ n c h. (
      let t = held_from 1 F.clauses n c (Contains_In (numbered 1 F.clauses) (n, c) h) in
      let e : n ≡ suc t.0 = (let z = t.1 in omega arith) in
      ap (λ (m : ℕ). option_map clause_of (formula_clause F.clauses m)) e ∙ ap (option_map clause_of) t.2
      ∙ ap (λ (d : List Literal). Some d) (clause_of_in_order c (held_ordered (slice_get F.clauses t.0) c t.2)));
  all = λ n c is. inl (subst (λ (d : List Literal). Contains (numbered 1 F.clauses) (n, d)) (sym (clause_of_in_order c (in_order n c is))) (all n c is));
  alone = λ n l h. (
      let t = held_from 1 F.clauses n (l ∷ []) (Contains_In (numbered 1 F.clauses) (n, l ∷ []) h) in
      let e : n ≡ suc t.0 = (let z = t.1 in omega arith) in
      ap (formula_clause F.clauses) e ∙ t.2);
  told = λ k d lt. absurd (omega arith);
  every = every;
  lines = record {
    entries = blank;
    last = (let z = last in omega arith);
    whole = λ q. has_text_begun (record { formula = F.clauses; journal = []; output = out });
    short = λ q. absurd (true≢false (sym q ∙ unspent));
    target = refl;
    flushed = refl;
  };
}
  where
    all : (n : ℕ) (c : List Literal) → formula_clause F.clauses n ≡ Some c → Contains (numbered 1 F.clauses) (n, c)
    all zero c is = absurd (cc)
    all (suc i) c is = let e : 1 + i ≡ suc i = omega arith in In_Contains (numbered 1 F.clauses) (suc i, c) (subst (λ j. In (j, c) (numbered 1 F.clauses)) e (all_from 1 F.clauses i c is))

    in_order : (n : ℕ) (c : List Literal) → formula_clause F.clauses n ≡ Some c → InOrder c
    in_order zero c is = absurd (cc)
    in_order (suc i) c is = held_ordered (slice_get F.clauses i) c is

    every : (l : Literal) → is_told F.clauses [] l ≡ true → is_unit (begun F out) l ≡ true
    every l t =
        let u = told_alive F.clauses [] l (log_starts F.clauses).fits t in
        let there : Contains (numbered 1 F.clauses) (u.0, u.1) = all u.0 u.1 u.2 in
        let found = held_from 1 F.clauses u.0 u.1 (Contains_In (numbered 1 F.clauses) (u.0, u.1) there) in
        unit_alive (begun F out) u.0 u.1 l there
        (sym (same_clause (l ∷ []) u.1 (InOrder-clause_of (l ∷ [])) (held_ordered (slice_get F.clauses found.0) u.1 found.2) (same_has (l ∷ []) u.1 u.3)))

-- a copy of a clause of the formula is on the variables
pub copy_on : (vars : ℕ) (F : List (List Literal)) (i : ℕ) (x copy : List Literal) → All (All (IsOn vars)) F → i < length F → x ≡ get_or F i x → copy ≡ clause_of x → All (IsOn vars) copy
copy_on vars F i x copy on lt is same = subst (All (IsOn vars)) (sym same) (clause_of_on vars x (subst (All (IsOn vars)) (sym is) (on i x lt)))
