-- Accepted lines keep a formula satisfiable.
use Rattle.std.proofs.Common.{◌≡◌, ◌⊎◌, suc, ◌≤◌, Bool, true, false, refl, List, [], ◌∷◌, ◌++◌, All, sym, subst, inl, inr, arith}
use Rattle.std.specs.List.{fold}
use Rattle.std.proofs.lemmas.Bool.{or_cases, and_from, cases_Bool, false≢true}
use Rattle.sat_words.specs.Literal.{Literal}
use Rattle.sat_words.specs.Truth.{clause_true, formula_true}
use Rattle.sat_words.specs.declared.line.Line.{Line}
use Rattle.sat_words.specs.declared.line.Line.TheVariants.{Add, Del}
use Rattle.rup_model.specs.Basics.{EachAfter}
use Rattle.rup_model.specs.Rup.{rup, rat}
use Rattle.rup_model.specs.Log.{without_copy, alive_after, alive, is_valid, Accepted, Refutes, lits_of, OnVariables}
use Rattle.rup_model.proofs.Lists.{all_In, In_all, In_has}
use Rattle.rup_model.proofs.RoundsLemmas.{rup_true}
use Rattle.rup_model.proofs.RatLaw.{rat_true}
use Rattle.rup_model.proofs.Sequences.{fold_last, EachState, to_states}
use Rattle.rup_model.proofs.Copies.{without_copy_In}

-- some assignment is true on the clauses
abbrev pub HasModel : List (List Literal) → Type 0
HasModel G = (b : List Bool) × (formula_true b G ≡ true)

-- the line is RUP, or its literals are on variables from 1 on
abbrev pub IsSafe : List (List Literal) → Line → Type 0
IsSafe G (Add c) = (rup G c ≡ true) ⊎ ((rat G c ≡ true) × All (λ l. 1 ≤ l.var) c)
IsSafe G (Del c) = Unit {0}

rat_keeps : (G : List (List Literal)) (c : List Literal) → rat G c ≡ true → All (λ l. 1 ≤ l.var) c → HasModel G → HasModel (c ∷ G)
rat_keeps G [] r on m = absurd (false≢true r)
rat_keeps G (p ∷ c) r on m =
    let pos : 1 ≤ p.var = on 0 p (omega arith) in
    let t = rat_true G p (p ∷ c) pos (In_has (p ∷ c) p (inl refl)) r m.0 m.1 in
    (t.0, and_from _ _ t.2 t.1)

safe_keeps : (G : List (List Literal)) (x : Line) → IsSafe G x → HasModel G → HasModel (alive_after G x)
safe_keeps G (Add c) (inl r) m = (m.0, and_from _ _ (rup_true m.0 G c r m.1) m.1)
safe_keeps G (Add c) (inr r) m = rat_keeps G c r.0 r.1 m
safe_keeps G (Del c) s m = (m.0, In_all (clause_true m.0) (without_copy c G) (λ d i. all_In (clause_true m.0) G d m.1 (without_copy_In c G d i)))

valid_safe : (G : List (List Literal)) (x : Line) → is_valid G x ≡ true → All (λ l. 1 ≤ l.var) (lits_of x) → IsSafe G x
valid_safe G (Add c) v on = elim (or_cases (rup G c) (rat G c) v) as (λ _. IsSafe G (Add c)) [ inl r ↦ inl r | inr r ↦ inr (r, on) ]
valid_safe G (Del c) v on = tt

-- an accepted line keeps clauses satisfiable
pub valid_keeps : (G : List (List Literal)) (x : Line) → is_valid G x ≡ true → All (λ l. 1 ≤ l.var) (lits_of x) → HasModel G → HasModel (alive_after G x)
valid_keeps G x v on m = safe_keeps G x (valid_safe G x v on) m

all_keep : (G : List (List Literal)) (L : List Line) → EachState alive_after IsSafe G L → HasModel G → HasModel (fold alive_after G L)
all_keep G [] h m = m
all_keep G (x ∷ L) h m = all_keep (alive_after G x) L h.1 (safe_keeps G x h.0 m)

all_safe : (G : List (List Literal)) (L : List Line) → EachState alive_after (λ H x. is_valid H x ≡ true) G L → OnVariables L → EachState alive_after IsSafe G L
all_safe G [] h on = tt
all_safe G (x ∷ L) h on = (valid_safe G x h.0 (on 0 x (omega arith)), all_safe (alive_after G x) L h.1 (λ k d lt. on (suc k) d (omega arith)))

-- and so does an accepted log
pub accepted_keeps : (F : List (List Literal)) (L : List Line) → Accepted F L → OnVariables L → HasModel F → HasModel (alive F L)
accepted_keeps F L h on m = all_keep F L (all_safe F L (to_states alive_after (λ H x. is_valid H x ≡ true) F [] L h) on) m

-- also one whose additions are all RUP, on any variables
pub safe_keeps_all : (F : List (List Literal)) (L : List Line) → EachAfter (λ before x. IsSafe (alive F before) x) [] L → HasModel F → HasModel (alive F L)
safe_keeps_all F L h m = all_keep F L (to_states alive_after IsSafe F [] L h) m

-- nothing is true on what a log leaves that ends with the empty clause
pub ends_false : (F : List (List Literal)) (L before : List Line) → L ≡ before ++ Add [] ∷ [] → HasModel (alive F L) → ⊥
ends_false F L before e m =
    let at : alive F L ≡ [] ∷ alive F before = subst (λ (K : List Line). alive F K ≡ [] ∷ alive F before) (sym e) (fold_last alive_after F before (Add [])) in
    false≢true (subst (λ (G : List (List Literal)). formula_true m.0 G ≡ true) at m.1)

pub refutes_none : (F : List (List Literal)) (L : List Line) → Refutes F L → OnVariables L → HasModel F → ⊥
refutes_none F L r on m = ends_false F L r.ends.0 r.ends.1 (accepted_keeps F L r.accepted on m)

-- no assignment is true on clauses that have no model
pub none_true : (F : List (List Literal)) → (HasModel F → ⊥) → (a : List Bool) → formula_true a F ≡ false
none_true F no' a = elim (cases_Bool (formula_true a F)) as (λ _. formula_true a F ≡ false) [ inl t ↦ absurd (no' (a, t)) | inr f ↦ f ]
