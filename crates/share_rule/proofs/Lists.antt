-- Lists of rings, of clauses and of glues.
use Rattle.std.proofs.Common.{◌≡◌, ◌≢◌, ℕ, zero, suc, ◌+◌, ◌<◌, ◌≤◌, ◌==◌, ◌&&◌, Bool, true, false, not, cond, List, [], ◌∷◌, ◌++◌, map, All, refl, sym, ap, ◌∙◌, subst, ⊎_elim, inl, inr, arith, eq-eqb, ne_eqb, set, length}
use Rattle.std.specs.Prelude.{slice_index}
use mathlib.Core.Option.{some, some-injective, some-ne-none}
use mathlib.Core.Logic.{dite}
use native.Mathlib.Decide.{ℕ_discrete}
use lib.ListN.{get_elem?}
use Rattle.rup_model.specs.Basics.{one_if}
use Rattle.rup_model.proofs.Lists.{In}
use Rattle.rup_model.proofs.ProgramOpening.{All_from_In}
use Rattle.share_core.specs.declared.stored.ClauseAt.{ClauseAt}
use Rattle.share_core.specs.State.{times_at, without_at}
use Rattle.share_core.proofs.ClauseLists.{all_in, at_else}
use Rattle.share_rule.specs.declared.view.RingPart.{RingPart}
use Rattle.share_rule.specs.Views.{times_in, without_in, clause_in, glue_in, start_glues}
use Rattle.share_rule.specs.Shown.{ring_of}

-- Rings

pub times_without : (a b : ℕ) (xs : List ℕ) → 0 < times_in a xs → times_in b (without_in a xs) + one_if (a == b) ≡ times_in b xs
times_without a b [] h = absurd (omega arith)
times_without a b (x ∷ xs) h = dite (ℕ_discrete x a)
    (λ e. subst (λ t. times_in b (cond t xs (x ∷ without_in a xs)) + one_if (a == b) ≡ times_in b (x ∷ xs)) (sym (eq-eqb x a e)) (let s : one_if (x == b) ≡ one_if (a == b) = ap (λ y. one_if (y == b)) e in omega arith))
    (λ n. let f : (x == a) ≡ false = ne_eqb x a n in let z : one_if (x == a) ≡ 0 = ap one_if f in let h' : 0 < times_in a xs = omega arith in
    subst (λ t. times_in b (cond t xs (x ∷ without_in a xs)) + one_if (a == b) ≡ times_in b (x ∷ xs)) (sym f) (let s = times_without a b xs h' in omega arith))

pub times_both : (b : ℕ) (xs ys : List ℕ) → times_in b (xs ++ ys) ≡ times_in b xs + times_in b ys
times_both b [] ys = omega arith
times_both b (x ∷ xs) ys = let r = times_both b xs ys in omega arith

pub ring_here : (r : ℕ) → times_in r (r ∷ []) ≡ 1
ring_here r = let s : one_if (r == r) ≡ 1 = ap one_if (eq-eqb r r refl) in omega arith

pub times_at_part : (ps : List RingPart) (i : ℕ) (y : RingPart) → get_elem? ps i ≡ some y → 0 < times_in (ring_of y) (map ring_of ps)
times_at_part [] i y e = absurd (some-ne-none y (sym e))
times_at_part (x ∷ xs) zero y e = let same : ring_of x ≡ ring_of y = ap ring_of (some-injective x y e) in let o : one_if (ring_of x == ring_of y) ≡ 1 = ap one_if (eq-eqb (ring_of x) (ring_of y) same) in omega arith
times_at_part (x ∷ xs) (suc i) y e = let k = times_at_part xs i y e in omega arith

-- both tests hold if their conjunction counts
pub both_true : (a b : Bool) → 0 < one_if (a && b) → (a ≡ true) × (b ≡ true)
both_true true true h = (refl, refl)
both_true true false h = absurd (omega arith)
both_true false b h = absurd (omega arith)

pub not_true : (b : Bool) → not b ≡ true → b ≡ false
not_true true e = sym e
not_true false e = refl

-- no test at a number that differs
pub off : (x j : ℕ) (b : Bool) → x ≢ j → one_if ((x == j) && b) ≡ 0
off x j b n = ap (λ t. one_if (t && b)) (ne_eqb x j n)

pub on : (x j : ℕ) (b : Bool) → x ≡ j → one_if ((x == j) && b) ≡ one_if b
on x j b e = ap (λ t. one_if (t && b)) (eq-eqb x j e)

pub no_test : (a : Bool) → one_if (a && false) ≡ 0
no_test true = refl
no_test false = refl

pub small_test : (a b : Bool) → one_if (a && b) ≤ 1
small_test true true = omega arith
small_test true false = omega arith
small_test false b = omega arith

-- Clauses

pub first_at : (a : ℕ) (hs : List ClauseAt) → 0 < times_at a hs → In (clause_in a hs) hs × ((clause_in a hs).address ≡ a)
first_at a [] h = absurd (omega arith)
first_at a (x ∷ hs) h = dite (ℕ_discrete x.address a)
    (λ e. subst (λ t. In (cond t x (clause_in a hs)) (x ∷ hs) × ((cond t x (clause_in a hs)).address ≡ a)) (sym (eq-eqb x.address a e)) (inl refl, e))
    (λ n. let z = at_else x a n in let k = first_at a hs (omega arith) in
    subst (λ t. In (cond t x (clause_in a hs)) (x ∷ hs) × ((cond t x (clause_in a hs)).address ≡ a)) (sym (ne_eqb x.address a n)) (inr k.0, k.1))

in_without : (a : ℕ) (hs : List ClauseAt) (h : ClauseAt) → In h (without_at a hs) → In h hs
in_without a [] h i = i
in_without a (x ∷ hs) h i = dite (ℕ_discrete x.address a)
    (λ e. inr (subst (λ t. In h (cond t hs (x ∷ without_at a hs))) (eq-eqb x.address a e) i))
    (λ n. ⊎_elim (λ t. inl t) (λ t. inr (in_without a hs h t)) (subst (λ t. In h (cond t hs (x ∷ without_at a hs))) (ne_eqb x.address a n) i))

pub all_without : (P : ClauseAt → Type 0) (a : ℕ) (hs : List ClauseAt) → All P hs → All P (without_at a hs)
all_without P a hs h = All_from_In P (without_at a hs) (λ x i. all_in P hs x (in_without a hs x i) h)

pub all_more : (P : ClauseAt → Type 0) (hs : List ClauseAt) (x : ClauseAt) → All P hs → P x → All P (hs ++ x ∷ [])
all_more P hs x h p = All_from_In P (hs ++ x ∷ []) (each hs (λ y i. all_in P hs y i h))
  where
    each : (ks : List ClauseAt) → ((y : ClauseAt) → In y ks → P y) → (y : ClauseAt) → In y (ks ++ x ∷ []) → P y
    each [] k y (inl e) = subst P e p
    each [] k y (inr i) = absurd i
    each (z ∷ ks) k y (inl e) = k y (inl e)
    each (z ∷ ks) k y (inr i) = each ks (λ w j. k w (inr j)) y i

-- Glues

pub start_glue : (n : ℕ) (ss : List ClauseAt) → glue_in n (start_glues ss) ≡ 0
start_glue n [] = refl
start_glue n (s ∷ ss) = dite (ℕ_discrete s.number n)
    (λ e i. cond (eq-eqb s.number n e i) 0 (glue_in n (start_glues ss)))
    (λ ne. (λ i. cond (ne_eqb s.number n ne i) 0 (glue_in n (start_glues ss))) ∙ start_glue n ss)

-- Places

pub at_in : {A : Type 0} (xs : List A) (i : ℕ) (x : A) → get_elem? xs i ≡ some x → i < length xs
at_in [] i x e = absurd (some-ne-none x (sym e))
at_in (y ∷ ys) zero x e = omega arith
at_in (y ∷ ys) (suc i) x e = let k = at_in ys i x e in omega arith

pub set_itself : (ws : List ℕ) (i : ℕ) → set ws i (slice_index ws i) ≡ ws
set_itself [] i = refl
set_itself (x ∷ ws) zero = refl
set_itself (x ∷ ws) (suc i) = ap (λ (ys : List ℕ). x ∷ ys) (set_itself ws i)
