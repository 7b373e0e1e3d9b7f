-- Lists of cells, and how often an address stands in them.
use Rattle.std.proofs.Common.{◌≡◌, ◌≢◌, ℕ, ◌+◌, ◌<◌, ◌≤◌, ◌==◌, Bool, true, false, cond, List, [], ◌∷◌, ◌++◌, All, refl, sym, ap, ◌∙◌, subst, inl, inr, arith, eq-eqb, ne_eqb}
use Rattle.std.proofs.lemmas.List.Elements.{All-append}
use mathlib.Core.Logic.{dite}
use native.Mathlib.Decide.{ℕ_discrete}
use Rattle.rup_model.specs.Basics.{one_if}
use Rattle.rup_model.proofs.Lists.{In, In_Contains}
use Rattle.rup_model.proofs.ProgramOpening.{All_from_In}
use Rattle.share_core.specs.declared.stored.ClauseAt.{ClauseAt}
use Rattle.share_core.specs.State.{times_at, without_at, with_cell}

-- How often

pub at_here : (h : ClauseAt) (b : ℕ) → h.address ≡ b → one_if (h.address == b) ≡ 1
at_here h b e = ap one_if (eq-eqb h.address b e)

pub at_else : (h : ClauseAt) (b : ℕ) → h.address ≢ b → one_if (h.address == b) ≡ 0
at_else h b n = ap one_if (ne_eqb h.address b n)

pub at_without : (a b : ℕ) (xs : List ClauseAt) → 0 < times_at a xs → times_at b (without_at a xs) + one_if (a == b) ≡ times_at b xs
at_without a b [] h = absurd (omega arith)
at_without a b (x ∷ xs) h = dite (ℕ_discrete x.address a)
    (λ e. subst (λ t. times_at b (cond t xs (x ∷ without_at a xs)) + one_if (a == b) ≡ times_at b (x ∷ xs)) (sym (eq-eqb x.address a e)) (let s : one_if (x.address == b) ≡ one_if (a == b) = ap (λ y. one_if (y == b)) e in omega arith))
    (λ n. let f : (x.address == a) ≡ false = ne_eqb x.address a n in let z : one_if (x.address == a) ≡ 0 = ap one_if f in let h' : 0 < times_at a xs = omega arith in
    subst (λ t. times_at b (cond t xs (x ∷ without_at a xs)) + one_if (a == b) ≡ times_at b (x ∷ xs)) (sym f) (let s = at_without a b xs h' in omega arith))

pub at_both : (b : ℕ) (xs ys : List ClauseAt) → times_at b (xs ++ ys) ≡ times_at b xs + times_at b ys
at_both b [] ys = omega arith
at_both b (x ∷ xs) ys = let r = at_both b xs ys in omega arith

pub at_some : (h : ClauseAt) (b : ℕ) (xs : List ClauseAt) → b ≢ 0 → times_at b (with_cell h xs) ≡ times_at b xs + one_if (h.address == b)
at_some h b xs nz = let m = at_both b xs (h ∷ []) in dite (ℕ_discrete h.address 0)
    (λ e. subst (λ t. times_at b (cond t xs (xs ++ h ∷ [])) ≡ times_at b xs + one_if (h.address == b)) (sym (eq-eqb h.address 0 e)) (let s = at_else h b (λ q. nz (sym q ∙ e)) in omega arith))
    (λ ne. subst (λ t. times_at b (cond t xs (xs ++ h ∷ [])) ≡ times_at b xs + one_if (h.address == b)) (sym (ne_eqb h.address 0 ne)) (omega arith))

pub at_some_zero : (h : ClauseAt) (xs : List ClauseAt) → times_at 0 (with_cell h xs) ≡ times_at 0 xs
at_some_zero h xs = dite (ℕ_discrete h.address 0)
    (λ q. (λ j. times_at 0 (cond (eq-eqb h.address 0 q j) xs (xs ++ h ∷ []))))
    (λ q. (λ j. times_at 0 (cond (ne_eqb h.address 0 q j) xs (xs ++ h ∷ []))) ∙ (let m = at_both 0 xs (h ∷ []) in let u = at_else h 0 q in omega arith))

pub at_fewer : (b a : ℕ) (xs : List ClauseAt) → times_at a (without_at b xs) ≤ times_at a xs
at_fewer b a [] = omega arith
at_fewer b a (x ∷ xs) = let r = at_fewer b a xs in
    dite (ℕ_discrete x.address b)
    (λ e. subst (λ t. times_at a (cond t xs (x ∷ without_at b xs)) ≤ times_at a (x ∷ xs)) (sym (eq-eqb x.address b e)) (omega arith))
    (λ n. subst (λ t. times_at a (cond t xs (x ∷ without_at b xs)) ≤ times_at a (x ∷ xs)) (sym (ne_eqb x.address b n)) (omega arith))

pub at_more : (b : Bool) (i : ℕ) (h : ClauseAt) (xs : List ClauseAt) → times_at i (cond b (xs ++ h ∷ []) xs) ≡ times_at i xs + cond b (one_if (h.address == i)) 0
at_more true i h xs = let m = at_both i xs (h ∷ []) in omega arith
at_more false i h xs = omega arith

pub at_in : (hs : List ClauseAt) (h : ClauseAt) → In h hs → 0 < times_at h.address hs
at_in [] h i = absurd i
at_in (x ∷ hs) h (inl e) = let o = at_here x h.address (ap (λ (q : ClauseAt). q.address) e) in omega arith
at_in (x ∷ hs) h (inr i) = let r = at_in hs h i in omega arith

pub in_at : (a : ℕ) (hs : List ClauseAt) → 0 < times_at a hs → (h : ClauseAt) × In h hs × (h.address ≡ a)
in_at a [] h = absurd (omega arith)
in_at a (x ∷ hs) h = dite (ℕ_discrete x.address a)
    (λ e. (x, inl refl, e))
    (λ ne. let u = at_else x a ne in let t = in_at a hs (omega arith) in (t.0, inr t.1, t.2))

-- What holds of all

pub all_in : {X : Type 0} (P : X → Type 0) (xs : List X) (x : X) → In x xs → All P xs → P x
all_in P xs x i h = let t = In_Contains xs x i in subst P t.2 (h t.0 x t.1)

pub all_map : {X : Type 0} (P Q : X → Type 0) (xs : List X) → ((x : X) → In x xs → P x → Q x) → All P xs → All Q xs
all_map P Q xs f h = All_from_In Q xs (λ x i. f x i (all_in P xs x i h))

pub all_one : {X : Type 0} (P : X → Type 0) (x : X) → P x → All P (x ∷ [])
all_one {X} P x p = All_from_In P (x ∷ []) one
  where
    one : (y : X) → In y (x ∷ []) → P y
    one y (inl e) = subst P e p
    one y (inr i) = absurd i

pub all_last : {X : Type 0} (P : X → Type 0) (xs : List X) (x : X) → All P xs → P x → All P (xs ++ x ∷ [])
all_last P xs x h p = All-append P xs (x ∷ []) h (all_one P x p)

pub without_in : (a : ℕ) (xs : List ClauseAt) (x : ClauseAt) → In x (without_at a xs) → In x xs
without_in a [] x i = i
without_in a (y ∷ xs) x i = by (y.address == a) i (without_in a xs x)
  where
    by : (b : Bool) → In x (cond b xs (y ∷ without_at a xs)) → (In x (without_at a xs) → In x xs) → In x (y ∷ xs)
    by true k f = inr k
    by false (inl e) f = inl e
    by false (inr k) f = inr (f k)

pub all_without : (P : ClauseAt → Type 0) (a : ℕ) (xs : List ClauseAt) → All P xs → All P (without_at a xs)
all_without P a xs h = All_from_In P (without_at a xs) (λ x i. all_in P xs x (without_in a xs x i) h)

pub all_some : (P : ClauseAt → Type 0) (h : ClauseAt) (xs : List ClauseAt) → All P xs → (h.address ≢ 0 → P h) → All P (with_cell h xs)
all_some P h xs k f = dite (ℕ_discrete h.address 0)
    (λ e. subst (λ t. All P (cond t xs (xs ++ h ∷ []))) (sym (eq-eqb h.address 0 e)) k)
    (λ n. subst (λ t. All P (cond t xs (xs ++ h ∷ []))) (sym (ne_eqb h.address 0 n)) (all_last P xs h k (f n)))

pub all_more : (P : ClauseAt → Type 0) (b : Bool) (h : ClauseAt) (xs : List ClauseAt) → All P xs → P h → All P (cond b (xs ++ h ∷ []) xs)
all_more P true h xs all one = all_last P xs h all one
all_more P false h xs all one = all
