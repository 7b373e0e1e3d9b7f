-- Slots, and the clauses whose watches they have.
use Rattle.std.proofs.Common.{◌≡◌, ◌≢◌, ℕ, zero, suc, ◌<◌, ◌≤◌, ◌+◌, ◌⊎◌, ◌==◌, Bool, true, false, not, cond, List, [], ◌∷◌, ◌++◌, length, get_or, Option, Some, None, sym, refl, ap, subst, ◌∙◌, inl, inr, arith, Contains}
use Rattle.std.proofs.Math.ListN.{set}
use Rattle.std.specs.List.{filter, filter_map}
use Rattle.std.specs.Option.{is_some}
use Rattle.std.proofs.lemmas.Bool.Decides.{nat_tests}
use Rattle.std.proofs.lemmas.List.{length-set, get_or-set_same, get_or-set_other, get_or_default, get_or_append_left, get_or_push, length-append}
use Rattle.std.proofs.lemmas.List.Elements.{filter_map-append}
use Rattle.sat_words.specs.Literal.{Literal}
use Rattle.sat_words.specs.declared.shared.Cref.{Cref}
use Rattle.watch_prop.specs.declared.watch.Watch.{Watch}
use Rattle.watch_prop.specs.WatchData.{clause_in, without, is_among, without_all}
use Rattle.watch_prop.specs.Packed.{with_literals}
use Rattle.watch_prop.specs.Watched.{At}
use Rattle.watch_prop.proofs.ListsLemmas.{cases_eq}

pub unsome : {X : Type 0} (x y : X) → Some x ≡ Some y → x ≡ y
unsome x y e = cc

-- the element at a place is one
pub At-same : {X : Type 0} (xs : List X) (i : ℕ) (x y : X) → At xs i x → At xs i y → x ≡ y
At-same xs i x y a b = sym a.1 ∙ get_or_default xs i x y a.0 ∙ b.1

pub At-set : {X : Type 0} (xs : List X) (j i : ℕ) (y x : X) → At (set xs j y) i x → ((i ≡ j) × (x ≡ y)) ⊎ ((i ≢ j) × At xs i x)
At-set {X} xs j i y x a =
    let lt : i < length xs = omega (arith, a.0, length-set xs j y) in
    elim (cases_eq i j) as (λ _. ((i ≡ j) × (x ≡ y)) ⊎ ((i ≢ j) × At xs i x)) [
      | inl e ↦ (
          let b : get_or (set xs j y) j x ≡ x = subst (λ (k : ℕ). get_or (set xs j y) k x ≡ x) e a.1 in
          inl (e, sym b ∙ get_or-set_same xs j y x (omega arith)))
      | inr n ↦ inr (n, (lt, sym (get_or-set_other xs j i y x n) ∙ a.1))
    ]

-- a watch that was read
pub watch_read : (ws : List (Option Watch)) (i : ℕ) (o : Option Watch) (s : Watch) → i < length ws → o ≡ get_or ws i None → o ≡ Some s → At ws i (Some s)
watch_read ws i o s lt q is = (lt, get_or_default ws i (Some s) None lt ∙ sym q ∙ is)

-- a free slot has no watch
pub free_read : (ws : List (Option Watch)) (i : ℕ) (o : Option Watch) (s : Watch) → o ≡ get_or ws i None → o ≡ None → At ws i (Some s) → ⊥
free_read ws i o s q is at = (let z : None ≡ Some s = sym is ∙ q ∙ get_or_default ws i None (Some s) at.0 ∙ at.1 in cc)

-- the watch in a slot is one
pub watch-same : (ws : List (Option Watch)) (i : ℕ) (s t : Watch) → At ws i (Some s) → At ws i (Some t) → s ≡ t
watch-same ws i s t a b = unsome s t (At-same ws i (Some s) (Some t) a b)

-- a watch put into a slot, and those of the other slots
pub watch-set : (ws : List (Option Watch)) (j i : ℕ) (new s : Watch) → At (set ws j (Some new)) i (Some s) → ((i ≡ j) × (s ≡ new)) ⊎ ((i ≢ j) × At ws i (Some s))
watch-set ws j i new s a =
    elim (At-set ws j i (Some new) (Some s) a) as (λ _. ((i ≡ j) × (s ≡ new)) ⊎ ((i ≢ j) × At ws i (Some s))) [
      | inl q ↦ inl (q.0, unsome s new q.1)
      | inr q ↦ inr q
    ]

-- no watch is in a slot that was freed
pub watch-freed : (ws : List (Option Watch)) (j i : ℕ) (s : Watch) → At (set ws j None) i (Some s) → (i ≢ j) × At ws i (Some s)
watch-freed ws j i s a =
    elim (At-set ws j i None (Some s) a) as (λ _. (i ≢ j) × At ws i (Some s)) [
      | inl q ↦ absurd (let z : Some s ≡ None = q.1 in cc)
      | inr q ↦ q
    ]

pub watch-push : (ws : List (Option Watch)) (i : ℕ) (new s : Watch) → At (ws ++ Some new ∷ []) i (Some s) → (s ≡ new) ⊎ At ws i (Some s)
watch-push ws i new s a =
    let n = length-append ws (Some new ∷ []) in
    elim (cases_eq i (length ws)) as (λ _. (s ≡ new) ⊎ At ws i (Some s)) [
      | inl e ↦ inl (unsome s new (sym a.1 ∙ get_or_push ws (Some new) (Some s) i (sym e)))
      | inr ne ↦ (let lt : i < length ws = (let q = a.0 in omega (arith, n)) in inr (lt, sym (get_or_append_left ws (Some new ∷ []) (Some s) i lt) ∙ a.1))
    ]

-- a watch that got other literals
pub relit : (ws : List (Option Watch)) (i : ℕ) (s : Watch) (k l : Literal) → At ws i (Some s) → set ws i (with_literals (get_or ws i None) k l) ≡ set ws i (Some record { clause = s.clause; first = k; second = l; binary = s.binary })
relit ws i s k l at = ap (λ (o : Option Watch). set ws i (with_literals o k l)) (get_or_default ws i None (Some s) at.0 ∙ at.1)

pub len-relit : (ws xs : List (Option Watch)) (i : ℕ) (k l : Literal) → xs ≡ set ws i (with_literals (get_or ws i None) k l) → length xs ≡ length ws
len-relit ws xs i k l e = ap (λ (ys : List (Option Watch)). length ys) e ∙ length-set ws i (with_literals (get_or ws i None) k l)

-- The clauses of slots

abbrev clauses : List (Option Watch) → List Cref
clauses ws = filter_map clause_in ws

here : (x y : Watch) → Some x ≡ Some y → x.clause ≡ y.clause
here x y e = ap (λ (s : Watch). s.clause) (unsome x y e)

pub slot_in : (ws : List (Option Watch)) (i : ℕ) (s : Watch) → At ws i (Some s) → Contains (clauses ws) s.clause
slot_in [] i s at = absurd (let q = at.0 in omega arith)
slot_in (None ∷ ws) zero s at = absurd (let z : None ≡ Some s = at.1 in cc)
slot_in (None ∷ ws) (suc i) s at = slot_in ws i s (let q = at.0 in omega arith, at.1)
slot_in (Some x ∷ ws) zero s at = (0, omega arith, here x s at.1)
slot_in (Some x ∷ ws) (suc i) s at = let r = slot_in ws i s (let q = at.0 in omega arith, at.1) in (suc r.0, (let q = r.1 in omega arith), r.2)

pub slot_of : (ws : List (Option Watch)) (c : Cref) → Contains (clauses ws) c → (i : ℕ) × (s : Watch) × At ws i (Some s) × (s.clause ≡ c)
slot_of [] c h = absurd (let q = h.1 in omega arith)
slot_of (None ∷ ws) c h = let r = slot_of ws c h in (suc r.0, r.1, ((let q = r.2.0 in omega arith), r.2.1), r.3)
slot_of (Some x ∷ ws) c (zero, lt, e) = (0, x, (omega arith, refl), e)
slot_of (Some x ∷ ws) c (suc k, lt, e) = let r = slot_of ws c (k, omega arith, e) in (suc r.0, r.1, ((let q = r.2.0 in omega arith), r.2.1), r.3)

-- a watch may be exchanged for another one of its clause
pub clauses-set : (ws : List (Option Watch)) (i : ℕ) (s new : Watch) → At ws i (Some s) → new.clause ≡ s.clause → clauses (set ws i (Some new)) ≡ clauses ws
clauses-set [] i s new at e = refl
clauses-set (None ∷ ws) zero s new at e = absurd (let z : None ≡ Some s = at.1 in cc)
clauses-set (Some x ∷ ws) zero s new at e = ap (λ (c : Cref). c ∷ clauses ws) (e ∙ sym (here x s at.1))
clauses-set (None ∷ ws) (suc i) s new at e = clauses-set ws i s new (let q = at.0 in omega arith, at.1) e
clauses-set (Some x ∷ ws) (suc i) s new at e = ap (λ (cs : List Cref). x.clause ∷ cs) (clauses-set ws i s new (let q = at.0 in omega arith, at.1) e)

pub clauses-push : (ws : List (Option Watch)) (s : Watch) → clauses (ws ++ Some s ∷ []) ≡ clauses ws ++ s.clause ∷ []
clauses-push ws s = filter_map-append clause_in ws (Some s ∷ [])

pub same_number : (n : ℕ) → (n == n) ≡ true
same_number n = grind (arith, nat_tests)

pub other_number : (m n : ℕ) → m ≢ n → (m == n) ≡ false
other_number m n ne = grind (arith, nat_tests)

-- without a clause that has the address, and with one that has another
pub without-there : (c : Cref) (cs : List Cref) (a : ℕ) → c.address ≡ a → without (c ∷ cs) a ≡ without cs a
without-there c cs a e = ap (λ (b : Bool). cond (not b) (c ∷ without cs a) (without cs a)) (ap (λ (n : ℕ). c.address == n) (sym e) ∙ same_number c.address)

pub without-other : (c : Cref) (cs : List Cref) (a : ℕ) → c.address ≢ a → without (c ∷ cs) a ≡ c ∷ without cs a
without-other c cs a ne = ap (λ (b : Bool). cond (not b) (c ∷ without cs a) (without cs a)) (other_number c.address a ne)

-- the other clauses stay if one's slot is freed
pub without-freed : (ws : List (Option Watch)) (i : ℕ) (s : Watch) (a : ℕ) → At ws i (Some s) → s.clause.address ≡ a → without (clauses (set ws i None)) a ≡ without (clauses ws) a
without-freed [] i s a at e = refl
without-freed (None ∷ ws) zero s a at e = refl
without-freed (Some x ∷ ws) zero s a at e = sym (without-there x.clause (clauses ws) a (ap (λ (c : Cref). c.address) (here x s at.1) ∙ e))
without-freed (None ∷ ws) (suc i) s a at e = without-freed ws i s a (let q = at.0 in omega arith, at.1) e
without-freed (Some x ∷ ws) (suc i) s a at e =
    let r = without-freed ws i s a (let q = at.0 in omega arith, at.1) e in
    ap (λ (cs : List Cref). cond (not (x.clause.address == a)) (x.clause ∷ cs) cs) r

-- if no watch is of the address, there is nothing to leave out
pub without-none : (ws : List (Option Watch)) (a : ℕ) → ((i : ℕ) (s : Watch) → At ws i (Some s) → s.clause.address ≢ a) → without (clauses ws) a ≡ clauses ws
without-none [] a none = refl
without-none (None ∷ ws) a none = without-none ws a (λ i s at. none (suc i) s (let q = at.0 in omega arith, at.1))
without-none (Some x ∷ ws) a none =
    without-other x.clause (clauses ws) a (none 0 x (omega arith, refl))
    ∙ ap (λ (cs : List Cref). x.clause ∷ cs) (without-none ws a (λ i s at. none (suc i) s (let q = at.0 in omega arith, at.1)))

-- if no watch is of one of the clauses, there is nothing to leave out
pub without_all-none : (ws : List (Option Watch)) (gone : List Cref) → ((i : ℕ) (s : Watch) → At ws i (Some s) → is_among gone s.clause.address ≡ false) → without_all (clauses ws) gone ≡ clauses ws
without_all-none [] gone none = refl
without_all-none (None ∷ ws) gone none = without_all-none ws gone (λ i s at. none (suc i) s (let q = at.0 in omega arith, at.1))
without_all-none (Some x ∷ ws) gone none =
    ap (λ (b : Bool). cond (not b) (x.clause ∷ without_all (clauses ws) gone) (without_all (clauses ws) gone)) (none 0 x (omega arith, refl))
    ∙ ap (λ (cs : List Cref). x.clause ∷ cs) (without_all-none ws gone (λ i s at. none (suc i) s (let q = at.0 in omega arith, at.1)))

-- one of the clauses may be left out first
pub without_all-again : (cs gone : List Cref) (a : ℕ) → is_among gone a ≡ true → without_all (without cs a) gone ≡ without_all cs gone
without_all-again [] gone a there = refl
without_all-again (c ∷ cs) gone a there =
    elim (cases_eq c.address a) as (λ _. without_all (without (c ∷ cs) a) gone ≡ without_all (c ∷ cs) gone) [
      | inl e ↦ ap (λ (ds : List Cref). without_all ds gone) (without-there c cs a e) ∙ without_all-again cs gone a there
          ∙ sym (ap (λ (b : Bool). cond (not b) (c ∷ without_all cs gone) (without_all cs gone)) (ap (is_among gone) e ∙ there))
      | inr ne ↦ ap (λ (ds : List Cref). without_all ds gone) (without-other c cs a ne)
          ∙ ap (λ (ds : List Cref). cond (not (is_among gone c.address)) (c ∷ ds) ds) (without_all-again cs gone a there)
    ]

-- free slots have no clause
pub clauses-kept : (ws : List (Option Watch)) (test : Option Watch → Bool) → ((s : Watch) → test (Some s) ≡ true) → clauses (filter test ws) ≡ clauses ws
clauses-kept [] test some = refl
clauses-kept (Some x ∷ ws) test some = ap (λ (b : Bool). clauses (cond b (Some x ∷ filter test ws) (filter test ws))) (some x) ∙ ap (λ (cs : List Cref). x.clause ∷ cs) (clauses-kept ws test some)
clauses-kept (None ∷ ws) test some = skip (test None) ∙ clauses-kept ws test some
  where
    skip : (b : Bool) → clauses (cond b (None ∷ filter test ws) (filter test ws)) ≡ clauses (filter test ws)
    skip true = refl
    skip false = refl

-- How many slots are free

pub one-freed : (ws : List (Option Watch)) (i : ℕ) (s : Watch) → At ws i (Some s) → length (clauses ws) ≡ length (clauses (set ws i None)) + 1
one-freed [] i s at = absurd (let q = at.0 in omega arith)
one-freed (None ∷ ws) zero s at = absurd (let z : None ≡ Some s = at.1 in cc)
one-freed (Some x ∷ ws) zero s at = omega arith
one-freed (None ∷ ws) (suc i) s at = one-freed ws i s (let q = at.0 in omega arith, at.1)
one-freed (Some x ∷ ws) (suc i) s at = let r = one-freed ws i s (let q = at.0 in omega arith, at.1) in omega (arith, r)

each-kept : (ws : List (Option Watch)) → length (clauses (filter is_some ws)) ≡ length (filter is_some ws)
each-kept [] = refl
each-kept (Some x ∷ ws) = let r = each-kept ws in omega (arith, r)
each-kept (None ∷ ws) = each-kept ws

few-kept : (ws : List (Option Watch)) → length (filter is_some ws) ≤ length ws
few-kept [] = omega arith
few-kept (Some x ∷ ws) = let r = few-kept ws in omega (arith, r)
few-kept (None ∷ ws) = let r = few-kept ws in omega (arith, r)

pub kept-within : (ws xs : List (Option Watch)) (n : ℕ) → xs ≡ filter is_some ws → length ws ≤ n → length xs ≤ n
kept-within ws xs n e le = omega (arith, le, few-kept ws, ap (λ (ys : List (Option Watch)). length ys) e)

-- this many slots are free
abbrev pub HasFree : List (Option Watch) → ℕ → Type 0
HasFree ws n = length (clauses ws) + n ≡ length ws

pub HasFree-push : (ws xs : List (Option Watch)) (s : Watch) (n : ℕ) → xs ≡ ws ++ Some s ∷ [] → HasFree ws n → HasFree xs n
HasFree-push ws xs s n e h =
    subst (λ (ys : List (Option Watch)). HasFree ys n) (sym e)
    (omega (arith, h, length-append ws (Some s ∷ []), ap (λ (cs : List Cref). length cs) (clauses-push ws s), length-append (clauses ws) (s.clause ∷ [])))

pub HasFree-freed : (ws : List (Option Watch)) (i : ℕ) (s : Watch) (n : ℕ) → At ws i (Some s) → HasFree ws n → HasFree (set ws i None) (n + 1)
HasFree-freed ws i s n at h = omega (arith, h, one-freed ws i s at, length-set ws i None)

pub HasFree-set : (ws : List (Option Watch)) (i : ℕ) (s new : Watch) (n : ℕ) → At ws i (Some s) → new.clause ≡ s.clause → HasFree ws n → HasFree (set ws i (Some new)) n
HasFree-set ws i s new n at e h = omega (arith, h, length-set ws i (Some new), ap (λ (cs : List Cref). length cs) (clauses-set ws i s new at e))

pub HasFree-relit : (ws xs : List (Option Watch)) (i : ℕ) (s : Watch) (k l : Literal) (n : ℕ) → At ws i (Some s) → xs ≡ set ws i (with_literals (get_or ws i None) k l) → HasFree ws n → HasFree xs n
HasFree-relit ws xs i s k l n at e h =
    subst (λ (ys : List (Option Watch)). HasFree ys n) (sym (e ∙ relit ws i s k l at)) (HasFree-set ws i s record { clause = s.clause; first = k; second = l; binary = s.binary } n at refl h)

pub HasFree-none : (ws xs : List (Option Watch)) → xs ≡ filter is_some ws → HasFree xs 0
HasFree-none ws xs e = subst (λ (ys : List (Option Watch)). HasFree ys 0) (sym e) (let r = each-kept ws in omega (arith, r))
