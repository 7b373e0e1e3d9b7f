-- Who was told of a failed write.
use Rattle.std.proofs.Common.{◌≡◌, ◌≢◌, ℕ, zero, suc, true, List, [], ◌∷◌, ◌++◌, set, sym, ap, ◌∙◌, subst}
use mathlib.Core.Option.{some, some-injective, some-ne-none}
use mathlib.Core.Logic.{dite}
use native.Mathlib.Decide.{ℕ_discrete}
use lib.ListN.{get_elem?}
use Rattle.atomic_table.proofs.Lists.{set_here, set_else}
use Rattle.share_rule.specs.declared.view.RingPart.{RingPart}
use Rattle.share_rule.specs.declared.view.View.{View}
use Rattle.share_rule.specs.Shown.{SomeTold, WasTold}
use Rattle.share_rule.proofs.Lists.{at_in}

at_front : {A : Type 0} (xs ys : List A) (x : A) (i : ℕ) → get_elem? xs i ≡ some x → get_elem? (xs ++ ys) i ≡ some x
at_front [] ys x i e = absurd (some-ne-none x (sym e))
at_front (y ∷ xs) ys x zero e = e
at_front (y ∷ xs) ys x (suc i) e = at_front xs ys x i e

-- The parts of one pass

pub told_one : (ps : List RingPart) (p : RingPart) → ps ≡ p ∷ [] → p.failed ≡ true → SomeTold ps
told_one ps p one e = (0, p, ap (λ qs. get_elem? qs 0) one, e)

pub only_told : (ps : List RingPart) (p : RingPart) → ps ≡ p ∷ [] → SomeTold ps → p.failed ≡ true
only_told ps p one t = at t.0 t.1 (sym (ap (λ qs. get_elem? qs t.0) one) ∙ t.2) t.3
  where
    at : (i : ℕ) (q : RingPart) → get_elem? (p ∷ []) i ≡ some q → q.failed ≡ true → p.failed ≡ true
    at zero q e told = ap (λ (x : RingPart). x.failed) (some-injective p q e) ∙ told
    at (suc i) q e told = absurd (some-ne-none q (sym e))

pub told_more : (q : RingPart) (ps : List RingPart) → SomeTold ps → SomeTold (q ∷ ps)
told_more q ps t = (suc t.0, t.1, t.2, t.3)

told_front : (ps qs : List RingPart) → SomeTold ps → SomeTold (ps ++ qs)
told_front ps qs t = (t.0, t.1, at_front ps qs t.1 t.0 t.2, t.3)

told_back : (ps qs : List RingPart) → SomeTold qs → SomeTold (ps ++ qs)
told_back [] qs t = t
told_back (p ∷ ps) qs t = told_more p (ps ++ qs) (told_back ps qs t)

-- All passes

pub told_here : (vs : List View) (id : ℕ) (v w : View) → get_elem? vs id ≡ some v → SomeTold w.parts → WasTold (set vs id w)
told_here vs id v w at t = (id, w, set_here vs id w (at_in vs id v at), t)

-- the ring that was known is the pass's, or another's
told_by_cases : (P : Type 0) (vs : List View) (id : ℕ) (v : View) → get_elem? vs id ≡ some v → (SomeTold v.parts → P)
    → ((j : ℕ) (u : View) → j ≢ id → get_elem? vs j ≡ some u → SomeTold u.parts → P) → WasTold vs → P
told_by_cases P vs id v at here there t = dite (ℕ_discrete t.0 id)
    (λ e. here (subst (λ (u : View). SomeTold u.parts) (some-injective t.1 v (sym t.2 ∙ ap (get_elem? vs) e ∙ at)) t.3))
    (λ ne. there t.0 t.1 ne t.2 t.3)

-- a pass moves, and keeps what its rings were known
pub still_told : (vs : List View) (id : ℕ) (v w : View) → get_elem? vs id ≡ some v → (SomeTold v.parts → SomeTold w.parts) → WasTold vs → WasTold (set vs id w)
still_told vs id v w at keeps t = told_by_cases (WasTold (set vs id w)) vs id v at
    (λ here. told_here vs id v w at (keeps here))
    (λ j u ne is there. (j, u, set_else vs id j w ne ∙ is, there)) t

-- there is one pass more
pub told_with : (vs : List View) (w : View) → WasTold vs → WasTold (vs ++ w ∷ [])
told_with vs w t = (t.0, t.1, at_front vs (w ∷ []) t.1 t.0 t.2, t.3)

-- two passes are made one
pub told_joined : (vs : List View) (id other : ℕ) (v w both spent : View) → get_elem? vs id ≡ some v → get_elem? vs other ≡ some w → other ≢ id → both.parts ≡ v.parts ++ w.parts
    → WasTold vs → WasTold (set (set vs id both) other spent)
told_joined vs id other v w both spent at w_at apart parts t =
    let here : SomeTold (v.parts ++ w.parts) → WasTold (set (set vs id both) other spent) =
    λ h. (id, both, set_else (set vs id both) other id spent (λ e. apart (sym e)) ∙ set_here vs id both (at_in vs id v at), subst SomeTold (sym parts) h) in
    told_by_cases (WasTold (set (set vs id both) other spent)) vs other w w_at
    (λ h. here (told_back v.parts w.parts h))
    (λ j u ne is h. dite (ℕ_discrete j id)
    (λ e. here (told_front v.parts w.parts (subst (λ (x : View). SomeTold x.parts) (some-injective u v (sym is ∙ ap (get_elem? vs) e ∙ at)) h)))
    (λ ne'. (j, u, set_else (set vs id both) other j spent ne ∙ set_else vs id j both ne' ∙ is, h))) t
