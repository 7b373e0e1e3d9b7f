-- The rooms of lists.
use Rattle.std.proofs.Common.{◌≡◌, ◌∙◌, ℕ, zero, suc, ◌≤◌, ◌*◌, ◌⊎◌, max, nat_lt, cond, Bool, true, false, List, [], ◌∷◌, length, get_or, sym, ap, subst, refl, inl, inr, arith}
use Rattle.std.proofs.Math.ListN.{set}
use Rattle.watch_prop.specs.Layout.{ListData, grown_room, grown_rooms, HaveGrown}

pub have-same : (old new : List ℕ) → new ≡ old → HaveGrown old new
have-same old new e code = inl (ap (λ (rs : List ℕ). get_or rs code 0) e)

pub have-trans : (a b c : List ℕ) → HaveGrown a b → HaveGrown b c → HaveGrown a c
have-trans a b c p q code =
    elim (p code) as (λ _. (get_or c code 0 ≡ get_or a code 0) ⊎ (max (2 * get_or a code 0) 4 ≤ get_or c code 0)) [
      | inl e ↦ elim (q code) as (λ _. (get_or c code 0 ≡ get_or a code 0) ⊎ (max (2 * get_or a code 0) 4 ≤ get_or c code 0)) [
        | inl f ↦ inl (f ∙ e)
        | inr more ↦ inr (omega (arith, e, more))
      ]
      | inr less ↦ elim (q code) as (λ _. (get_or c code 0 ≡ get_or a code 0) ⊎ (max (2 * get_or a code 0) 4 ≤ get_or c code 0)) [
        | inl f ↦ inr (omega (arith, f, less))
        | inr more ↦ inr (omega (arith, less, more))
      ]
    ]

set-have : (rs : List ℕ) (i v : ℕ) → (v ≡ get_or rs i 0) ⊎ (max (2 * get_or rs i 0) 4 ≤ v) → HaveGrown rs (set rs i v)
set-have [] i v h code = inl refl
set-have (r ∷ rs) zero v h zero = h
set-have (r ∷ rs) zero v h (suc code) = inl refl
set-have (r ∷ rs) (suc i) v h zero = inl refl
set-have (r ∷ rs) (suc i) v h (suc code) = set-have rs i v h code

grows : (len room : ℕ) → (grown_room len room ≡ room) ⊎ (max (2 * room) 4 ≤ grown_room len room)
grows len room = by (nat_lt len room)
  where
    by : (b : Bool) → (cond b room (max (2 * room) 4) ≡ room) ⊎ (max (2 * room) 4 ≤ cond b room (max (2 * room) 4))
    by true = inl refl
    by false = inr (omega arith)

pub have-pushed : (x : ListData) (i : ℕ) (rs : List ℕ) → rs ≡ grown_rooms x i → HaveGrown x.rooms rs
have-pushed x i rs e =
    subst (λ (ys : List ℕ). HaveGrown x.rooms ys) (sym e) (set-have x.rooms i (grown_room (length (get_or x.rows i [])) (get_or x.rooms i 0)) (grows (length (get_or x.rows i [])) (get_or x.rooms i 0)))
