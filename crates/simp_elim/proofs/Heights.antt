-- The highest variable.
use Rattle.std.proofs.Common.{◌≡◌, ℕ, ◌+◌, ◌<◌, ◌≤◌, ◌++◌, List, [], ◌∷◌, length, take, get_or, sym, subst, ⊎_elim, inl, inr, arith}
use Rattle.std.specs.List.{All}
use Rattle.sat_words.specs.Literal.{Literal, IsOn}
use Rattle.rup_model.proofs.Lists.{In, In_append, map_In}
use Rattle.simp_base.specs.WorkState.{lists}
use Rattle.simp_base.proofs.Lists.{All_In, In_All}
use Rattle.simp_elim.proofs.Within.{take_next}

pub wider : (a b : ℕ) → a ≤ b → (l : Literal) → IsOn a l → IsOn b l
wider a b le l h = record { low = h.low; high = (let g = h.high in omega arith) }

pub wider_all : (a b : ℕ) → a ≤ b → (c : List Literal) → All (IsOn a) c → All (IsOn b) c
wider_all a b le c h = In_All (IsOn b) c (λ l i. wider a b le l (All_In (IsOn a) c l h i))

-- what holds of the first elements, in a weaker form, and of one more
pub all_next : {X : Type 0} (P Q : X → Type 0) (xs : List X) (i : ℕ) (x : X) → i < length xs → x ≡ get_or xs i x → ((y : X) → P y → Q y) → All P (take i xs) → Q x → All Q (take (i + 1) xs)
all_next {X} P Q xs i x lt is weaker before here =
    subst (λ (ys : List X). All Q ys) (sym (take_next xs i x lt)) (In_All Q (take i xs ++ get_or xs i x ∷ []) (λ y k. ⊎_elim
    (λ (j : In y (take i xs)). weaker y (All_In P (take i xs) y before j))
    (λ (j : In y (get_or xs i x ∷ [])). one y j)
    (In_append (take i xs) (get_or xs i x ∷ []) y k)))
  where
    one : (y : X) → In y (get_or xs i x ∷ []) → Q y
    one y (inl e) = subst Q e (subst Q is here)
    one y (inr z) = absurd z

pub all_lists : (P : List Literal → Type 0) (cs : List (ℕ × List Literal)) → All (λ c. P c.1) cs → All P (lists cs)
all_lists P cs h = In_All P (lists cs) (λ c i. let t = map_In (λ (x : ℕ × List Literal). x.1) cs c i in subst P t.2 (All_In (λ x. P x.1) cs t.0 h t.1))
