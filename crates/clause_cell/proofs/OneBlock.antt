-- What one block keeps.
use Rattle.std.proofs.Common.{rules, ◌≡◌, ℕ, zero, suc, ◌+◌, ◌-◌, ◌^◌, ◌<◌, ◌≤◌, true, List, [], ◌∷◌, ◌++◌, length, take, drop, get_or, sym, ap, subst, ◌∙◌, arith, ⊎_elim, length-drop}
use Rattle.std.specs.Prelude.{Option, Some, IsSome, if◌then◌else◌}
use Rattle.std.proofs.lemmas.List.{take-append-drop, length-take}
use Rattle.std.proofs.lemmas.Bool.Decides.{leb_tells, eqb_tells}
use Rattle.clause_cell.specs.declared.holes.Hole.{Hole}
use Rattle.clause_cell.specs.Free.{is_apart, is_clear, range, rest_of, first_fit, without_fit, ahead, with_range, largest, end_at}
use Rattle.clause_cell.specs.Blocks.{end_of, IsBlock}
use Rattle.clause_cell.proofs.Ranges.{parts, given, taken_apart, given_apart, apart_from, hole_is}
use Rattle.clause_cell.proofs.Joins.{after, apart_front, apart_back}

-- a list of the code is a block, if it is one by its definition
block_of : (hs ks : List Hole) (m : ℕ) → hs ≡ ks → is_apart 0 ks ≡ true → length ks ≤ 256 → m ≡ largest hs → IsBlock hs m
block_of hs ks m e apart few exact = record { apart = ap (is_apart 0) e ∙ apart; few = (let k = ap (λ (x : List Hole). length x) e in omega arith); exact = exact }

length-without_fit : (need : ℕ) (hs : List Hole) → length (without_fit need hs) ≤ length hs
length-without_fit need [] = omega arith
length-without_fit need (h ∷ hs) = ⊎_elim
    (λ t. let e : without_fit need (h ∷ hs) ≡ rest_of need h ++ hs = λ i. if t.0 i then rest_of need h ++ hs else h ∷ without_fit need hs in
    ⊎_elim
    (λ u. let k = ap (λ (x : List Hole). length x) (e ∙ (λ i. (if u.0 i then [] else range (h.first + need) (h.len - need) ∷ []) ++ hs)) in omega arith)
    (λ u. let k = ap (λ (x : List Hole). length x) (e ∙ (λ i. (if u.0 i then [] else range (h.first + need) (h.len - need) ∷ []) ++ hs)) in omega arith)
    (eqb_tells h.len need))
    (λ t. let k = ap (λ (x : List Hole). length x) (λ i. if t.0 i then rest_of need h ++ hs else h ∷ without_fit need hs) in let m = length-without_fit need hs in omega arith)
    (leb_tells need h.len)

length-ahead : (a n : ℕ) (hs : List Hole) → (0 < length (ahead a n hs)) × (length (ahead a n hs) ≤ length hs + 1)
length-ahead a n [] = (omega arith, omega arith)
length-ahead a n (h ∷ hs) = ⊎_elim
    (λ t. let k = ap (λ (x : List Hole). length x) (λ i. if t.0 i then range a (n + h.len) ∷ hs else range a n ∷ h ∷ hs) in (omega arith, omega arith))
    (λ t. let k = ap (λ (x : List Hole). length x) (λ i. if t.0 i then range a (n + h.len) ∷ hs else range a n ∷ h ∷ hs) in (omega arith, omega arith))
    (eqb_tells (a + n) h.first)

pub length-with_range : (a n : ℕ) (hs : List Hole) → (0 < length (with_range a n hs)) × (length (with_range a n hs) ≤ length hs + 1)
length-with_range a n [] = (omega arith, omega arith)
length-with_range a n (h ∷ hs) = ⊎_elim
    (λ t. let k = ap (λ (x : List Hole). length x) t.1 in let m = (length-with_range a n hs).1 in (omega arith, omega arith))
    (λ u. ⊎_elim
    (λ t. let k = ap (λ (x : List Hole). length x) t.1 in let m = length-ahead h.first (h.len + n) hs in let m0 = m.0 in let m1 = m.1 in (omega arith, omega arith))
    (λ t. let k = ap (λ (x : List Hole). length x) t.1 in let m = length-ahead a n (h ∷ hs) in let m0 = m.0 in let m1 = m.1 in (omega arith, omega arith))
    u)
    (given a n h hs)

pub taken_block : (need m k : ℕ) (hs new : List Hole) → IsBlock hs m → new ≡ without_fit need hs → k ≡ largest new → IsBlock new k
taken_block need m k hs new b e exact = let l = length-without_fit need hs in let few = b.few in block_of new (without_fit need hs) k e (taken_apart 0 need hs b.apart) (omega arith) exact

pub given_block : (a n m k : ℕ) (hs new : List Hole) → IsBlock hs m → 0 < n → a + n ≤ 2 ^ 63 → is_clear a n hs ≡ true → length hs < 256 → new ≡ with_range a n hs → k ≡ largest new → IsBlock new k
given_block a n m k hs new b some ends clear room e exact = let l = (length-with_range a n hs).1 in block_of new (with_range a n hs) k e (given_apart 0 a n hs (omega arith) some ends b.apart clear) (omega arith) exact

pub lower_block : (j m k : ℕ) (hs new : List Hole) → IsBlock hs m → new ≡ take j hs → k ≡ largest new → IsBlock new k
lower_block j m k hs new b e exact = let l = length-take j hs in let few = b.few in
    block_of new (take j hs) k e (apart_front 0 (take j hs) (drop j hs) (ap (is_apart 0) (take-append-drop j hs) ∙ b.apart)) (omega arith) exact

pub upper_block : (j m k : ℕ) (hs new : List Hole) → IsBlock hs m → new ≡ drop j hs → k ≡ largest new → IsBlock new k
upper_block j m k hs new b e exact = let l = length-drop j hs in let few = b.few in
    block_of new (drop j hs) k e (apart_from 0 (after 0 (take j hs)) (drop j hs) (omega arith) (apart_back 0 (take j hs) (drop j hs) (ap (is_apart 0) (take-append-drop j hs) ∙ b.apart))) (omega arith) exact

is_some_of : (a : ℕ) → IsSome (Some a)
is_some_of a = search rules

-- a hole fits if the longest is long enough
pub fits : (need : ℕ) (hs : List Hole) → 0 < need → need ≤ largest hs → IsSome (first_fit need hs)
fits need [] some le = absurd (omega arith)
fits need (h ∷ hs) some le = ⊎_elim
    (λ t. subst (λ (o : Option ℕ). IsSome o) (sym (λ i. if t.0 i then Some h.first else first_fit need hs)) (is_some_of h.first))
    (λ t. let lt = t.1 in subst (λ (o : Option ℕ). IsSome o) (sym (λ i. if t.0 i then Some h.first else first_fit need hs)) (fits need hs some (omega arith)))
    (leb_tells need h.len)

-- the end of the last hole is the end
pub end_at-last : (from : ℕ) (hs : List Hole) (i : ℕ) → is_apart from hs ≡ true → suc i ≡ length hs → end_at hs i ≡ end_of hs
end_at-last from [] i e is = absurd (omega arith)
end_at-last from (h ∷ []) zero e is = omega arith
end_at-last from (h ∷ []) (suc i) e is = absurd (omega arith)
end_at-last from (h ∷ k ∷ hs) zero e is = absurd (omega arith)
end_at-last from (h ∷ k ∷ hs) (suc i) e is =
    let p = parts from h (k ∷ hs) e in
    let q = parts (h.first + h.len + 1) k hs p.others in
    let b = q.begins in
    let s = end_at-last (h.first + h.len + 1) (k ∷ hs) i p.others (omega arith) in
    omega arith

pub last_end : (hs : List Hole) (i : ℕ) (d : Hole) → is_apart 0 hs ≡ true → i + 1 ≡ length hs → d ≡ get_or hs i d → d.first + d.len ≡ end_of hs
last_end hs i d e is at = ap (λ (h : Hole). h.first + h.len) (sym (hole_is hs i d (omega arith) at)) ∙ end_at-last 0 hs i e (omega arith)
