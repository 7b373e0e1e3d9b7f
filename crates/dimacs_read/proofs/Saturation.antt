-- A number of any length, by a value that stands still at the end of its type.
use Rattle.std.proofs.Common.{◌≡◌, ℕ, ◌+◌, ◌-◌, ◌*◌, ◌≤◌, ◌^◌, min, inl, inr, Bool, true, false, cond, ◌||◌, List, [], ◌∷◌, ap, refl, arith}
use Rattle.std.proofs.lemmas.Bool.{cases_lt}
use Rattle.std.proofs.lemmas.Bool.Decides.{nat_tests}
use Rattle.std.specs.Prelude.{nat_le, Some, None}
use Rattle.std.specs.declared.option.Option.{Option}
use Rattle.std.specs.List.{list_all}
use Rattle.dimacs_read.specs.Grammar.{Outcome, value_from, both, number, opening, is_digit}
use Rattle.dimacs_read.specs.Header.{digits_from, behind_vars, behind_clauses, Alike}

least : (n : ℕ) (bytes : List ℕ) → n ≤ value_from n bytes
least n [] = omega arith
least n (b ∷ bytes) = omega (arith, least (10 * n + (b - 48)) bytes)

-- equal, or both above every limit
pub data Close (a b : ℕ) : Type 0 where
  Same : a ≡ b → Close a b
  Large : 2 ^ 28 ≤ a → 2 ^ 28 ≤ b → Close a b

pub close_values : (m n : ℕ) (bytes : List ℕ) → m ≡ min n (2 ^ 64 - 1) → Close (value_from m bytes) (value_from n bytes)
close_values m n bytes is =
    elim (cases_lt n (2 ^ 64)) [
      | inl low ↦ let same : m ≡ n = omega arith in Same (ap (λ (k : ℕ). value_from k bytes) same)
      | inr high ↦ Large (omega (arith, least m bytes)) (omega (arith, least n bytes))
    ]

large_is : (n : ℕ) → 2 ^ 28 ≤ n → nat_le (2 ^ 28) n ≡ true
large_is n h = grind (arith, nat_tests)

alike_large_vars : (a b : ℕ) (c : Option ℕ) → 2 ^ 28 ≤ a → 2 ^ 28 ≤ b → Alike (both (Some a) c) (both (Some b) c)
alike_large_vars a b None p q = λ line more. refl
alike_large_vars a b (Some c) p q = λ line more. rw (large_is a p, large_is b q) refl

either : (t : Bool) (e a b : Outcome) → cond (t || true) e a ≡ cond (t || true) e b
either true e a b = refl
either false e a b = refl

alike_large_clauses : (c a b : ℕ) → 2 ^ 28 ≤ a → 2 ^ 28 ≤ b → Alike (both (Some c) (Some a)) (both (Some c) (Some b))
alike_large_clauses c a b p q = λ line more.
    rw (large_is a p, large_is b q) (either (nat_le (2 ^ 28) c) _ _ _)

alike_vars : (a b : ℕ) (c : Option ℕ) → Close a b → Alike (both (Some a) c) (both (Some b) c)
alike_vars a b c (Same e) = λ line more. ap (λ (n : ℕ). opening line (both (Some n) c) more) e
alike_vars a b c (Large p q) = alike_large_vars a b c p q

alike_clauses : (c a b : ℕ) → Close a b → Alike (both (Some c) (Some a)) (both (Some c) (Some b))
alike_clauses c a b (Same e) = λ line more. ap (λ (n : ℕ). opening line (both (Some c) (Some n)) more) e
alike_clauses c a b (Large p q) = alike_large_clauses c a b p q

alike_behind : (a b : ℕ) (ts : List (List ℕ)) → Close a b → Alike (behind_vars (Some a) ts) (behind_vars (Some b) ts)
alike_behind a b [] close = λ line more. refl
alike_behind a b (t ∷ []) close = alike_vars a b (number t) close
alike_behind a b (t ∷ u ∷ ts) close = λ line more. refl

vars_by : (digits : Bool) (m n : ℕ) (bytes : List ℕ) (ts : List (List ℕ)) → list_all is_digit bytes ≡ digits → m ≡ min n (2 ^ 64 - 1)
    → Alike (behind_vars (digits_from m bytes) ts) (behind_vars (digits_from n bytes) ts)
vars_by true m n bytes ts all is = λ line more. rw all (alike_behind (value_from m bytes) (value_from n bytes) ts (close_values m n bytes is) line more)
vars_by false m n bytes ts all is = λ line more. rw all refl

pub alike_more_vars : (m n : ℕ) (bytes : List ℕ) (ts : List (List ℕ)) → m ≡ min n (2 ^ 64 - 1)
    → Alike (behind_vars (digits_from m bytes) ts) (behind_vars (digits_from n bytes) ts)
alike_more_vars m n bytes ts is = vars_by (list_all is_digit bytes) m n bytes ts refl is

alike_last : (c a b : ℕ) (ts : List (List ℕ)) → Close a b → Alike (behind_clauses (Some c) (Some a) ts) (behind_clauses (Some c) (Some b) ts)
alike_last c a b [] close = alike_clauses c a b close
alike_last c a b (t ∷ ts) close = λ line more. refl

clauses_by : (digits : Bool) (c m n : ℕ) (bytes : List ℕ) (ts : List (List ℕ)) → list_all is_digit bytes ≡ digits → m ≡ min n (2 ^ 64 - 1)
    → Alike (behind_clauses (Some c) (digits_from m bytes) ts) (behind_clauses (Some c) (digits_from n bytes) ts)
clauses_by true c m n bytes ts all is = λ line more. rw all (alike_last c (value_from m bytes) (value_from n bytes) ts (close_values m n bytes is) line more)
clauses_by false c m n bytes ts all is = λ line more. rw all refl

pub alike_more_clauses : (c m n : ℕ) (bytes : List ℕ) (ts : List (List ℕ)) → m ≡ min n (2 ^ 64 - 1)
    → Alike (behind_clauses (Some c) (digits_from m bytes) ts) (behind_clauses (Some c) (digits_from n bytes) ts)
alike_more_clauses c m n bytes ts is = clauses_by (list_all is_digit bytes) c m n bytes ts refl is
