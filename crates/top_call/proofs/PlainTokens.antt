-- A text cut at its newlines, and a line at its blanks.
use Rattle.std.proofs.Common.{◌≡◌, ◌∙◌, ℕ, ◌≤◌, List, [], ◌∷◌, ◌++◌, refl, ap, arith, Bool, true, false}
use Rattle.std.specs.Prelude.{⊤, filter, nat_eq}
use Rattle.std.proofs.lemmas.Bool.Decides.{nat_tests}
use Rattle.dimacs_read.specs.Grammar.{front, later, split, is_newline, is_blank, has_bytes, tokens, mark}
use Rattle.top_call.proofs.PlainNumbers.{From}

-- no byte passes the test
abbrev pub Free : (ℕ → Bool) → List ℕ → Type 0
Free t [] = ⊤
Free t (x ∷ xs) = (t x ≡ false) × Free t xs

pub free_both : (t : ℕ → Bool) (xs ys : List ℕ) → Free t xs → Free t ys → Free t (xs ++ ys)
free_both t [] ys p q = q
free_both t (x ∷ xs) ys (e, p) q = (e, free_both t xs ys p q)

front_free : (t : ℕ → Bool) (xs ys : List ℕ) (y : ℕ) → Free t xs → t y ≡ true → front t (xs ++ y ∷ ys) ≡ xs
front_free t [] ys y p e = rw e refl
front_free t (x ∷ xs) ys y (q, p) e = rw q (ap (λ (l : List ℕ). x ∷ l) (front_free t xs ys y p e))

later_free : (t : ℕ → Bool) (xs ys : List ℕ) (y : ℕ) → Free t xs → t y ≡ true → later t (xs ++ y ∷ ys) ≡ split t ys
later_free t [] ys y p e = rw e refl
later_free t (x ∷ xs) ys y (q, p) e = rw q (later_free t xs ys y p e)

-- the part before the first byte that passes
pub cut : (t : ℕ → Bool) (xs ys : List ℕ) (y : ℕ) → Free t xs → t y ≡ true → split t (xs ++ y ∷ ys) ≡ xs ∷ split t ys
cut t xs ys y p e = let first = front_free t xs ys y p e in let rest = later_free t xs ys y p e in cc

front_all : (t : ℕ → Bool) (xs : List ℕ) → Free t xs → front t xs ≡ xs
front_all t [] p = refl
front_all t (x ∷ xs) (q, p) = rw q (ap (λ (l : List ℕ). x ∷ l) (front_all t xs p))

later_all : (t : ℕ → Bool) (xs : List ℕ) → Free t xs → later t xs ≡ []
later_all t [] p = refl
later_all t (x ∷ xs) (q, p) = rw q (later_all t xs p)

-- nothing passes
pub uncut : (t : ℕ → Bool) (xs : List ℕ) → Free t xs → split t xs ≡ xs ∷ []
uncut t xs p = let first = front_all t xs p in let rest = later_all t xs p in cc

no_blank : (x : ℕ) → 33 ≤ x → is_blank x ≡ false
no_blank x h = grind (arith, nat_tests)

no_newline : (x : ℕ) → 33 ≤ x → is_newline x ≡ false
no_newline x h = grind (arith, nat_tests)

pub from_blank_free : (low : ℕ) (xs : List ℕ) → 33 ≤ low → From low xs → Free is_blank xs
from_blank_free low [] h p = tt
from_blank_free low (x ∷ xs) h (above, below, p) = (no_blank x (omega arith), from_blank_free low xs h p)

pub from_newline_free : (low : ℕ) (xs : List ℕ) → 33 ≤ low → From low xs → Free is_newline xs
from_newline_free low [] h p = tt
from_newline_free low (x ∷ xs) h (above, below, p) = (no_newline x (omega arith), from_newline_free low xs h p)

-- a token and a space
pub first_token : (w rest : List ℕ) → Free is_blank w → has_bytes w ≡ true → tokens (w ++ 32 ∷ rest) ≡ w ∷ tokens rest
first_token w rest p e = ap (filter has_bytes) (cut is_blank w rest 32 p refl) ∙ rw e refl

pub last_token : (w : List ℕ) → Free is_blank w → has_bytes w ≡ true → tokens w ≡ w ∷ []
last_token w p e = ap (filter has_bytes) (uncut is_blank w p) ∙ rw e refl

-- a line that begins with a byte of a literal is no comment and no end
pub mark_of_word : (w rest : List ℕ) → From 45 w → has_bytes w ≡ true → (nat_eq (mark (w ++ rest)) 37 ≡ false) × (nat_eq (mark (w ++ rest)) 99 ≡ false)
mark_of_word [] rest p e = cc
mark_of_word (x ∷ xs) rest (above, below, p) e =
    let clear : is_blank x ≡ false = no_blank x (omega arith) in
    rw clear ((let a : nat_eq x 37 ≡ false = grind (arith, nat_tests) in a), (let b : nat_eq x 99 ≡ false = grind (arith, nat_tests) in b))
