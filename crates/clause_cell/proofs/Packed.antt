-- Literals in words.
use Rattle.std.proofs.Common.{◌≡◌, ℕ, zero, suc, ◌+◌, ◌*◌, ◌/◌, ◌%◌, ◌^◌, ◌<◌, List, [], ◌∷◌, length, All, ap, ◌∙◌, ⊎_elim, arith}
use Rattle.std.specs.Prelude.{if◌then◌else◌}
use Rattle.std.proofs.lemmas.Bool.Decides.{eqb_tells}
use Rattle.sat_words.specs.Literal.{Literal, code_of}
use Rattle.clause_cell.specs.Packing.{words_for, pair_of, half, code_at, lit_word}

pub low_half : (a b : ℕ) → a < 2 ^ 32 → pair_of a b % 2 ^ 32 ≡ a
low_half a b lt = omega arith

pub high_half : (a b : ℕ) → a < 2 ^ 32 → pair_of a b / 2 ^ 32 ≡ b
high_half a b lt = omega arith

code_small : (lits : List Literal) → All (λ l. code_of l < 2 ^ 32) lits → (i : ℕ) → code_at lits i < 2 ^ 32
code_small [] small i = omega arith
code_small (k ∷ lits) small zero = small 0 k (omega arith)
code_small (k ∷ lits) small (suc i) = code_small lits (λ j d lt. small (suc j) d (omega arith)) i

pub half_is : (lits : List Literal) (i : ℕ) → All (λ l. code_of l < 2 ^ 32) lits → half (lit_word lits (i / 2)) i ≡ code_at lits i
half_is lits i small =
    let low = code_small lits small (2 * (i / 2)) in
    ⊎_elim
    (λ t. let even = t.1 in let e : 2 * (i / 2) ≡ i = omega arith in
    (λ j. if t.0 j then lit_word lits (i / 2) % 2 ^ 32 else lit_word lits (i / 2) / 2 ^ 32)
    ∙ low_half (code_at lits (2 * (i / 2))) (code_at lits (2 * (i / 2) + 1)) low ∙ ap (code_at lits) e)
    (λ t. let odd = t.1 in let e : 2 * (i / 2) + 1 ≡ i = omega arith in
    (λ j. if t.0 j then lit_word lits (i / 2) % 2 ^ 32 else lit_word lits (i / 2) / 2 ^ 32)
    ∙ high_half (code_at lits (2 * (i / 2))) (code_at lits (2 * (i / 2) + 1)) low ∙ ap (code_at lits) e)
    (eqb_tells (i % 2) 0)

pub word_inside : (lits : List Literal) (i : ℕ) → i < length lits → 3 + i / 2 < words_for (length lits)
word_inside lits i lt = omega arith
