-- A clause in words: the count of its holders, its number, its size with its glue, and then two literals a word.
use Rattle.std.specs.Prelude.{ℕ, ◌+◌, ◌-◌, ◌*◌, ◌/◌, ◌%◌, ◌^◌, ◌==◌, List, map, length, slice_index_or, if◌then◌else◌}
use Rattle.sat_words.specs.Literal.{Literal, code_of}

-- the number of words that a clause of this size takes
abbrev pub words_for : ℕ → ℕ
words_for n = 3 + (n + 1) / 2

-- the word with these two halves
abbrev pub pair_of : ℕ → ℕ → ℕ
pair_of low high = low + high * 2 ^ 32

-- the half of a word for a place: the low one for an even place, the high one for an odd
abbrev pub half : ℕ → ℕ → ℕ
half word place = if place % 2 == 0 then word % 2 ^ 32 else word / 2 ^ 32

-- the code of the literal at a place, 0 if there is none
abbrev pub code_at : List Literal → ℕ → ℕ
code_at lits i = slice_index_or (map code_of lits) i 0

-- the word with the codes of the literals at twice the index and after it
abbrev pub lit_word : List Literal → ℕ → ℕ
lit_word lits j = pair_of (code_at lits (2 * j)) (code_at lits (2 * j + 1))

-- word i of a cell, after the count: its number, its size and glue, its literals
abbrev pub cell_word : ℕ → ℕ → List Literal → ℕ → ℕ
cell_word number glue lits i = if i == 1 then number else if i == 2 then pair_of (length lits) glue else lit_word lits (i - 3)
