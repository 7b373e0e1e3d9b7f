-- The formula of a number, drawn from the words of a generator.
use Rattle.std.specs.Prelude.{ℕ, zero, suc, ◌+◌, ◌%◌, ◌==◌, List, [], ◌∷◌, slice_index_or}
use Rattle.rand_pcg.specs.Lcg.{Lcg}
use Rattle.random_bits.specs.Bits.{word_of, rest_of, generator_of}
use Rattle.sat_words.specs.Literal.{Literal}
use Rattle.sat_words.specs.Clause.{clause_of}
use Rattle.sat_words.specs.FormulaData.{FormulaData}

-- how many literals a clause has, by one of eight that a word tells
abbrev pub size_of : ℕ → ℕ
size_of word = slice_index_or (1 ∷ 2 ∷ 2 ∷ 2 ∷ 3 ∷ 3 ∷ 3 ∷ 4 ∷ []) (word % 8) 0

-- the literal of the next two words: its variable, and whether it is negated
abbrev pub lit_of : Lcg → Literal
lit_of g = record { var = 1 + word_of g % 6; neg = word_of (rest_of g) % 2 == 1 }

-- the next n literals
unfoldable pub lits_from : Lcg → ℕ → List Literal
lits_from g zero = []
lits_from g (suc n) = lit_of g ∷ lits_from (rest_of (rest_of g)) n

-- the generator after the next n literals
unfoldable pub behind_lits : Lcg → ℕ → Lcg
behind_lits g zero = g
behind_lits g (suc n) = behind_lits (rest_of (rest_of g)) n

-- the next clause: one word says its size
abbrev pub next_clause : Lcg → List Literal
next_clause g = clause_of (lits_from (rest_of g) (size_of (word_of g)))

-- the generator after it
abbrev pub behind_clause : Lcg → Lcg
behind_clause g = behind_lits (rest_of g) (size_of (word_of g))

-- the next n clauses
unfoldable pub clauses_from : Lcg → ℕ → List (List Literal)
clauses_from g zero = []
clauses_from g (suc n) = next_clause g ∷ clauses_from (behind_clause g) n

-- the generator of a number
abbrev pub source : ℕ → Lcg
source number = generator_of number 0

-- the formula of a number, on six variables: the first word says how many clauses it has, from four to nineteen
abbrev pub drawn : ℕ → FormulaData
drawn number = record { vars = 6; clauses = clauses_from (rest_of (source number)) (4 + word_of (source number) % 16) }
