-- The formula of a number: random clauses of three literals, which a hidden assignment satisfies.
use Rattle.std.specs.Prelude.{ℕ, zero, suc, ◌+◌, ◌/◌, ◌%◌, ◌==◌, Bool, List, [], ◌∷◌, if◌then◌else◌}
use Rattle.sat_words.specs.Literal.{Literal, opposite}
use Rattle.sat_words.specs.Clause.{clause_of}
use Rattle.sat_words.specs.Truth.{clause_true}
use Rattle.sat_words.specs.FormulaData.{FormulaData}
use Rattle.rand_pcg.specs.Lcg.{Lcg}
use Rattle.random_bits.specs.Bits.{bits_from, rest_from, word_of, rest_of, generator_of}

-- how many variables a made formula has
abbrev pub made_vars : ℕ
made_vars = 20000

-- how many clauses a made formula has
abbrev pub made_clauses : ℕ
made_clauses = 60000

-- the generator of the formula with this number
abbrev pub source : ℕ → Lcg
source number = generator_of number 1

-- the hidden value of each variable, from variable 1
abbrev pub hidden : ℕ → List Bool
hidden number = bits_from (source number) made_vars

-- the four words of a clause
pub record Draw : Type 0 where
  pub first : ℕ
  pub second : ℕ
  pub third : ℕ
  pub signs : ℕ

-- the next four words
abbrev pub draw_of : Lcg → Draw
draw_of g = record {
  first = word_of g;
  second = word_of (rest_of g);
  third = word_of (rest_of (rest_of g));
  signs = word_of (rest_of (rest_of (rest_of g)));
}

-- the generator after them
abbrev pub behind_draw : Lcg → Lcg
behind_draw g = rest_of (rest_of (rest_of (rest_of g)))

-- the variables, from 0: the first anywhere, the second at most 9999 after it, the third at least 10000 after it, all in
-- a circle
abbrev pub first_var : Draw → ℕ
first_var d = d.first % made_vars

-- the second variable of a draw, from 0
abbrev pub second_var : Draw → ℕ
second_var d = (first_var d + 1 + d.second % 9999) % made_vars

-- the third variable of a draw, from 0
abbrev pub third_var : Draw → ℕ
third_var d = (first_var d + 10000 + d.third % 10000) % made_vars

-- the literal on a variable that is given from 0, negated if the last bit is 1
abbrev pub drawn_lit : (var bits : ℕ) → Literal
drawn_lit var bits = record { var = var + 1; neg = bits % 2 == 1 }

-- the literal on the first variable, by the lowest bit of the fourth word
abbrev pub first_lit : Draw → Literal
first_lit d = drawn_lit (first_var d) d.signs

-- the literal on the second variable, by the next bit
abbrev pub second_lit : Draw → Literal
second_lit d = drawn_lit (second_var d) (d.signs / 2)

-- the literal on the third variable, by the bit after that
abbrev pub third_lit : Draw → Literal
third_lit d = drawn_lit (third_var d) (d.signs / 4)

-- a literal, negated if this holds
abbrev pub turned_if : Bool → Literal → Literal
turned_if b l = if b then opposite l else l

-- three literals, with that at a place negated
abbrev pub with_negated : Literal → Literal → Literal → ℕ → List Literal
with_negated a b c place = turned_if (place == 0) a ∷ turned_if (place == 1) b ∷ turned_if (place == 2) c ∷ []

-- three literals as they are where the hidden values make one of them true, else with that at a place negated
abbrev pub mended : List Bool → Literal → Literal → Literal → ℕ → List Literal
mended h a b c place = if clause_true h (a ∷ b ∷ c ∷ []) then a ∷ b ∷ c ∷ [] else with_negated a b c place

-- the literals of a clause
abbrev pub planted : List Bool → Draw → List Literal
planted h d = mended h (first_lit d) (second_lit d) (third_lit d) (d.signs / 8 % 3)

-- the next n clauses
unfoldable pub clauses_from : List Bool → Lcg → ℕ → List (List Literal)
clauses_from h g zero = []
clauses_from h g (suc n) = clause_of (planted h (draw_of g)) ∷ clauses_from h (behind_draw g) n

-- the formula of a number: the words after those of the hidden values make its clauses
abbrev pub made : ℕ → FormulaData
made number = record { vars = made_vars; clauses = clauses_from (hidden number) (rest_from (source number) made_vars) made_clauses }
