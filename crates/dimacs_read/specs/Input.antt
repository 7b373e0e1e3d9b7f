-- A text as it is read: at most 2^33 of its bytes count.
use Rattle.std.specs.Prelude.{◌≡◌, ℕ, ◌≤◌, ◌<◌, ◌^◌, ◌||◌, List, [], ◌∷◌, ◌++◌, length, All, if◌then◌else◌, Ok, Err}
use Rattle.sat_words.specs.Literal.{IsOn}
use Rattle.sat_words.specs.FormulaData.{FormulaData}
use Rattle.dimacs_read.specs.Grammar.{Outcome, outcome, lines, is_blank, is_newline}
use Rattle.dimacs_read.specs.declared.stop.Code.{Code}
use Rattle.dimacs_read.specs.declared.stop.Code.TheVariants.{Limit}

-- the bytes determine what the text is, however it goes on
abbrev pub Shows : List ℕ → Outcome → Type 0
Shows taken found = (more : List ℕ) → outcome (taken ++ more) ≡ found

-- the byte, where it ends a token
abbrev pub separator : ℕ → List ℕ
separator byte = if is_blank byte || is_newline byte then byte ∷ [] else []

-- a text longer than the limit: its bytes up to there, and the next one
pub record IsLong (text front : List ℕ) (byte : ℕ) : Type 0 where
  pub more : List ℕ
  pub split : text ≡ front ++ byte ∷ more
  pub limit : length front ≡ 2 ^ 33

-- what the text is, by its first 2^33 bytes: one that goes on is bad at the next byte, unless those determine what it is
pub data Gives (text : List ℕ) (found : Outcome) : Type 0 where
  Short : length text ≤ 2 ^ 33 → outcome text ≡ found → Gives text found
  Determined : (front : List ℕ) (byte : ℕ) → IsLong text front byte → Shows (front ++ separator byte) found → Gives text found
  Long : (front : List ℕ) (byte : ℕ) → IsLong text front byte → ((other : Outcome) → Shows (front ++ separator byte) other → ⊥)
      → found ≡ Err (record { code = Limit; line = length (lines front) }) → Gives text found

-- the text spells the formula
abbrev pub Reads : List ℕ → FormulaData → Type 0
Reads text formula = Gives text (Ok formula)

-- the first bad place of the text
abbrev pub Bad : List ℕ → Code → ℕ → Type 0
Bad text code line = Gives text (Err (record { code = code; line = line }))

-- the literals are on the variables, and these are few
pub record IsInRange (formula : FormulaData) : Type 0 where
  pub few_variables : formula.vars < 2 ^ 28
  pub on_variables : All (All (IsOn formula.vars)) formula.clauses
