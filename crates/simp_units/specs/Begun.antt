-- Units that were made true one after another.
use Rattle.std.specs.Prelude.{◌≡◌, Bool, true, false, List, length, Option}
use Rattle.sat_words.specs.Literal.{Literal, opposite}
use Rattle.sat_words.specs.Clause.{has}
use Rattle.sat_words.specs.Values.{is_true}

-- the true literals are these
pub record AreTrue (units : List Literal) (old new : List (Option Bool)) : Type 0 where
  pub same : (l : Literal) → has units l ≡ is_true new l
  pub range : length new ≡ length old

-- a literal and its negation are among them
pub record Oppose (units : List Literal) : Type 0 where
  pub lit : Literal
  pub there : has units lit ≡ true
  pub negated : has units (opposite lit) ≡ true

-- what making the values of the listed units did; false if two are opposite
abbrev pub WasLoaded : List Literal → List (Option Bool) → List (Option Bool) → Bool → Type 0
WasLoaded units old new true = AreTrue units old new
WasLoaded units old new false = Oppose units
