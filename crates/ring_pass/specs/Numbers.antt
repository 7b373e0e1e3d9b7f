-- The numbers of units, kept by the codes of their literals.
use Rattle.std.specs.Prelude.{◌≡◌, ℕ, ◌+◌, ◌*◌, ◌≤◌, List, [], ◌∷◌, length, if◌then◌else◌, slice_index}
use Rattle.std.specs.List.{zip}
use Rattle.sat_words.specs.Literal.{Literal, same, code_of}
use Rattle.share_rule.specs.declared.view.View.{View}
use Rattle.share_rule.specs.Views.{only}

-- the number of the first of these that is the unit, 0 if there is none
abbrev pub number_among : List (Literal × ℕ) → Literal → ℕ
number_among [] l = 0
number_among (u ∷ us) l = if same l u.0 then u.1 else number_among us l

-- the table has a place for each literal on the variables, where its number stands if it is one of these units
pub record HasNumbers (seen : List Literal) (numbers : List ℕ) (vars : ℕ) (table : List ℕ) : Type 0 where
  pub places : 2 * vars + 2 ≤ length table
  pub there : (l : Literal) → slice_index table (code_of l) ≡ number_among (zip seen numbers) l

-- the table has the numbers of the units that the ring has seen
abbrev pub KnowsNumbers : View → List ℕ → Type 0
KnowsNumbers v table = HasNumbers (only v).core.seen (only v).core.numbers v.layout.vars table

-- a table that had the numbers of the units seen has those of the units seen now
abbrev pub KeepsNumbers : View → View → List ℕ → List ℕ → Type 0
KeepsNumbers v w old new = KnowsNumbers v old → KnowsNumbers w new
