-- What the steps on units tell.
use Rattle.std.specs.Prelude.{◌≡◌, ℕ, ◌<◌, ◌≤◌, ◌∷◌, [], length}
use Rattle.atomic_table.specs.Table.{Me, Step}
use Rattle.sat_words.specs.Literal.{Literal, code_of}
use Rattle.share_rule.specs.declared.view.View.{View}
use Rattle.share_core.specs.Events.{listed_number}
use Rattle.share_rule.specs.Layout.{number_at, InVars}
use Rattle.share_rule.specs.Views.{only}
use Rattle.share_rule.specs.Steps.{after_load}
use Rattle.share_rule.specs.Units.{after_count, after_see, after_unit, after_number, after_list}
use Rattle.share_rule.specs.Told.{Knows}

module _ {S : Type 0} where
  -- the word after the listed units is stored
  abbrev pub stored_unit : Step S → Me S View → ℕ → Me S View → Type 0
  stored_unit st m n m' = Knows (after_unit st.first m.0) m m'

  -- so is the word after their numbers
  abbrev pub stored_number : Step S → Me S View → ℕ → Me S View → Type 0
  stored_number st m n m' = Knows (after_number st.first m.0) m m'

  -- the unit is listed with its number
  abbrev pub listed_unit : Literal → ℕ → Step S → Me S View → ℕ → Me S View → Type 0
  listed_unit lit number st m n m' = Knows (after_list lit number m.0) m m'

  -- the ring knows how many units are listed, which are no fewer than it has seen and no fewer than were from the start
  abbrev pub counted_units : Step S → Me S View → ℕ → Me S View → Type 0
  counted_units st m n m' = Knows (after_count n m.0) m m' × (length (only m.0).core.seen ≤ n) × (length m.0.opening.units ≤ n)

  -- the word is a unit's, which the ring has seen; its number is fixed, and read by a step of its own
  abbrev pub saw_unit : Step S → Me S View → ℕ → Me S View → Type 0
  saw_unit st m n m' = (lit : Literal) × (number : ℕ) × (n ≡ code_of lit) × InVars m.0.layout (lit ∷ []) × Knows (after_see lit number m.0) m m'

  -- whichever of the units that the ring has seen the word is for, this is its number
  abbrev pub loaded_number : Step S → Me S View → ℕ → Me S View → Type 0
  loaded_number st m n m' = Knows (after_load st.word n m.0) m m'
      × ((k : ℕ) → k < length (only m.0).core.seen → st.word ≡ number_at m.0.layout k → n ≡ listed_number (only m.0).core.numbers k)
