-- Listed units.
use Rattle.std.specs.Prelude.{◌≡◌, ◌+◌, ◌==◌, ℕ, true, false, [], ◌∷◌, if◌then◌else◌, length, Some, None, is_some}
use Rattle.sat_words.specs.Literal.{Literal, code_of}
use Rattle.sat_words.specs.Clause.{has}
use Rattle.rup_model.specs.Journal.{book}
use Rattle.share_core.specs.Events.{seen_part}
use Rattle.share_rule.specs.declared.view.Op.TheVariants.{Load, Store}
use Rattle.share_rule.specs.declared.view.RingPart.{RingPart}
use Rattle.share_rule.specs.declared.view.View.{View}
use Rattle.share_rule.specs.Layout.{unit_at, number_at, InVars}
use Rattle.share_rule.specs.Views.{only}
use Rattle.share_rule.specs.Steps.{stepped, changed}
use Rattle.share_rule.specs.Turns.{IsWriting, journal_in}

-- no variable's
abbrev pub no_lit : Literal
no_lit = record { var = 0; neg = false }

-- the ring has the turn and has seen all listed units; this one is none of them, and the number was given to a clause that is
-- this unit before the turn
pub record MayPublish (lit : Literal) (number : ℕ) (v : View) : Type 0 where
  pub writing : IsWriting v
  pub whole : ((only v).whole ≡ true) × ((only v).listed ≡ length (only v).core.seen)
  pub told : (book v.opening.formula (journal_in (only v).turn)).clause number ≡ Some (lit ∷ [])
  pub new : has (only v).core.seen lit ≡ false
  pub vars : InVars v.layout (lit ∷ [])

-- Parts

-- a word is stored after the listed units
abbrev pub unit_part : ℕ → RingPart → RingPart
unit_part n p = record p { unit = Some n }

-- so is a word after their numbers
abbrev pub number_part : ℕ → RingPart → RingPart
number_part n p = record p { number = Some n }

-- both are counted, and the ring has seen the unit
abbrev pub list_part : Literal → ℕ → RingPart → RingPart
list_part lit number p = record p { core = seen_part lit number p.core; listed = p.listed + 1; unit = None; number = None }

-- this many are listed: all of them while the ring has the turn; whether it has seen as many is noted
abbrev pub count_part : ℕ → RingPart → RingPart
count_part n p = record p { listed = n; whole = is_some p.turn; caught_up = if n == length p.core.seen then p.caught_up + 1 else p.caught_up }

-- the ring has seen one more, which has this number
abbrev pub see_part : Literal → ℕ → RingPart → RingPart
see_part lit number p = record p { core = seen_part lit number p.core }

-- Steps

-- the word after those that the ring has seen
abbrev pub next_unit_at : View → ℕ
next_unit_at v = unit_at v.layout (length (only v).core.seen)

-- it is stored
abbrev pub after_unit : ℕ → View → View
after_unit n v = stepped (next_unit_at v) (Store n) n (changed (unit_part n) v)

-- the word after the numbers of those that the ring has seen
abbrev pub next_number_at : View → ℕ
next_number_at v = number_at v.layout (length (only v).core.seen)

-- it is stored
abbrev pub after_number : ℕ → View → View
after_number n v = stepped (next_number_at v) (Store n) n (changed (number_part n) v)

-- both are counted
abbrev pub after_list : Literal → ℕ → View → View
after_list lit number v = let n = length (only v).core.seen + 1 in stepped 2 (Store n) n (changed (list_part lit number) v)

-- the number of listed units is read
abbrev pub after_count : ℕ → View → View
after_count n v = stepped 2 Load n (changed (count_part n) v)

-- the next unit is read
abbrev pub after_see : Literal → ℕ → View → View
after_see lit number v = stepped (next_unit_at v) Load (code_of lit) (changed (see_part lit number) v)
