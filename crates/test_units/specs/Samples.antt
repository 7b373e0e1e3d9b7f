-- What the tests start from, and what their rings know.
use Rattle.std.specs.Prelude.{◌≡◌, ◌≤◌, ℕ, Bool, true, false, List, [], ◌∷◌, ◌++◌, map, Option}
use Rattle.sat_words.specs.Literal.{Literal}
use Rattle.rup_model.specs.Journal.{fresh}
use Rattle.rup_model.specs.Opening.{start_clauses}
use Rattle.share_core.specs.declared.part.Placed.{Placed}
use Rattle.rup_model.specs.declared.journal.Kind.TheVariants.{Learn}
use Rattle.rup_model.specs.declared.journal.Entry.TheVariants.{Add}
use Rattle.share_core.specs.declared.part.CoreOpening.{CoreOpening}
use Rattle.share_core.specs.declared.part.Part.{Part}
use Rattle.share_core.specs.Events.{granted_part, made_part, opened_part}
use Rattle.share_rule.specs.FirstWords.{starts_at}
use Rattle.share_rule.specs.Steps.{new_part}
use Rattle.share_core.specs.State.{opening_of, blank}
use Rattle.share_core.specs.Learning.{follows}
use Rattle.atomic_table.specs.declared.shared.Seat.{Seat}
use Rattle.share_rule.specs.declared.Shared.{Shared}
use Rattle.share_rule.specs.declared.view.View.{View}
use Rattle.share_rule.specs.Layout.{InVars}
use Rattle.share_rule.specs.Views.{only, glue_in}
use Rattle.test_tables.specs.Samples.{IsRing}

-- a literal
abbrev pub plus : ℕ → Literal
plus v = record { var = v; neg = false }

-- and its negation
abbrev pub minus : ℕ → Literal
minus v = record { var = v; neg = true }

-- three clauses, of which 2 follows
abbrev pub three : List (ℕ × List Literal)
three = (1, plus 1 ∷ plus 2 ∷ plus 3 ∷ []) ∷ (2, plus 1 ∷ plus 2 ∷ minus 3 ∷ []) ∷ (3, minus 1 ∷ plus 2 ∷ []) ∷ []

-- the pass has this ring alone, which has not the turn; the log has no hints; the unit follows from what the ring knows
pub record IsWriter {B : Type 0} (t : Shared B) (p : Seat (Option B) View) (ring : ℕ) (lit : Literal) : Type 0 where
  pub is_ring : IsRing t p ring
  pub plain : p.me.0.opening.hinted ≡ false
  pub follows_is : follows false (only p.me.0).core (lit ∷ []) [] ≡ true
  pub on : InVars t.layout (lit ∷ [])

-- it may learn the clause in a log with no hints; it follows from what the ring knows, contains no start clause and none that the
-- ring learned; the ring has a ticket
pub record IsLearner {B : Type 0} (t : Shared B) (p : Seat (Option B) View) (ring : ℕ) (lits : List Literal) : Type 0 where
  pub is_ring : IsRing t p ring
  pub plain : p.me.0.opening.hinted ≡ false
  pub follows_is : follows false (only p.me.0).core lits [] ≡ true
  pub ticket_is : (only p.me.0).core.ticket ≡ true
  pub new_is : fresh (start_clauses (opening_of p.me.0.opening)) (map (λ (w : Placed). w.entry) (only p.me.0).core.wrote) ring lits ≡ true
  pub on : InVars t.layout lits

-- it builds this cell alone, whose clause has glue 1
pub record IsBuilder {B : Type 0} (t : Shared B) (p : Seat (Option B) View) (ring address number : ℕ) (lits : List Literal) : Type 0 where
  pub is_ring : IsRing t p ring
  pub making_is : (only p.me.0).core.making ≡ record { address = address; number = number; lits = lits } ∷ []
  pub glue_is : glue_in number (only p.me.0).glues ≡ 1

-- it has its grant, has done nothing yet, the start clauses are those three, and the log has no hints
pub record IsBeginner {B : Type 0} (t : Shared B) (p : Seat (Option B) View) (ring : ℕ) : Type 0 where
  pub is_ring : IsRing t p ring
  pub parts_are : p.me.0.parts ≡ new_part p.me.0.opening ring ∷ []
  pub from : ℕ
  pub starts_are : p.me.0.opening.starts ≡ starts_at from three
  pub plain : p.me.0.opening.hinted ≡ false
  pub vars : 2 ≤ t.layout.vars

-- what it learns
abbrev pub pair : List Literal
pair = plus 1 ∷ plus 2 ∷ []

-- it has its grant, and has drawn: whether a ticket is in hand, and what the draw found
abbrev pub drawn_part : CoreOpening → ℕ → Bool → ℕ → Part
drawn_part o ring ticket found = record (granted_part o (blank ring)) { ticket = ticket; found = found }

-- then it learned the pair, under this number, in an entry at this place, and holds its cell; whether a ticket is in hand, and what
-- the last draw found
abbrev pub pair_part : CoreOpening → ℕ → ℕ → ℕ → ℕ → Bool → ℕ → Part
pair_part o ring a n i ticket found = opened_part (record { address = a; number = n; lits = pair }) (made_part (record { address = a; number = n; lits = pair }) i (Add (record { ring = ring; number = n; lits = pair; kind = Learn; hints = [] })) (drawn_part o ring ticket found))

-- that is all that it did, but for a draw more if it has a ticket in hand
pub record IsPairHolder {B : Type 0} (t : Shared B) (p : Seat (Option B) View) (ring a : ℕ) (ticket : Bool) : Type 0 where
  pub is_ring : IsRing t p ring
  pub number : ℕ
  pub place : ℕ
  pub found : ℕ
  pub left : found ≤ p.me.0.opening.limit
  pub core_is : (only p.me.0).core ≡ pair_part p.me.0.opening ring a number place ticket found
  pub from : ℕ
  pub starts_are : p.me.0.opening.starts ≡ starts_at from three
  pub plain : p.me.0.opening.hinted ≡ false
  pub vars : 2 ≤ t.layout.vars

-- the last line that the ring wrote is this unit under this number
abbrev pub WroteLast : ℕ → Literal → ℕ → Part → Type 0
WroteLast ring lit number p = (i : ℕ) × (ws : List Placed) × (p.wrote ≡ ws ++ record { place = i; entry = Add (record { ring = ring; number = number; lits = lit ∷ []; kind = Learn; hints = [] }) } ∷ [])
