-- What a view says of a core that enabled events leave.
use Rattle.std.specs.Prelude.{◌≡◌, ◌≢◌, ◌⊎◌, ℕ, ◌+◌, ◌*◌, ◌^◌, ◌<◌, ◌≤◌, Bool, true, List, length, All, Contains, Option, Some, None, if◌then◌else◌}
use mathlib.Core.Option.{some}
use lib.ListN.{get_elem?}
use Rattle.clause_cell.specs.Packing.{words_for}
use Rattle.rup_model.specs.declared.journal.Entry.{Entry}
use Rattle.rup_model.specs.Journal.{ended, is_ring}
use Rattle.share_core.specs.declared.event.Stop.{Stop}
use Rattle.share_core.specs.declared.stored.ClauseAt.{ClauseAt}
use Rattle.share_core.specs.declared.stored.Cell.{Cell}
use Rattle.share_core.specs.declared.part.CoreOpening.{CoreOpening}
use Rattle.share_core.specs.State.{State, clause_at, slot_of}
use Rattle.share_core.specs.Left.{Left}
use Rattle.share_rule.specs.declared.Layout.{Layout}
use Rattle.share_rule.specs.declared.view.RingPart.{RingPart}
use Rattle.share_rule.specs.declared.view.Taken.{Taken}
use Rattle.share_rule.specs.declared.view.Refusal.{Refusal}
use Rattle.share_rule.specs.declared.view.Refusal.TheVariants.{Ended, Broken, ProofFault, NoHole}
use Rattle.share_rule.specs.declared.view.View.{View}
use Rattle.share_rule.specs.Layout.{first_cell, cells_end, table_words, InVars}
use Rattle.share_rule.specs.Room.{Places}
use Rattle.share_rule.specs.Tight.{IsTight}
use Rattle.share_rule.specs.Views.{glue_in, own_stop}

-- the words of cells lie among those for cells and don't overlap; all literals are on the layout's variables
pub record Stands (l : Layout) (c : State) : Type 0 where
  pub rings : l.rings ≡ c.opening.rings
  pub depth : l.depth ≡ c.opening.depth
  pub inside : (a : ℕ) (x : Cell) → c.cell a ≡ Some x → (first_cell l ≤ a) × (a + words_for (length x.lits) ≤ cells_end l)
  pub apart : (a b : ℕ) (x y : Cell) → c.cell a ≡ Some x → c.cell b ≡ Some y → a ≢ b → (a + words_for (length x.lits) ≤ b) ⊎ (b + words_for (length y.lits) ≤ a)
  pub vars : (a : ℕ) (x : Cell) → c.cell a ≡ Some x → InVars l x.lits
  pub starts : All (λ s. InVars l s.lits) c.opening.starts
  pub units : InVars l c.units
  pub few : length c.units ≤ 2 * l.vars

-- what the ring took with the turn, if it has it
abbrev pub turn_of : State → ℕ → Option Taken
turn_of c r = if is_ring r c.turn then Some (record { journal = c.journal }) else None

-- it was refused for cause, by a ring that was told of a failed write or not
abbrev pub IsRefused : Layout → CoreOpening → List Entry → Bool → Refusal → Type 0
IsRefused l o J failed Ended = ended o.formula J ≡ true
IsRefused l o J failed Broken = failed ≡ true
IsRefused l o J failed ProofFault = failed ≡ true
IsRefused l o J failed (NoHole need most) = IsTight l o J need most

-- what the ring's slots have for others is among these clauses
abbrev pub HasGiven : State → ℕ → List ClauseAt → Type 0
HasGiven c r gave = (to class place : ℕ) → to < c.opening.rings → class < 4 → place < c.opening.depth → c.slot (slot_of c.opening r to class place) ≢ 0
    → Contains gave (clause_at c (c.slot (slot_of c.opening r to class place)))

-- the part is the ring's; the glues are those of the clauses that it holds and builds; what it knows of the turn, of the
-- listed units, of the log's end, of the stop and of its slots is so
pub record IsPart (l : Layout) (c : State) (glue : ℕ → ℕ) (p : RingPart) : Type 0 where
  pub ring : p.core.ring < c.opening.rings
  pub part : p.core ≡ c.part p.core.ring
  pub glues : All (λ h. glue_in h.number p.glues ≡ glue h.number) p.core.held
  pub made_glues : All (λ h. glue_in h.number p.glues ≡ glue h.number) p.core.making
  pub turn : p.turn ≡ turn_of c p.core.ring
  pub listed : p.listed ≤ length c.units
  pub whole : p.whole ≡ true → (c.turn ≡ Some p.core.ring) × (length c.units ≡ p.listed)
  pub refused : (x : Refusal) → p.refused ≡ Some x → IsRefused l c.opening c.journal p.failed x
  pub set : p.set ≡ own_stop p.core.ring c.stop
  pub ended_is : p.ended ≡ true → ended c.opening.formula c.journal ≡ true
  pub given : HasGiven c p.core.ring p.gave

-- the stop that a pass has seen stands, and it has seen those that its rings set
pub record IsStopOf (standing seen : Option Stop) (parts : List RingPart) : Type 0 where
  pub stands : (s : Stop) → seen ≡ Some s → standing ≡ Some s
  pub own : (i : ℕ) (p : RingPart) → get_elem? parts i ≡ some p → (s : Stop) → p.set ≡ Some s → seen ≡ Some s

-- some list of enabled events leaves a state in which the view's rings have these parts
pub record Seen (v : View) : Type 0 where
  pub core : State
  pub left : Left core.opening core
  pub standing : Stands v.layout core
  pub small : table_words v.layout ≤ 2 ^ 63
  pub places : Places v.layout core
  pub glue : ℕ → ℕ
  pub opening : v.opening ≡ core.opening
  pub stops : IsStopOf core.stop v.stop v.parts
  pub parts : (i : ℕ) (p : RingPart) → get_elem? v.parts i ≡ some p → IsPart v.layout core glue p
