-- What passes know, and what steps make of it.
use Rattle.std.specs.Prelude.{Bool, true, ◌≡◌, ℕ, zero, suc, ◌+◌, ◌<◌, ◌/◌, true, false, ◌==◌, length, List, [], ◌∷◌, map, slice_index_or, Option, Some, None, if◌then◌else◌}
use Rattle.sat_words.specs.Literal.{Literal}
use Rattle.rup_model.specs.Basics.{one_if}
use Rattle.share_core.specs.declared.stored.ClauseAt.{ClauseAt}
use Rattle.share_core.specs.declared.event.Stop.{Stop}
use Rattle.share_core.specs.State.{blank, times_at}
use Rattle.share_core.specs.declared.part.CoreOpening.{CoreOpening}
use Rattle.share_rule.specs.declared.Layout.{Layout}
use Rattle.share_rule.specs.declared.view.GlueAt.{GlueAt}
use Rattle.share_rule.specs.declared.view.StoredWord.{StoredWord}
use Rattle.share_rule.specs.declared.view.RingPart.{RingPart}
use Rattle.share_rule.specs.declared.view.Stage.{Stage}
use Rattle.share_rule.specs.declared.view.Stage.TheVariants.{Draft, Open, Spent}
use Rattle.sat_words.specs.declared.line.ProofFormat.TheVariants.{Text}
use Rattle.share_rule.specs.declared.view.BookOrigin.{BookOrigin}
use Rattle.share_rule.specs.declared.view.View.{View}
use Rattle.clause_cell.specs.Packing.{pair_of, words_for}
use Rattle.clause_cell.specs.Packing.{lit_word, cell_word}

-- Lists

-- how often a number stands in the list
abbrev pub times_in : ℕ → List ℕ → ℕ
times_in a [] = 0
times_in a (x ∷ xs) = one_if (x == a) + times_in a xs

-- the list without its first such number
abbrev pub without_in : ℕ → List ℕ → List ℕ
without_in a [] = []
without_in a (x ∷ xs) = if x == a then xs else x ∷ without_in a xs

-- the numbers below n
abbrev pub up_to : ℕ → List ℕ
up_to zero = []
up_to (suc n) = n ∷ up_to n

-- the glue of the clause with this number, 0 if the list has none
abbrev pub glue_in : ℕ → List GlueAt → ℕ
glue_in n [] = 0
glue_in n (g ∷ gs) = if g.number == n then g.glue else glue_in n gs

-- start clauses have glue 0
abbrev pub start_glues : List ClauseAt → List GlueAt
start_glues ss = map (λ s. record { number = s.number; glue = 0 }) ss

-- the word that was stored last at a place
abbrev pub stored_at : ℕ → List StoredWord → Option ℕ
stored_at w [] = None
stored_at w (s ∷ ss) = if s.place == w then Some s.word else stored_at w ss

-- Stops

-- the stop if it is the ring's
abbrev pub own_stop : ℕ → Option Stop → Option Stop
own_stop r None = None
own_stop r (Some s) = if s.ring == r then Some s else None

-- the first if there is one
abbrev pub first_of : Option Stop → Option Stop → Option Stop
first_of None t = t
first_of (Some s) t = Some s

-- Views

-- a pass of an open table
abbrev pub is_ready : Stage → Bool
is_ready Draft = false
is_ready Open = true
is_ready Spent = false

-- a pass of a table that is not open yet
abbrev pub in_draft : Stage → Bool
in_draft Draft = true
in_draft Open = false
in_draft Spent = false

-- of a table that is not open
abbrev pub no_opening : CoreOpening
no_opening = record { formula = []; rings = 0; depth = 0; journal = []; starts = []; units = []; numbers = []; limit = 0; hinted = false }

-- of none
abbrev pub no_origin : BookOrigin
no_origin = record { format = Text; tells = false; target = None; flushed = None; faults = 0; keeps = false }

-- before the table is open
abbrev pub closed_view : Layout → View
closed_view l = record { stage = Draft; layout = l; opening = no_opening; origin = no_origin; steps = 0; last = None; stop = None; looks = 0; rights = []; parts = [] }

-- with the slot in hand
abbrev pub taken_view : Layout → View
taken_view l = record (closed_view l) { steps = 1 }

-- with these rights, and no ring yet
abbrev pub view : Layout → CoreOpening → BookOrigin → List ℕ → View
view l o w rights = record { stage = Open; layout = l; opening = o; origin = w; steps = 0; last = None; stop = None; looks = 0; rights = rights; parts = [] }

-- the first pass's
abbrev pub first_view : Layout → CoreOpening → BookOrigin → View
first_view l o w = view l o w (up_to o.rings)

-- what a pass is left with that was joined to another
abbrev pub spent_view : View
spent_view = record (closed_view (record { rings = 0; vars = 0; words = 0; depth = 0; conflicts = 0 })) { stage = Spent }

-- no ring's
abbrev pub no_part : RingPart
no_part = record { core = blank 0; glues = []; stored = []; turn = None; listed = 0; whole = false; unit = None; number = None; refused = None; failed = false; set = None; ended = false; gave = []; polls = []; caught_up = 0 }

-- the part of the pass's one ring
abbrev pub only : View → RingPart
only v = slice_index_or v.parts 0 no_part

-- if there is none
abbrev pub no_clause : ClauseAt
no_clause = record { address = 0; number = 0; lits = [] }

-- the first clause at an address
abbrev pub clause_in : ℕ → List ClauseAt → ClauseAt
clause_in a [] = no_clause
clause_in a (h ∷ hs) = if h.address == a then h else clause_in a hs

-- the clause that the pass's ring holds there
abbrev pub clause_of : ℕ → View → ClauseAt
clause_of a v = clause_in a (only v).core.held

-- the literal at a place
abbrev pub lit_in : List Literal → ℕ → Literal
lit_in lits i = slice_index_or lits i (record { var = 0; neg = false })

-- Conditions

-- the pass may take the ring's grant
abbrev pub IsRight : ℕ → View → Type 0
IsRight r v = (r < v.opening.rings) × (0 < times_in r v.rights)

-- the pass has one ring, which holds the cell
abbrev pub IsHolding : ℕ → View → Type 0
IsHolding a v = (v.parts ≡ only v ∷ []) × (0 < times_at a (only v).core.held)

-- the clause that the pass's ring builds there
abbrev pub making_of : ℕ → View → ClauseAt
making_of a v = clause_in a (only v).core.making

-- the pass has one ring, which builds the cell
abbrev pub IsBuilding : ℕ → View → Type 0
IsBuilding a v = (v.parts ≡ only v ∷ []) × (0 < times_at a (only v).core.making)

-- all words after its count are stored as the cell's
abbrev pub IsBuilt : ℕ → View → Type 0
IsBuilt a v = (i : ℕ) → 0 < i → i < words_for (length (making_of a v).lits)
    → stored_at (a + i) (only v).stored ≡ Some (cell_word (making_of a v).number (glue_in (making_of a v).number (only v).glues) (making_of a v).lits i)

-- if the word is one of those after the count of a cell that the pass's ring holds, this is it
pub record IsWord (v : View) (w n : ℕ) : Type 0 where
  pub number_is : (a : ℕ) → 0 < times_at a (only v).core.held → w ≡ a + 1 → n ≡ (clause_of a v).number
  pub head_is : (a : ℕ) → 0 < times_at a (only v).core.held → w ≡ a + 2 → n ≡ pair_of (length (clause_of a v).lits) (glue_in (clause_of a v).number (only v).glues)
  pub lits_are : (a j : ℕ) → 0 < times_at a (only v).core.held → j < (length (clause_of a v).lits + 1) / 2 → w ≡ a + 3 + j → n ≡ lit_word (clause_of a v).lits j
