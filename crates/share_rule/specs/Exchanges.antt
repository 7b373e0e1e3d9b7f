-- What puts, gets and stops make of views.
use Rattle.std.specs.Prelude.{◌≡◌, ◌≢◌, ℕ, ◌+◌, ◌<◌, ◌/◌, ◌%◌, ◌==◌, All, List, [], ◌∷◌, ◌++◌, Option, Some, None, MatchOption, if◌then◌else◌}
use mathlib.Core.Option.{some}
use lib.ListN.{get_elem?}
use Rattle.share_core.specs.declared.stored.ClauseAt.{ClauseAt}
use Rattle.share_core.specs.declared.stored.PutNote.{PutNote}
use Rattle.share_core.specs.declared.event.Stop.{Stop}
use Rattle.share_core.specs.State.{slot_of}
use Rattle.share_core.specs.Events.{put_part, got_part}
use Rattle.share_rule.specs.declared.view.GlueAt.{GlueAt}
use Rattle.share_rule.specs.declared.view.Op.TheVariants.{Load, Swap, CompareExchange}
use Rattle.share_rule.specs.declared.view.RingPart.{RingPart}
use Rattle.share_rule.specs.declared.view.View.{View}
use Rattle.share_rule.specs.Layout.{slot_at}
use Rattle.share_rule.specs.Views.{only, clause_in, glue_in}
use Rattle.share_rule.specs.Steps.{stepped, changed}

-- Conditions

-- the pass has one ring, which is this
abbrev pub IsRing : ℕ → View → Type 0
IsRing r v = (v.parts ≡ only v ∷ []) × (r ≡ (only v).core.ring)

-- the pass has one ring, and this is another
abbrev pub IsOther : ℕ → View → Type 0
IsOther r v = (v.parts ≡ only v ∷ []) × (r < v.opening.rings) × (r ≢ (only v).core.ring)

-- Slots

-- the word of a slot of one ring for another
abbrev pub slot_word : View → ℕ → ℕ → ℕ → ℕ → ℕ
slot_word v from to class place = slot_at v.layout (slot_of v.opening from to class place)

-- the list with the glue of a clause; at address 0 there is none
abbrev pub with_glue : ClauseAt → ℕ → List GlueAt → List GlueAt
with_glue h g gs = if h.address == 0 then gs else record { number = h.number; glue = g } ∷ gs

-- no glue changes of what the ring holds
abbrev pub KeepsGlues : ClauseAt → ℕ → RingPart → Type 0
KeepsGlues h g p = All (λ k. glue_in k.number (with_glue h g p.glues) ≡ glue_in k.number p.glues) p.core.held

-- the ring gives a count of a cell away, and holds what came out, a clause with this glue
abbrev pub gave_part : PutNote → ClauseAt → ℕ → RingPart → RingPart
gave_part n h g p = record p { core = put_part n h p.core; glues = with_glue h g p.glues; gave = p.gave ++ clause_in n.address p.core.held ∷ [] }

-- it holds what came out, and notes the slot, with how often it had found no other unit listed
abbrev pub took_part : ℕ → ℕ → ℕ → ClauseAt → ℕ → RingPart → RingPart
took_part from class place h g p = record p { core = got_part h p.core; glues = with_glue h g p.glues; polls = p.polls ++ record { from = from; class = class; place = place; caught_up = p.caught_up } ∷ [] }

-- a count is swapped into a slot of the ring for another
abbrev pub after_put : ℕ → ℕ → ℕ → ℕ → ClauseAt → ℕ → View → View
after_put to class place a h g v = stepped (slot_word v (only v).core.ring to class place) (Swap a) h.address (changed (gave_part (record { to = to; class = class; place = place; address = a }) h g) v)

-- a count is swapped out of a slot of another ring for this one
abbrev pub after_get : ℕ → ℕ → ℕ → ClauseAt → ℕ → View → View
after_get from class place h g v = stepped (slot_word v from (only v).core.ring class place) (Swap 0) h.address (changed (took_part from class place h g) v)

-- The stop

-- the stop that a word spells
abbrev pub stop_in : ℕ → Stop
stop_in n = record { kind = n % 8; ring = n / 8 }

-- none if it is 0
abbrev pub stop_of : ℕ → Option Stop
stop_of n = if n == 0 then None else Some (stop_in n)

-- what a pass may find: the stop that it has seen; if it has seen none, no stop of a ring of its own
abbrev pub MayFind : View → Option Stop → Type 0
MayFind v None = v.stop ≡ None
MayFind v (Some s) = MatchOption v.stop ((i : ℕ) (p : RingPart) → get_elem? v.parts i ≡ some p → s.ring ≢ p.core.ring) (λ t. s ≡ t)

-- the ring's stop stands
abbrev pub set_part : Stop → RingPart → RingPart
set_part s p = record p { set = Some s }

-- the stop word is read; a look that finds no stop is counted
abbrev pub after_look : ℕ → View → View
after_look n v = record (stepped 1 Load n v) { stop = stop_of n; looks = if n == 0 then v.looks + 1 else v.looks }

-- the ring's stop is set, if none stood
abbrev pub after_win : ℕ → View → View
after_win code v = record (stepped 1 (CompareExchange 0 code) 0 (changed (set_part (stop_in code)) v)) { stop = Some (stop_in code) }

-- one stood there
abbrev pub after_loss : ℕ → ℕ → View → View
after_loss code n v = record (stepped 1 (CompareExchange 0 code) n v) { stop = stop_of n }

-- by what the word was
abbrev pub after_set : ℕ → ℕ → View → View
after_set code n v = if n == 0 then after_win code v else after_loss code n v
