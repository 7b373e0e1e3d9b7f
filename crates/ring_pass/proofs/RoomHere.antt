-- A want of room that the port answered is the one that a turn noted.
use Rattle.std.proofs.Common.{◌≡◌, Bool, true, false, List, [], ◌∷◌, Option, Some, None, sym, ap, ◌∙◌, true≢false}
use Rattle.std.specs.Option.{option_map}
use lib.ListN.{get_elem?}
use Rattle.sat_words.specs.declared.shared.NoRoom.{NoRoom}
use Rattle.share_rule.specs.declared.view.Refusal.{Refusal}
use Rattle.share_rule.specs.declared.view.Refusal.TheVariants as note
use Rattle.share_rule.specs.declared.view.RingPart.{RingPart}
use Rattle.share_rule.specs.declared.view.View.{View}
use Rattle.share_rule.specs.Seen.{Seen}
use Rattle.share_rule.specs.Tight.{IsTight}
use Rattle.share_rule.specs.Views.{only}
use Rattle.ring_port.specs.declared.stops.PortStop.{PortStop}
use Rattle.ring_port.specs.declared.stops.PortStop.TheVariants as port
use Rattle.ring_pass.specs.Refusals.{answer_noted, last_refusal}

-- whether room was wanted
abbrev wants : Option PortStop → Bool
wants None = false
wants (Some port.Ended) = false
wants (Some port.Broken) = false
wants (Some (port.NoHole lack)) = true
wants (Some port.Memory) = false
wants (Some port.ProofFault) = false

-- how much
abbrev lack_in : NoRoom → Option PortStop → NoRoom
lack_in d None = d
lack_in d (Some port.Ended) = d
lack_in d (Some port.Broken) = d
lack_in d (Some (port.NoHole lack)) = lack
lack_in d (Some port.Memory) = d
lack_in d (Some port.ProofFault) = d

-- a noted refusal that is answered as a want of room is one
pub noted_room : (x : Option Refusal) (lack : NoRoom) → option_map answer_noted x ≡ Some (port.NoHole lack) → x ≡ Some (note.NoHole lack.need lack.largest)
noted_room None lack e = absurd (true≢false (ap wants (sym e)))
noted_room (Some note.Ended) lack e = absurd (true≢false (ap wants (sym e)))
noted_room (Some note.Broken) lack e = absurd (true≢false (ap wants (sym e)))
noted_room (Some note.ProofFault) lack e = absurd (true≢false (ap wants (sym e)))
noted_room (Some (note.NoHole need most)) lack e = ap (λ (n : NoRoom). Some (note.NoHole n.need n.largest)) (ap (lack_in lack) e)

-- so the table had no room
pub room_here : (v : View) (s : Seen v) (refused : Option PortStop) (lack : NoRoom) → v.parts ≡ only v ∷ [] → refused ≡ last_refusal (only v) → refused ≡ Some (port.NoHole lack) → IsTight v.layout s.core.opening s.core.journal lack.need lack.largest
room_here v s refused lack one noted is = (s.parts 0 (only v) (ap (λ (ps : List RingPart). get_elem? ps 0) one)).refused (note.NoHole lack.need lack.largest) (noted_room (only v).refused lack (sym noted ∙ is))
