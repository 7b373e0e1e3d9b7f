-- How a refusal of the log's turn is answered.
use Rattle.std.specs.Prelude.{Bool, true, Option, Some}
use Rattle.std.specs.Option.{option_map}
use Rattle.share_rule.specs.declared.view.Refusal.{Refusal}
use Rattle.share_rule.specs.declared.view.Refusal.TheVariants as note
use Rattle.share_rule.specs.declared.view.RingPart.{RingPart}
use Rattle.log_book.specs.declared.stop.TurnStop.{TurnStop}
use Rattle.log_book.specs.declared.stop.TurnStop.TheVariants.{Ended, Broken, NoHole, Memory, ProofFault}
use Rattle.ring_port.specs.declared.stops.PortStop.{PortStop}
use Rattle.ring_port.specs.declared.stops.PortStop.TheVariants as port

-- a refusal of the turn, as the port answers it
abbrev pub port_stop : TurnStop → PortStop
port_stop Ended = port.Ended
port_stop Broken = port.Broken
port_stop (NoHole need most) = port.NoHole (record { need = need; largest = most })
port_stop Memory = port.Memory
port_stop ProofFault = port.ProofFault

-- the last answer that refused, as the port keeps it after this one: want of memory leaves no trace
abbrev pub refused_after : TurnStop → Option PortStop → Option PortStop
refused_after Ended old = Some port.Ended
refused_after Broken old = Some port.Broken
refused_after (NoHole need most) old = Some (port.NoHole (record { need = need; largest = most }))
refused_after Memory old = old
refused_after ProofFault old = Some port.ProofFault

-- whether the log is ended, as far as the port knows after this answer
abbrev pub ended_after : TurnStop → Bool → Bool
ended_after Ended old = true
ended_after Broken old = old
ended_after (NoHole need most) old = old
ended_after Memory old = old
ended_after ProofFault old = old

-- a refusal that the turn noted in the ring's part, as the port answers it
abbrev pub answer_noted : Refusal → PortStop
answer_noted note.Ended = port.Ended
answer_noted note.Broken = port.Broken
answer_noted note.ProofFault = port.ProofFault
answer_noted (note.NoHole need most) = port.NoHole (record { need = need; largest = most })

-- what the log's turns refused the ring last, as the port answers it
abbrev pub last_refusal : RingPart → Option PortStop
last_refusal p = option_map answer_noted p.refused
