-- What a port does when it asks for a ticket.
use Rattle.std.specs.Prelude.{◌≡◌, ◌<◌, ◌≤◌, nat_le}
use Rattle.ring_port.specs.declared.draw.Drawn.{Drawn}
use Rattle.ring_port.specs.declared.draw.Drawn.TheVariants.{Ticket, Gone}
use Rattle.ring_port.specs.PortState.{PortState}

-- more tickets had been drawn than at the last draw; a ticket is in hand if not all had been
pub record Drew (old new : PortState) : Type 0 where
  pub more : old.found < new.found
  pub state : new ≡ record old { ticket = nat_le new.found old.limit; found = new.found }

-- what `draw` did: it found fewer tickets drawn than there are, or all
abbrev pub HasDrawn : PortState → PortState → Drawn → Type 0
HasDrawn old new Ticket = Drew old new × (new.found ≤ old.limit)
HasDrawn old new Gone = Drew old new × (old.limit < new.found)
