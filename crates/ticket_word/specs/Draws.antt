-- What comes of a draw.
use Rattle.std.specs.Prelude.{◌<◌, ◌≤◌, ℕ}
use Rattle.ring_port.specs.declared.draw.Drawn.{Drawn}
use Rattle.ring_port.specs.declared.draw.Drawn.TheVariants.{Ticket, Gone}

-- a ticket if fewer than the limit were drawn before, else none
abbrev pub IsDrawn : ℕ → ℕ → Drawn → Type 0
IsDrawn limit found Ticket = found < limit
IsDrawn limit found Gone = limit ≤ found
