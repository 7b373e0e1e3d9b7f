-- What is read of lemmas.
use Rattle.std.specs.Prelude.{ℕ}
use Rattle.std.specs.Option.{option_map_or}
use Rattle.sat_words.specs.declared.shared.Cref.{Cref}
use Rattle.ring_port.specs.PortState.{Holding, PortState, held_at}

-- the glue of the clause that is held at an address, 0 if none is
abbrev pub glue_at : PortState → Cref → ℕ
glue_at s c = option_map_or (λ (h : Holding). h.glue) (held_at s c.address) 0
