-- What is read of lemmas.
use Rattle.std.proofs.Common.{◌≡◌, IsSome, ap}
use Rattle.std.specs.Option.{option_map_or}
use Rattle.std.specs.Prelude.{Option, Some, None, IfSome}
use Rattle.std.proofs.lemmas.Bool.{false≢true}
use Rattle.sat_words.specs.declared.shared.Cref.{Cref}
use Rattle.sat_words.specs.declared.shared.Head.{Head}
use Rattle.ring_port.specs.PortState.{Holding, PortState, held_at, head_of}
use Rattle.test_ring.specs.Glues.{glue_at}

-- the head is that of the clause at the address
abbrev pub IsHeadAt : PortState → Cref → Head → Type 0
IsHeadAt s c head = IfSome (held_at s c.address) (λ (h : Holding). head ≡ head_of h)

-- a head that is read has the glue of its clause
pub glue_told : (s : PortState) (c : Cref) (head : Head) → IsSome (held_at s c.address) → IsHeadAt s c head → head.glue ≡ glue_at s c
glue_told s c head there is = by (held_at s c.address) there is where
  by : (o : Option Holding) → IsSome o → IfSome o (λ (h : Holding). head ≡ head_of h) → head.glue ≡ option_map_or (λ (h : Holding). h.glue) o 0
  by (Some h) here e = ap (λ (x : Head). x.glue) e
  by None here e = absurd (false≢true here)
