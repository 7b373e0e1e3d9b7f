-- Which lemmas a reduction drops (Audemard and Simon 2009).
use Rattle.std.specs.Prelude.{◌≡◌, ℕ, ◌/◌, ◌==◌, ◌&&◌, ◌||◌, not, nat_lt, Bool, true, false, List, length, filter, All, Contains}
use Rattle.std.specs.List.{list_any}
use Rattle.std.specs.Option.{option_map_or}
use Rattle.sat_words.specs.declared.shared.Cref.{Cref}
use Rattle.sat_words.specs.declared.shared.Head.{Head}
use Rattle.ring_port.specs.PortState.{PortState, held_at, head_of}
use Rattle.ring_trail.specs.declared.step.TrailStep.{TrailStep}

-- the size, the glue and the number of the clause at an address
abbrev pub head_at : PortState → ℕ → Head
head_at s a = option_map_or head_of (held_at s a) (record { size = 0; glue = 0; number = 0 })

-- by glue, then by size, then by number
abbrev pub comes_before : Head → Head → Bool
comes_before x y = nat_lt x.glue y.glue || ((x.glue == y.glue) && (nat_lt x.size y.size || ((x.size == y.size) && nat_lt x.number y.number)))

-- the clause at the address is the reason of a literal
abbrev pub is_reason : List TrailStep → ℕ → Bool
is_reason steps a = list_any (λ (s : TrailStep). option_map_or (λ (c : Cref). c.address == a) s.reason false) steps

-- a lemma may be dropped: it has more than two literals and a glue above 2, and is no reason
abbrev pub is_droppable : PortState → List TrailStep → Cref → Bool
is_droppable s steps c = nat_lt 2 (head_at s c.address).size && (nat_lt 2 (head_at s c.address).glue && not (is_reason steps c.address))

-- some of the lemmas are dropped, and the others are kept, in their order: of those that may be dropped the half, rounded down,
-- and no lemma that is dropped comes before one that may be and is kept
pub record IsChoice (s : PortState) (steps : List TrailStep) (lemmas kept dropped : List Cref) : Type 0 where
  pub drops : Cref → Bool
  pub kept_is : kept ≡ filter (λ c. not (drops c)) lemmas
  pub dropped_is : dropped ≡ filter drops lemmas
  pub droppable : All (λ c. is_droppable s steps c ≡ true) dropped
  pub half : length dropped ≡ length (filter (is_droppable s steps) lemmas) / 2
  pub last : (c d : Cref) → Contains kept c → is_droppable s steps c ≡ true → Contains dropped d → comes_before (head_at s d.address) (head_at s c.address) ≡ false
