-- The lemmas that a ring may reduce.
use Rattle.std.specs.Prelude.{◌≡◌, ◌≢◌, ℕ, ◌<◌, ◌&&◌, not, nat_lt, false, if◌then◌else◌, List, [], ◌∷◌, All, Contains, IsSome, ⊤}
use Rattle.sat_words.specs.declared.shared.Cref.{Cref}
use Rattle.ring_port.specs.PortState.{PortState, held_at}
use Rattle.ring_port.specs.Deleting.{IsNotTaken}
use Rattle.watch_prop.specs.WatchData.{is_among}

-- no two are at the same address
abbrev pub AreDistinct : List Cref → Type 0
AreDistinct [] = ⊤
AreDistinct (c ∷ cs) = All (λ (d : Cref). d.address ≢ c.address) cs × AreDistinct cs

-- none stands twice; each is attached and held, and was not taken from another ring since the last Reduce entry
pub record AreLemmas (s : PortState) (attached lemmas : List Cref) : Type 0 where
  pub distinct : AreDistinct lemmas
  pub member : All (Contains attached) lemmas
  pub held : All (λ (c : Cref). IsSome (held_at s c.address)) lemmas
  pub apart : All (λ (c : Cref). IsNotTaken s c.address) lemmas

-- the clauses, each once, without those at addresses up to this one and those at the address of one of the others
pub record AreToldApart (after : ℕ) (others clauses apart : List Cref) : Type 0 where
  pub distinct : AreDistinct apart
  pub among : All (Contains clauses) apart
  pub beyond : All (λ (c : Cref). after < c.address) apart
  pub free : All (λ (c : Cref). is_among others c.address ≡ false) apart
  pub all : (c : Cref) → Contains clauses c → after < c.address → is_among others c.address ≡ false → Contains apart c

-- of clauses in the order of their addresses the first at each address after this one at which none of the others is
abbrev pub first_of_each : ℕ → (others clauses : List Cref) → List Cref
first_of_each after others [] = []
first_of_each after others (c ∷ cs) =
    if nat_lt after c.address && not (is_among others c.address)
    then c ∷ first_of_each c.address others cs
    else first_of_each after others cs
