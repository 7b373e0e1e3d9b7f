-- The row of the tests of reduction: one start clause, and lemmas that are copies of it.
use Rattle.std.specs.Prelude.{◌≡◌, ◌≢◌, ℕ, Bool, true, false, List, [], ◌∷◌, ◌++◌, map, Some, None, IsSome}
use Rattle.sat_words.specs.Literal.{Literal}
use Rattle.sat_words.specs.declared.shared.Cref.{Cref}
use Rattle.rup_model.specs.declared.journal.Kind.TheVariants.{Derive}
use Rattle.ring_port.specs.PortState.{Holding, PortState, IsPort, held_at, lits_at}
use Rattle.ring_port.specs.Port.{is_usable, AddedClause, KeepsHeld}
use Rattle.ring_trail.specs.TrailData.{TrailData}
use Rattle.watch_prop.specs.WatchData.{WatchData, attached}
use Rattle.watch_prop.specs.Watched.{Watched}
use Rattle.reduce_db.specs.Lemmas.{AreLemmas}
use Rattle.reduce_db.specs.Reduction.{WasReduced}
use Rattle.test_ring.specs.Glues.{glue_at}

-- the literal of a variable, negated or not
abbrev pub lit : ℕ → Bool → Literal
lit v n = record { var = v; neg = n }

-- the clause that the lemmas are copies of
abbrev pub source : List Literal
source = lit 1 false ∷ lit 2 false ∷ lit 3 false ∷ []

-- the start clauses, each with its number
abbrev pub row_starts : List (ℕ × List Literal)
row_starts = (1, source) ∷ []

-- the clause as the port holds it
abbrev pub source_held : Holding
source_held = record { address = 0; number = 1; glue = 0; lits = source }

-- the start clause is held at the address 0, nothing was taken, and nothing stands against a line; the log has no hints
pub record IsRow (s : PortState) : Type 0 where
  pub vars : s.vars ≡ 3
  pub source : held_at s 0 ≡ Some source_held
  pub usable : is_usable s.refused ≡ true
  pub taken : s.taken ≡ []
  pub plain : s.hinted ≡ false
  pub port : IsPort s

-- and the lemmas are attached
pub record HasLemmas (s : PortState) (w : WatchData) (t : TrailData) (lemmas : List Cref) : Type 0 where
  pub row : IsRow s
  pub vars : w.vars ≡ 3
  pub watched : Watched w (lits_at s) t
  pub are : AreLemmas s (attached w) lemmas

-- a copy of this glue was derived and attached, as the last lemma
pub record AddedLemma (old new : PortState) (w x : WatchData) (lemmas more : List Cref) (glue : ℕ) : Type 0 where
  pub copy : Cref
  pub derived : AddedClause old new source glue Derive copy
  pub attached_now : attached x ≡ attached w ++ copy ∷ []
  pub lemmas_are : more ≡ lemmas ++ copy ∷ []

-- five lemmas of these glues were reduced, and these are the glues of those that are left
pub record ReducedFive (new : PortState) (glues : List ℕ) : Type 0 where
  pub before : PortState
  pub v : WatchData
  pub w : WatchData
  pub lemmas : List Cref
  pub left : List Cref
  pub five : map (glue_at before) lemmas ≡ 9 ∷ 3 ∷ 5 ∷ 3 ∷ 4 ∷ []
  pub reduced : WasReduced before new v w [] lemmas left
  pub glues_are : glues ≡ map (glue_at new) left

-- a copy more is held if none was, and what was held still is
pub record OneMore (old new : PortState) (c : Cref) : Type 0 where
  pub row : IsRow new
  pub held : IsSome (held_at new c.address)
  pub fresh : held_at old c.address ≡ None
  pub kept : KeepsHeld old new

-- of the clause at this address one copy fewer is held, and the others are held as before
pub record OneLess (old new : PortState) (a : ℕ) : Type 0 where
  pub row : IsRow new
  pub others : (b : ℕ) → b ≢ a → held_at new b ≡ held_at old b
