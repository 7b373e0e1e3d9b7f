-- What the tracer notes of places: given ones, whose literals make one of the line false, and noted ones, which hints must derive.
use Rattle.std.specs.Prelude.{◌≡◌, ◌⊎◌, ℕ, ◌<◌, Bool, true, false, List, [], ◌∷◌, ◌++◌, length, nat_eq, Contains, IsSome}
use Rattle.std.specs.List.{slice_index_or, IsDistinct}
use Rattle.std.specs.Set.{is_member}
use Rattle.sat_words.specs.Literal.{Literal, opposite}
use Rattle.sat_words.specs.Clause.{has}
use Rattle.ring_port.specs.PortState.{PortState, held_at, lits_at, clause_at}
use Rattle.ring_trail.specs.declared.step.TrailStep.{TrailStep}
use Rattle.ring_trail.specs.TrailData.{FalseBefore, lit_at, level_at, reason_at}
use Rattle.analyze.specs.MarksData.{MarksData}
use Rattle.analyze.specs.Removable.{RestsOn}
use Rattle.analyze.specs.Tracing.{IsSupport}
use Rattle.analyze.specs.HintOrder.{IsCause, IsUsed}
use Rattle.analyze.specs.declared.tracer.Note.{Note}
use Rattle.analyze.specs.declared.tracer.Note.TheVariants.{Free, Given, Noted}
use Rattle.analyze.specs.declared.tracer.Source.{Source}
use Rattle.analyze.specs.declared.tracer.Source.TheVariants.{Told, Clause}

-- Sources

-- the literals of the source's clause
abbrev pub source_lits : PortState → Source → List Literal
source_lits s (Told l n) = l ∷ []
source_lits s (Clause c) = lits_at s c.address

-- the port knows the source
abbrev pub IsSource : PortState → Source → Type 0
IsSource s (Told l n) = Contains s.told (l, n)
IsSource s (Clause c) = IsSome (held_at s c.address)

-- the place is at level 0, or has a reason
abbrev pub IsBacked : List TrailStep → ℕ → Type 0
IsBacked steps p = (level_at steps p ≡ 0) ⊎ IsSome (reason_at steps p)

-- Notes

-- what is noted of a place
abbrev pub note_at : List Note → ℕ → Note
note_at vs p = slice_index_or vs p Free

-- the test whether it is given or noted
abbrev pub is_found_note : Note → Bool
is_found_note Free = false
is_found_note Given = true
is_found_note Noted = true

-- the test whether a place is given or noted
abbrev pub is_found_at : List Note → ℕ → Bool
is_found_at vs p = is_found_note (note_at vs p)

-- each place that is given or noted is listed once
pub record IsNoting (steps : List TrailStep) (vars : ℕ) (m : MarksData Note) : Type 0 where
  pub blank : m.blank ≡ Free
  pub size : length m.values ≡ vars
  pub in_range : (p : ℕ) → is_found_at m.values p ≡ true → p < length steps
  pub listed : (p : ℕ) → is_member nat_eq m.touched p ≡ is_found_at m.values p
  pub distinct : IsDistinct nat_eq m.touched

-- the places that make literals of the clause false are found too; the new ones have this note, and are listed behind the old ones
pub record HasNoted (steps : List TrailStep) (note : Note) (old new : MarksData Note) (c : List Literal) : Type 0 where
  pub kept : (p : ℕ) → is_found_at old.values p ≡ true → note_at new.values p ≡ note_at old.values p
  pub only : (p : ℕ) → is_found_at new.values p ≡ true → (is_found_at old.values p ≡ true) ⊎ ((note_at new.values p ≡ note) × (has c (opposite (lit_at steps p)) ≡ true))
  pub all : (p : ℕ) → p < length steps → has c (opposite (lit_at steps p)) ≡ true → is_found_at new.values p ≡ true
  pub more : List ℕ
  pub touched : new.touched ≡ old.touched ++ more

-- a noted place above level 0 is in a set of which each such place is given or rests on others of the set
pub record IsStarted (s : PortState) (steps : List TrailStep) (vars : ℕ) (m : MarksData Note) : Type 0 where
  pub noting : IsNoting steps vars m
  pub support : ℕ → Bool
  pub supports : (p : ℕ) → p < length steps → 0 < level_at steps p → support p ≡ true → (note_at m.values p ≡ Given) ⊎ RestsOn (clause_at s) steps (λ q. support q ≡ true) p
  pub noted : (p : ℕ) → note_at m.values p ≡ Noted → 0 < level_at steps p → support p ≡ true

-- the places that make literals of the place's cause false are found
abbrev pub IsClosedAt : PortState → List TrailStep → List Note → ℕ → Type 0
IsClosedAt s steps vs p = (c : List Literal) → IsCause s steps p c → (q : ℕ) → q < length steps → has c (opposite (lit_at steps q)) ≡ true → is_found_at vs q ≡ true

-- some later place is noted
pub record IsBelowNoted (vs : List Note) (p : ℕ) : Type 0 where
  pub place : ℕ
  pub before : p < place
  pub noted : note_at vs place ≡ Noted

-- noted are those that were, and earlier places that later noted ones use; the causes of each are at hand
pub record HasNotedAll (s : PortState) (steps : List TrailStep) (vars : ℕ) (old new : MarksData Note) : Type 0 where
  pub noting : IsNoting steps vars new
  pub kept : (p : ℕ) → is_found_at old.values p ≡ true → note_at new.values p ≡ note_at old.values p
  pub only : (p : ℕ) → is_found_at new.values p ≡ true → (is_found_at old.values p ≡ true) ⊎ ((note_at new.values p ≡ Noted) × IsBelowNoted old.values p)
  pub used : (p : ℕ) → note_at new.values p ≡ Noted → (note_at old.values p ≡ Noted) ⊎ IsUsed s steps (λ q. note_at new.values q ≡ Noted) p
  pub closed : (p : ℕ) → note_at new.values p ≡ Noted → IsClosedAt s steps new.values p
  pub backed : (p : ℕ) → note_at new.values p ≡ Noted → IsBacked steps p

-- each noted place makes a literal of the clause false, or one of the cause of a later noted place
abbrev pub AreUsed : PortState → List TrailStep → List Note → List Literal → Type 0
AreUsed s steps vs c = (p : ℕ) → note_at vs p ≡ Noted → (has c (opposite (lit_at steps p)) ≡ true) ⊎ IsUsed s steps (λ q. note_at vs q ≡ Noted) p

-- a set of literals to start from: it has those of the given places, those of the noted places have no value yet, and with those the
-- clause is false
pub record IsStartSet (steps : List TrailStep) (vs : List Note) (c : List Literal) (A : Literal → Bool) : Type 0 where
  pub given : (p : ℕ) → note_at vs p ≡ Given → A (lit_at steps p) ≡ true
  pub not_true : (p : ℕ) → note_at vs p ≡ Noted → A (lit_at steps p) ≡ false
  pub not_false : (p : ℕ) → note_at vs p ≡ Noted → A (opposite (lit_at steps p)) ≡ false
  pub refuted : (k : Literal) → has c k ≡ true → (A (opposite k) ≡ true) ⊎ ((p : ℕ) × (is_found_at vs p ≡ true) × (lit_at steps p ≡ opposite k))

-- what hints for the line rest on, from this clause: each literal of the clause is one of the line or false; the places that make it
-- false are before a bound, up to which none of the line is true; and those above level 0 are supported
pub record CanTrace (s : PortState) (steps : List TrailStep) (line c : List Literal) : Type 0 where
  pub bound : ℕ
  pub refuted : (k : Literal) → has c k ≡ true → (has line k ≡ true) ⊎ FalseBefore steps (length steps) k
  pub none_true : (p : ℕ) → p < bound → has line (lit_at steps p) ≡ false
  pub before : (p : ℕ) → p < length steps → has c (opposite (lit_at steps p)) ≡ true → p < bound
  pub support : ℕ → Bool
  pub supports : IsSupport (clause_at s) steps line support
  pub starts : (p : ℕ) → p < length steps → 0 < level_at steps p → has c (opposite (lit_at steps p)) ≡ true → support p ≡ true
