-- What a call that learns a lemma leaves of a port and a ring, whatever it comes to.
use Rattle.std.specs.Prelude.{◌≡◌, ◌⊎◌, ℕ, ◌+◌, List, [], length, Option}
use Rattle.sat_words.specs.Literal.{Literal}
use Rattle.sat_words.specs.declared.shared.Cref.{Cref}
use Rattle.ring_port.specs.PortState.{PortState, IsPort}
use Rattle.ring_port.specs.Port.{Refused, KeepsHeld}
use Rattle.ring_port.specs.Drawing.{HasDrawn}
use Rattle.ring_port.specs.declared.draw.Drawn.TheVariants.{Ticket, Gone}
use Rattle.ring_port.specs.Log.{KeepsLog}
use Rattle.ring_port.specs.Deleting.{TidiedUpTo}
use Rattle.ring_port.specs.declared.stops.PortStop.{PortStop}
use Rattle.restart_plan.specs.Plan.{noted, asked, is_due}
use Rattle.ring_run.specs.Searching.{KeepsOn, OffersNothing, OnlyWrote}
use Rattle.ring_run.specs.Ending.{EndsAt, IsRefusal, HaltsDeleting, end_refused}
use Rattle.ring_run.specs.Course.{WasShared, HasLeft, AreSameOffers}
use Rattle.ring_run.specs.declared.job.End.TheVariants.{Spent}
use Rattle.ring_run.specs.declared.ring.Ring.{Ring}
use Rattle.ring_run.specs.declared.course.Next.{Next}
use Rattle.ring_run.specs.declared.course.Next.TheVariants.{Go, Finish}

-- a lemma was learned, counted and its glue noted for the restarts, and it was offered if it has a class; the rest of the ring is
-- as it was
pub record HasShared (s u : PortState) (old new : Ring) (lits : List Literal) (glue : ℕ) (address : Option Cref) : Type 0 where
  pub shared : WasShared s u old new lits glue address
  pub kept : KeepsHeld s shared.middle
  pub log : KeepsLog s shared.middle
  pub port : IsPort shared.middle
  pub log_after : KeepsLog shared.middle u
  pub port_after : IsPort u
  pub ring : new ≡ record old { learned = old.learned + 1; restarts = noted old.restarts glue; exported = new.exported; offered = new.offered }

-- it was asked whether a restart is due, and an import is yet to be if one is; since then nothing was learned or offered, and what
-- is held is as it was
pub record HasAsked (s u : PortState) (old new : Ring) : Type 0 where
  pub learned : new.learned ≡ old.learned
  pub restarts : new.restarts ≡ asked old.restarts
  pub import_due : new.import_due ≡ is_due old.restarts
  pub offers : AreSameOffers old new
  pub active : new.decider.active ≡ old.decider.active
  pub nothing : OffersNothing s u
  pub held : u.held ≡ s.held
  pub looks : u.looks ≡ s.looks

-- what waited was deleted, and the conflict left
pub record HasLeftTidy (s u : PortState) (old new : Ring) (lits : List Literal) (back : ℕ) (address : Option Cref) : Type 0 where
  pub keeps : KeepsOn s u
  pub wrote : OnlyWrote s u
  pub seen : u.seen ≡ s.seen
  pub waiting : u.waiting ≡ []
  pub tidied : TidiedUpTo s u (length s.waiting)
  pub left : HasLeft u (record old { import_due = new.import_due }) new lits back address

-- so it was where the search goes on; else the call that deletes was refused, or there was no memory after it
abbrev pub LeavesBy : PortState → PortState → Ring → Ring → List Literal → (back : ℕ) → Option Cref → Next → Type 0
LeavesBy s u old new lits back address Go = HasLeftTidy s u old new lits back address
LeavesBy s u old new lits back address (Finish end) = EndsAt s u end × IsRefusal end × HaltsDeleting s u end

-- what comes after a lemma
pub record HasFinished (s u : PortState) (old new : Ring) (lits : List Literal) (back : ℕ) (address : Option Cref) (course : Next) : Type 0 where
  pub asked_for : HasAsked s u old new
  pub leaves : LeavesBy s u old new lits back address course

-- the port refused the lemma, and nothing was done
pub record WasRefused (s u : PortState) (old new : Ring) (course : Next) : Type 0 where
  pub stop : PortStop
  pub refused : Refused s u stop
  pub log : KeepsLog s u
  pub port : IsPort u
  pub ring : new ≡ old
  pub over : course ≡ Finish (end_refused stop)

-- the lemma was learned, and so much came after it
pub record WasFollowed (s u : PortState) (old new : Ring) (lits : List Literal) (back glue : ℕ) (course : Next) : Type 0 where
  pub between : PortState
  pub middle : Ring
  pub address : Option Cref
  pub shared : HasShared s between old middle lits glue address
  pub finished : HasFinished between u middle new lits back address course

-- what the call that learns a lemma comes to: one of these
abbrev pub ComesOf : PortState → PortState → Ring → Ring → List Literal → (back glue : ℕ) → Next → Type 0
ComesOf s u old new lits back glue course = WasRefused s u old new course ⊎ WasFollowed s u old new lits back glue course

-- a ticket was drawn, and the lemma was to be learned
pub record HasTried (s u : PortState) (old new : Ring) (lits : List Literal) (back glue : ℕ) (course : Next) : Type 0 where
  pub drawn : PortState
  pub ticket : HasDrawn s drawn Ticket
  pub log : KeepsLog s drawn
  pub port : IsPort drawn
  pub comes : ComesOf drawn u old new lits back glue course

-- the draw found all tickets drawn, and nothing was done after it
pub record HasGone (s u : PortState) (old new : Ring) (course : Next) : Type 0 where
  pub gone : HasDrawn s u Gone
  pub log : KeepsLog s u
  pub port : IsPort u
  pub ring : new ≡ old
  pub over : course ≡ Finish Spent

-- what drawing a ticket for a lemma comes to
abbrev pub CameOfDraw : PortState → PortState → Ring → Ring → List Literal → (back glue : ℕ) → Next → Type 0
CameOfDraw s u old new lits back glue course = HasGone s u old new course ⊎ HasTried s u old new lits back glue course
