-- What the adding of a clause leaves of a ring with its pass.
use Rattle.std.specs.Prelude.{◌≡◌, ◌≢◌, ℕ, true, false, List, [], ◌∷◌, ◌++◌, All, None}
use Rattle.sat_words.specs.Literal.{Literal}
use Rattle.rup_model.specs.declared.journal.Kind.{Kind}
use Rattle.rup_model.specs.declared.journal.Entry.TheVariants.{Add}
use Rattle.share_core.specs.declared.part.Placed.{Placed}
use Rattle.share_core.specs.declared.stored.ClauseAt.{ClauseAt}
use Rattle.share_core.specs.Learning.{ticket_after}
use Rattle.share_core.specs.State.{times_at}
use Rattle.share_rule.specs.declared.view.RingPart.{RingPart}
use Rattle.share_rule.specs.declared.view.View.{View}
use Rattle.share_rule.specs.Views.{only}

-- a clause at an address
abbrev pub clause_with : (address number : ℕ) → List Literal → ClauseAt
clause_with address number lits = record { address = address; number = number; lits = lits }

-- the ring's entry that adds it, at its place in the journal
abbrev pub placed_line : (place ring number : ℕ) → List Literal → Kind → List ℕ → Placed
placed_line place ring number lits kind hints = record { place = place; entry = Add (record { ring = ring; number = number; lits = lits; kind = kind; hints = hints }) }

-- the ring holds a clause that it added, at an address at which nothing stood that it knows, under a number of its own; it builds
-- no other cell than before; if it was learned the ticket is used up; no write has failed
pub record Added (v w : View) (kind : Kind) (lits : List Literal) (hints : List ℕ) (glue a : ℕ) : Type 0 where
  pub number : ℕ
  pub place : ℕ
  pub part : RingPart
  pub parts : w.parts ≡ part ∷ []
  pub layout : w.layout ≡ v.layout
  pub opening : w.opening ≡ v.opening
  pub stop : w.stop ≡ v.stop
  pub looks : w.looks ≡ v.looks
  pub core : part.core ≡ record (only v).core {
    held = (only v).core.held ++ clause_with a number lits ∷ [];
    making = part.core.making;
    wrote = (only v).core.wrote ++ placed_line place (only v).core.ring number lits kind hints ∷ [];
    ticket = ticket_after kind (only v).core.ticket;
  }
  pub glues : part.glues ≡ record { number = number; glue = glue } ∷ (only v).glues
  pub gave : part.gave ≡ (only v).gave
  pub polls : part.polls ≡ (only v).polls
  pub caught_up : part.caught_up ≡ (only v).caught_up
  pub turn : part.turn ≡ None
  pub refused : part.refused ≡ (only v).refused
  pub going : (only v).ended ≡ false
  pub ended_is : (only v).ended ≡ true → part.ended ≡ true
  pub failed_is : (only v).failed ≡ true → part.failed ≡ true
  pub whole : part.failed ≡ false
  pub built : (only v).core.making ≡ [] → part.core.making ≡ []
  pub not_held : times_at a (only v).core.held ≡ 0
  pub not_waiting : times_at a (only v).core.waiting ≡ 0
  pub held_apart : All (λ k. k.number ≢ number) (only v).core.held
  pub waiting_apart : All (λ k. k.number ≢ number) (only v).core.waiting
