-- That the next offer takes no memory, after turns of the log and sights of units.
use Rattle.std.proofs.Common.{◌≡◌, ℕ, List, [], ◌∷◌, refl, ap, Option}
use Rattle.sat_words.specs.Literal.{Literal}
use Rattle.sat_words.specs.declared.shared.Cref.{Cref}
use Rattle.share_rule.specs.declared.note.Note.TheVariants.{Empty, Reduce}
use Rattle.share_core.specs.declared.part.Part.{Part}
use Rattle.share_rule.specs.declared.view.View.{View}
use Rattle.share_rule.specs.Turns.{give_part}
use Rattle.share_rule.specs.Views.{only}
use Rattle.log_book.specs.declared.stop.TurnStop.{TurnStop}
use Rattle.ring_pass.specs.declared.spares.Spares.{Spares}
use Rattle.ring_pass.specs.Deletions.{Deleted, DeletedSome}
use Rattle.ring_pass.specs.RingState.{CanOffer}
use Rattle.ring_pass.specs.Sights.{SawOne}
use Rattle.ring_pass.specs.Writes.{sheet_with, Wrote, WroteNone}
use Rattle.ring_pass.proofs.CanOffers.{offer_turns}
use Rattle.ring_pass.proofs.EndsHere.{ended_part}
use Rattle.ring_pass.proofs.SeenHere.{saw_part, saw_parts}
use Rattle.ring_pass.proofs.TurnsHere.{reduced_part}

pub offer_refused : (v u : View) (e : TurnStop) (last : Option Cref) (s : Spares) → WroteNone v u e → CanOffer (only v) v.opening last s → CanOffer (only u) u.opening last s
offer_refused v u e last s h r = offer_turns v u (give_part v.opening (sheet_with h.journal (only v)) h.refused h.failed (only v)) last s h.gave.opening h.gave.parts refl refl refl refl r

pub offer_reduced : (v u : View) (last : Option Cref) (s : Spares) → Wrote v u Reduce → CanOffer (only v) v.opening last s → CanOffer (only u) u.opening last s
offer_reduced v u last s h r = offer_turns v u (reduced_part v h.journal h.refused h.failed) last s h.gave.opening h.gave.parts refl refl refl refl r

pub offer_sees : (v w : View) (x : Literal) (seen seen' arrived more : List Literal) (last : Option Cref) (s : Spares) → v.parts ≡ only v ∷ [] → SawOne v w seen seen' arrived more x → CanOffer (only v) v.opening last s → CanOffer (only w) w.opening last s
offer_sees v w x seen seen' arrived more last s one h r = offer_turns v w (saw_part x h.number h.listed (only v)) last s (ap (λ (u : View). u.opening) h.view) (saw_parts v w x h.number h.listed one h.view) refl refl refl refl r

pub offer_ended : {hints : List ℕ} (v u : View) (last : Option Cref) (s : Spares) → Wrote v u (Empty hints) → CanOffer (only v) v.opening last s → CanOffer (only u) u.opening last s
offer_ended {hints} v u last s h r = offer_turns v u (ended_part v h.journal hints h.refused h.failed) last s h.gave.opening h.gave.parts refl refl refl refl r

pub offer_deleted : (v w : View) (k : ℕ) (last : Option Cref) (s : Spares) → Deleted v w k → CanOffer (only v) v.opening last s → CanOffer (only w) w.opening last s
offer_deleted v w k last s d r = offer_turns v w d.part last s d.opening d.parts (ap (λ (c : Part). c.held) d.core) d.gave (ap (λ (c : Part). c.ring) d.core) (ap (λ (c : Part). c.puts) d.core) r

pub offer_some : (v u : View) (many k : ℕ) (e : TurnStop) (last : Option Cref) (s : Spares) → DeletedSome v u many k e → CanOffer (only v) v.opening last s → CanOffer (only u) u.opening last s
offer_some v u many k e last s d r = offer_refused d.middle u e last s d.refused (offer_deleted v d.middle k last s d.first r)
