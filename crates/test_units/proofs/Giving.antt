-- What a ring's part is behind a turn that it took and gave back.
use Rattle.io_edge.specs.declared.edge.Sink.{Ghosts}
use Rattle.std.proofs.Common.{◌≡◌, ◌∙◌, ℕ, ◌<◌, ◌*◌, Bool, List, [], ◌∷◌, ◌++◌, length, inr, sym, ap}
use Rattle.std.specs.Prelude.{slice_index_or, Option}
use Rattle.rup_model.specs.declared.journal.Entry.TheVariants.{Del}
use Rattle.share_core.specs.declared.part.Part.{Part}
use Rattle.share_core.specs.declared.stored.ClauseAt.{ClauseAt}
use Rattle.share_core.specs.Events.{buried_part, dropped_part}
use Rattle.share_core.specs.State.{times_at}
use Rattle.share_rule.specs.declared.note.Note.{Note}
use Rattle.share_rule.specs.declared.note.Note.TheVariants.{Bury}
use Rattle.share_rule.specs.declared.view.Refusal.{Refusal}
use Rattle.share_rule.specs.declared.view.RingPart.{RingPart}
use Rattle.share_rule.specs.declared.view.View.{View}
use Rattle.share_rule.specs.Views.{only, no_part, clause_in, clause_of}
use Rattle.share_rule.specs.Steps.{on_first, drop_part, after_drop}
use Rattle.share_rule.specs.Turns.{give_part, after_give, journal_in, noted_core, written_of}
use Rattle.log_book.specs.declared.turn.Turn.{Turn}
use Rattle.log_book.specs.Turns.{WasTaken}
use Rattle.test_units.specs.Doings.{GaveTurn, WroteNone, Buried, NotBuried}
use Rattle.test_units.proofs.Burying.{taken_core, one_waits, held_there}

-- the first part, changed, is the only one
pub one_changed : (f : RingPart → RingPart) (w x : View) → w.parts ≡ only w ∷ [] → x.parts ≡ on_first f w.parts → only x ≡ f (only w)
one_changed f w x one is = ap (λ (ps : List RingPart). slice_index_or ps 0 no_part) (is ∙ ap (on_first f) one)

-- the part is what was written
pub gave_part : (w x : View) (ns : List Note) (y : Option Refusal) (b : Bool) → w.parts ≡ only w ∷ [] → x ≡ after_give ns y b w → only x ≡ give_part w.opening (written_of w ns) y b (only w)
gave_part w x ns y b one is = one_changed (give_part w.opening (written_of w ns) y b) w x one (ap (λ (v : View). v.parts) is)

pub gave_turn : (w x : View) (ns : List Note) (y : Option Refusal) (b : Bool) → x ≡ after_give ns y b w → GaveTurn x
gave_turn w x ns y b is = (256 * length (written_of w ns).journal, ap (λ (v : View). v.last) is)

-- a count is given up
dropped_only : (o v z : View) (a n : ℕ) → only v ≡ only o → v.parts ≡ only v ∷ [] → z ≡ after_drop a n v → ((only z).core ≡ dropped_part (clause_of a o) n (only o).core) × (z.parts ≡ only z ∷ [])
dropped_only o v z a n same one dropped =
    let is : only z ≡ drop_part a n (only v) = one_changed (drop_part a n) v z one (ap (λ (y : View). y.parts) dropped) in (
      ap (λ (p : RingPart). p.core) is ∙ ap (λ (p : RingPart). dropped_part (clause_in a p.core.held) n p.core) same,
      ap (λ (y : View). y.parts) dropped ∙ ap (on_first (drop_part a n)) one ∙ (λ i. sym is i ∷ []),
    )

module _ {S : Type 0} {d : Ghosts S} (written flushed target : S → Option (List ℕ)) (faults : S → ℕ) where
  -- a turn in which nothing was written
  pub wrote_none : (v w x : View) (t u : Turn S d) (b : Bool) → v.parts ≡ only v ∷ [] → WasTaken written flushed target faults v w t → u.noted.items ≡ t.noted.items → w.parts ≡ only w ∷ [] → x ≡ after_give u.noted.items u.refused b w → WroteNone v x
  wrote_none v w x t u b one k same ones is = (
    ap (λ (p : RingPart). p.core) (gave_part w x u.noted.items u.refused b ones is) ∙ ap (λ (ns : List Note). (written_of w ns).part) same ∙ taken_core written flushed target faults v w t one k,
    gave_turn w x u.noted.items u.refused b is,
  )

  -- and one with one note
  pub wrote_one : (v w x : View) (t u : Turn S d) (b : Bool) (n : Note) → v.parts ≡ only v ∷ [] → WasTaken written flushed target faults v w t → u.noted.items ≡ t.noted.items ++ n ∷ [] → w.parts ≡ only w ∷ [] → x ≡ after_give u.noted.items u.refused b w
      → (only x).core ≡ noted_core w.opening (only v).core.ring (journal_in (only w).turn) n (only v).core
  wrote_one v w x t u b n one k more ones is =
      let none = k.taken.noted in
      let core : (only w).core ≡ (only v).core = ap (λ (ns : List Note). (written_of w ns).part) (sym none) ∙ taken_core written flushed target faults v w t one k in
      ap (λ (p : RingPart). p.core) (gave_part w x u.noted.items u.refused b ones is) ∙ ap (λ (ns : List Note). (written_of w ns).part) (more ∙ ap (λ (ns : List Note). ns ++ n ∷ []) none)
      ∙ ap (λ (p : Part). noted_core w.opening p.ring (journal_in (only w).turn) n p) core

  -- a clause whose last count was given up is deleted
  pub buried : (o v z w x : View) (t u : Turn S d) (b : Bool) (a : ℕ) → only v ≡ only o → v.parts ≡ only v ∷ [] → (only o).core.waiting ≡ [] → 0 < times_at a (only o).core.held → z ≡ after_drop a 1 v
      → WasTaken written flushed target faults z w t → u.noted.items ≡ t.noted.items ++ Bury a ∷ [] → w.parts ≡ only w ∷ [] → x ≡ after_give u.noted.items u.refused b w → Buried a o x
  buried o v z w x t u b a same one none held dropped k more ones is =
      let h : ClauseAt = clause_of a o in
      let only_is = dropped_only o v z a 1 same one dropped in
      let J = journal_in (only w).turn in
      let number : (clause_in a ((only o).core.waiting ++ h ∷ [])).number ≡ h.number = ap (λ (hs : List ClauseAt). (clause_in a (hs ++ h ∷ [])).number) none ∙ ap (λ (g : ClauseAt). g.number) (one_waits a h (held_there o a held)).1 in
      record {
        place = length J;
        core_is = wrote_one z w x t u b (Bury a) only_is.1 k more ones is ∙ ap (λ (p : Part). noted_core w.opening p.ring J (Bury a) p) only_is.0 ∙ ap (λ (n : ℕ). buried_part a (length J) (Del (only o).core.ring n) (dropped_part h 1 (only o).core)) number;
        gave = gave_turn w x u.noted.items u.refused b is;
      }

  -- or nothing is written
  pub not_buried : (o v z w x : View) (t u : Turn S d) (b : Bool) (a n : ℕ) → only v ≡ only o → v.parts ≡ only v ∷ [] → z ≡ after_drop a n v
      → WasTaken written flushed target faults z w t → u.noted.items ≡ t.noted.items → w.parts ≡ only w ∷ [] → x ≡ after_give u.noted.items u.refused b w → NotBuried a o x
  not_buried o v z w x t u b a n same one dropped k more ones is =
      let only_is = dropped_only o v z a n same one dropped in
      let none = wrote_none z w x t u b only_is.1 k more ones is in
      inr (n, none.0 ∙ only_is.0, λ _. none.1)
