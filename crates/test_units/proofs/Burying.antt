-- A cell whose last count was given up waits.
use Rattle.io_edge.specs.declared.edge.Sink.{Ghosts}
use Rattle.std.proofs.Common.{◌≡◌, ◌∙◌, ℕ, ◌<◌, ◌==◌, List, [], ◌∷◌, ◌++◌, sym, ap, arith, eq-eqb, cond}
use Rattle.std.specs.Prelude.{slice_index_or}
use Rattle.std.specs.declared.option.Option.{Option}
use Rattle.rup_model.specs.Basics.{one_if}
use Rattle.share_core.specs.declared.stored.ClauseAt.{ClauseAt}
use Rattle.share_core.specs.State.{times_at}
use Rattle.share_rule.specs.declared.note.Note.{Note}
use Rattle.share_rule.specs.declared.view.RingPart.{RingPart}
use Rattle.share_rule.specs.declared.view.View.{View}
use Rattle.share_rule.specs.Views.{only, no_part, clause_in, clause_of}
use Rattle.share_rule.specs.Steps.{on_first, drop_part, after_drop}
use Rattle.share_rule.specs.Turns.{take_part, written_of}
use Rattle.share_rule.proofs.Lists.{first_at}
use Rattle.log_book.specs.declared.turn.Turn.{Turn}
use Rattle.log_book.specs.Turns.{WasTaken}

-- with a turn in which nothing is written yet comes the ring's part as it was
pub taken_core : {S : Type 0} {d : Ghosts S} (written flushed target : S → Option (List ℕ)) (faults : S → ℕ) (v w : View) (t : Turn S d) → v.parts ≡ only v ∷ [] → WasTaken written flushed target faults v w t → (written_of w t.noted.items).part ≡ (only v).core
taken_core written flushed target faults v w t one k =
    let b = k.taken.book in
    let parts : w.parts ≡ take_part b.journal t.book.log.lines.spent (only v) ∷ [] = ap (λ (x : View). x.parts) b.view ∙ ap (on_first (take_part b.journal t.book.log.lines.spent)) (k.missed.parts ∙ one) in
    let is : only w ≡ take_part b.journal t.book.log.lines.spent (only v) = ap (λ (ps : List RingPart). slice_index_or ps 0 no_part) parts in
    ap (λ (ns : List Note). (written_of w ns).part) k.taken.noted ∙ ap (λ (p : RingPart). p.core) is

-- one clause alone is found by its address
pub one_waits : (a : ℕ) (h : ClauseAt) → h.address ≡ a → (0 < times_at a (h ∷ [])) × (clause_in a (h ∷ []) ≡ h)
one_waits a h e =
    let z : one_if (h.address == a) ≡ 1 = ap one_if (eq-eqb h.address a e) in
    (omega arith, ap (λ b. cond b h (clause_in a [])) (eq-eqb h.address a e))

-- what waits after a last drop
pub dropped_waits : (v w : View) (a : ℕ) → v.parts ≡ only v ∷ [] → (only v).core.waiting ≡ [] → w ≡ after_drop a 1 v → ((only w).core.waiting ≡ clause_of a v ∷ []) × (w.parts ≡ only w ∷ [])
dropped_waits v w a one none is =
    let parts : w.parts ≡ drop_part a 1 (only v) ∷ [] = ap (λ (x : View). x.parts) is ∙ ap (on_first (drop_part a 1)) one in
    let o : only w ≡ drop_part a 1 (only v) = ap (λ (ps : List RingPart). slice_index_or ps 0 no_part) parts in
    (ap (λ (p : RingPart). p.core.waiting) o ∙ ap (λ (hs : List ClauseAt). hs ++ clause_of a v ∷ []) none, parts ∙ (λ i. sym o i ∷ []))

pub held_there : (v : View) (a : ℕ) → 0 < times_at a (only v).core.held → (clause_of a v).address ≡ a
held_there v a h = (first_at a (only v).core.held h).1
