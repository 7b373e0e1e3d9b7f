-- What waits is a cell of the clause, whose words are taken.
use Rattle.io_edge.specs.declared.edge.Sink.{Ghosts}
use Rattle.std.proofs.Common.{◌≡◌, ◌≢◌, inl, ℕ, ◌^◌, ◌<◌, ◌≤◌, ◌||◌, true, false, List, [], ◌∷◌, All, length, refl, sym, ap, ◌∙◌, subst, arith, Some}
use Rattle.sat_words.specs.Literal.{Literal, IsOn}
use Rattle.sat_words.specs.Clause.{is_empty, distinct_lits}
use Rattle.rup_model.specs.declared.journal.Entry.{Entry}
use Rattle.rup_model.specs.Journal.{spelled_by, book}
use Rattle.rup_model.proofs.Respelling.{ring_spells}
use Rattle.clause_cell.specs.Packing.{words_for}
use Rattle.clause_cell.specs.Free.{range, is_clear}
use Rattle.share_core.specs.declared.part.CoreOpening.{CoreOpening}
use Rattle.share_core.specs.declared.part.Part.{Part}
use Rattle.share_core.specs.declared.stored.Cell.{Cell}
use Rattle.share_core.specs.declared.stored.ClauseAt.{ClauseAt}
use Rattle.share_core.specs.State.{State, times_at, clause_at, number_at, lits_at}
use Rattle.share_core.specs.Sound.{Sound}
use Rattle.share_core.proofs.Leaving.{left_sound}
use Rattle.share_rule.specs.declared.view.View.{View}
use Rattle.share_rule.specs.Views.{only, clause_in}
use Rattle.share_rule.specs.Seen.{Seen, IsPart}
use Rattle.share_rule.specs.declared.Layout.{Layout}
use Rattle.share_rule.specs.Layout.{InVars}
use Rattle.share_rule.specs.Room.{room}
use Rattle.share_rule.proofs.Literals.{few_distinct}
use Rattle.share_rule.proofs.Rooms.{RoomSound, room_sound, clear_of}
use Rattle.share_rule.proofs.Sheets.{waiting_clause, Noted}
use Rattle.log_book.specs.declared.turn.Turn.{Turn}
use Rattle.log_book.specs.declared.stop.TurnStop.{TurnStop}
use Rattle.log_book.specs.declared.stop.TurnStop.TheVariants.{Ended, Broken, NoHole, Memory, ProofFault}
use Rattle.log_book.specs.Turns.{sheet, waiting, IsTurn, IsCause, IsAddCause}
use Rattle.log_book.proofs.Standings.{state_behind}
use lib.ListN.{get_elem?}

-- literals on the layout's variables are on this many variables
pub all_on : (l : Layout) (lits : List Literal) → InVars l lits → All (IsOn l.vars) lits
all_on l lits h i k lt = let v = h i k lt in record { low = v.0; high = v.1 }

-- those that differ are few
pub few_lits : (l : Layout) (lits : List Literal) → l.vars ≤ 2 ^ 30 → distinct_lits lits ≡ true → InVars l lits → length lits < 2 ^ 32
few_lits l lits small distinct h = let n = few_distinct l.vars lits distinct h in omega arith

pub record Waits {S : Type 0} {d : Ghosts S} (v : View) (t : Turn S d) (a : ℕ) : Type 0 where
  pub clause : (book v.opening.formula (sheet v t).journal).clause (waiting v t a).number ≡ Some (waiting v t a).lits
  pub words : (room v.layout v.opening (sheet v t).journal).words (waiting v t a).number ≡ Some (range a (words_for (length (waiting v t a).lits)))
  pub room_is : RoomSound v.layout (room v.layout v.opening (sheet v t).journal)
  pub on : All (IsOn v.layout.vars) (waiting v t a).lits
  pub few : length (waiting v t a).lits < 2 ^ 32
  pub spelled : spelled_by (only v).core.ring (waiting v t a).lits ≡ (waiting v t a).lits

pub waits_so : {S : Type 0} {d : Ghosts S} (written flushed target : S → Rattle.std.specs.declared.option.Option.Option (List ℕ)) (faults : S → ℕ) (v : View) (t : Turn S d) (a : ℕ) (s : Seen v) → IsTurn written flushed target faults v t → 0 < times_at a (sheet v t).part.waiting → Waits v t a
waits_so written flushed target faults v t a s h has =
    let r : ℕ = (only v).core.ring in
    let part : IsPart v.layout s.core s.glue (only v) = s.parts 0 (only v) (ap (λ ps. get_elem? ps 0) h.writing.0) in
    let n : Noted v.layout r s.core s.glue t.noted.items (sheet v t) = state_behind written flushed target faults v t s h in
    let c : State = n.core in
    let sound : Sound c = left_sound c.opening c n.left in
    let o : c.opening ≡ v.opening = n.beside.opening ∙ sym s.opening in
    let J : c.journal ≡ (sheet v t).journal = sym n.sheet.journal in
    let lt : r < c.opening.rings = subst (λ (q : CoreOpening). r < q.rings) (sym n.beside.opening) part.ring in
    let at = waiting_clause c sound r a lt (subst (λ (p : Part). 0 < times_at a p.waiting) n.sheet.part has) in
    let x : Cell = at.1.0 in
    let k : waiting v t a ≡ clause_at c a = ap (λ (p : Part). clause_in a p.waiting) n.sheet.part ∙ at.0 in
    let number : x.number ≡ (waiting v t a).number = sym (ap (λ (y : ClauseAt). y.number) k ∙ ap number_at at.1.1) in
    let lits : x.lits ≡ (waiting v t a).lits = sym (ap (λ (y : ClauseAt). y.lits) k ∙ ap lits_at at.1.1) in
    let vars : InVars v.layout (waiting v t a).lits = subst (InVars v.layout) lits (n.places.vars a x at.1.1) in
    record {
      clause = subst (λ (y : (CoreOpening × List Entry) × (ℕ × List Literal)). (book y.0.0.formula y.0.1).clause y.1.0 ≡ Some y.1.1) (λ i. ((o i, J i), (number i, lits i))) (sound.cells.alive a x at.1.1);
      words = subst (λ (y : (CoreOpening × List Entry) × (ℕ × List Literal)). (room v.layout y.0.0 y.0.1).words y.1.0 ≡ Some (range a (words_for (length y.1.1)))) (λ i. ((o i, J i), (number i, lits i))) (n.places.words a x at.1.1);
      room_is = room_sound v.layout s.small v.opening (sheet v t).journal;
      on = all_on v.layout (waiting v t a).lits vars;
      few = few_lits v.layout (waiting v t a).lits s.places.small (subst (λ (ks : List Literal). distinct_lits ks ≡ true) lits (sound.cells.shape a x at.1.1).distinct) vars;
      spelled = ring_spells r (waiting v t a).lits (let few = sound.opens.few_rings in omega arith);
    }

-- and none of them is free
pub waits_clear : {S : Type 0} {d : Ghosts S} (v : View) (t : Turn S d) (a : ℕ) → Waits v t a → is_clear a (words_for (length (waiting v t a).lits)) (room v.layout v.opening (sheet v t).journal).holes ≡ true
waits_clear v t a w = clear_of a (words_for (length (waiting v t a).lits)) 0 (room v.layout v.opening (sheet v t).journal).holes w.room_is.apart (omega arith)
    (λ q k. w.room_is.busy (waiting v t a).number q (range a (words_for (length (waiting v t a).lits))) w.words k)

-- a bar to any entry is one to a clause
pub add_cause : {S : Type 0} {d : Ghosts S} (faults : S → ℕ) (v : View) (old new : Turn S d) (size : ℕ) (e : TurnStop) → IsCause faults v old new e → e ≢ Memory → e ≢ ProofFault → IsAddCause faults v old new size e
add_cause faults v old new size Ended c m f = c
add_cause faults v old new size Broken c m f = c
add_cause faults v old new size (NoHole need most) c m f = inl c
add_cause faults v old new size Memory c m f = absurd (m refl)
add_cause faults v old new size ProofFault c m f = absurd (f refl)

pub not_empty : (lits : List Literal) → 2 ≤ length lits → (is_empty lits ≡ false) × ((is_empty lits || false) ≡ false)
not_empty [] le = absurd (omega arith)
not_empty (l ∷ lits) le = (refl, refl)
