-- What a turn leaves after its notes.
use Rattle.std.proofs.Common.{◌≡◌, ℕ, ◌<◌, ◌≤◌, List, [], ◌∷◌, ◌++◌, length, refl, sym, ap, ◌∙◌, subst, arith, length-append, Some}
use lib.ListN.{get_elem?}
use Rattle.rup_model.specs.declared.journal.Entry.{Entry}
use Rattle.sat_words.specs.declared.shared.TheConstants.{MAX_ENTRIES}
use Rattle.share_core.specs.declared.part.CoreOpening.{CoreOpening}
use Rattle.share_rule.specs.declared.Layout.{Layout}
use Rattle.share_rule.specs.declared.note.Note.{Note}
use Rattle.share_rule.specs.declared.view.View.{View}
use Rattle.share_core.proofs.Leaving.{left_sound}
use Rattle.share_rule.specs.Views.{only}
use Rattle.share_rule.specs.Seen.{IsPart, Seen, turn_of}
use Rattle.share_rule.specs.Shown.{ring_of}
use Rattle.share_rule.specs.Turns.{event_of, Sheet, noted, sheet_after, IsGoing, MayNote, AllNoted, journal_in, IsFree, IsWriting, sheet_of, written_of, MayWrite, WasRefused, newer, take_part, give_part, after_take, after_miss, after_give}
use Rattle.share_rule.proofs.Sheets.{Noted, IsSheet}
use Rattle.share_rule.proofs.Noting.{all_notes}
use Rattle.share_rule.proofs.Moves.{turn_is, turn_has}

-- the journal has room for all notes
pub few_written : (l : Layout) (o : CoreOpening) (r : ℕ) (s : Sheet) (ns : List Note) → AllNoted l o r s ns → length s.journal ≤ MAX_ENTRIES → length (sheet_after o r s ns).journal ≤ MAX_ENTRIES
few_written l o r s [] h few = few
few_written l o r s (n ∷ ns) h few =
    let room = (h.0).room in
    let long = length-append s.journal (Rattle.share_rule.specs.Turns.entry_of o r s.journal s.part n ∷ []) in
    few_written l o r (noted o r s n) ns h.2 (omega arith)

-- what is taken has room
pub few_taken : (v : View) → Seen v → IsWriting v → length (sheet_of v).journal ≤ MAX_ENTRIES
few_taken v s w =
    let part : IsPart v.layout s.core s.glue (only v) = s.parts 0 (only v) (ap (λ ps. get_elem? ps 0) w.0) in
    let is : turn_of s.core (ring_of (only v)) ≡ Some w.1.0 = sym part.turn ∙ w.1.1 in
    let room = (left_sound s.core.opening s.core s.left).log.room in
    let q = ap (λ (J : List Entry). length J) (ap journal_in w.1.1 ∙ turn_is s.core (ring_of (only v)) w.1.0 is) in
    omega arith

-- a ring's number
pub ring_few : (v : View) → Seen v → v.parts ≡ only v ∷ [] → ring_of (only v) < 16
ring_few v s one =
    let part : IsPart v.layout s.core s.glue (only v) = s.parts 0 (only v) (ap (λ ps. get_elem? ps 0) one) in
    let lt = part.ring in
    let few = s.left.opens.few_rings in
    omega arith

-- Behind the notes

-- the state that the notes leave
pub written_core : (v : View) (s : Seen v) (w : IsWriting v) (ns : List Note) → MayWrite v ns → Noted v.layout (ring_of (only v)) s.core s.glue ns (written_of v ns)
written_core v s w ns may =
    let part : IsPart v.layout s.core s.glue (only v) = s.parts 0 (only v) (ap (λ ps. get_elem? ps 0) w.0) in
    let is : turn_of s.core (ring_of (only v)) ≡ Some w.1.0 = sym part.turn ∙ w.1.1 in
    let sheet : IsSheet s.core s.glue (ring_of (only v)) (sheet_of v) = record { journal = ap journal_in w.1.1 ∙ turn_is s.core (ring_of (only v)) w.1.0 is; part = part.part; held_glues = part.glues; made_glues = part.made_glues } in
    subst (λ (o : CoreOpening). Noted v.layout (ring_of (only v)) s.core s.glue ns (sheet_after o (ring_of (only v)) (sheet_of v) ns)) (sym s.opening)
    (all_notes v.layout s.small (ring_of (only v)) ns s.core s.glue (sheet_of v) s.left s.places part.ring (turn_has s.core (ring_of (only v)) w.1.0 is) sheet
    (subst (λ (o : CoreOpening). AllNoted v.layout o (ring_of (only v)) (sheet_of v) ns) s.opening may))

-- one note more
pub noted_more : (l : Layout) (o : CoreOpening) (r : ℕ) (s : Sheet) (ns : List Note) (n : Note) → AllNoted l o r s ns → IsGoing o (sheet_after o r s ns).journal → MayNote l o r (sheet_after o r s ns).journal (sheet_after o r s ns).part n
    → AllNoted l o r s (ns ++ n ∷ []) × (sheet_after o r s (ns ++ n ∷ []) ≡ noted o r (sheet_after o r s ns) n)
noted_more l o r s [] n h going may = ((going, may, tt), refl)
noted_more l o r s (m ∷ ns) n h going may = let t = noted_more l o r (noted o r s m) ns n h.2 going may in ((h.0, h.1, t.0), t.1)
