-- What a ring writes while it has the turn: one entry after the other, as changes of its own part and of the journal that
-- it found.
use Rattle.std.specs.Prelude.{◌≡◌, ℕ, ◌<◌, ◌≤◌, ◌||◌, Bool, false, true, ⊤, List, [], ◌∷◌, ◌++◌, length, fold, ◌*◌, Option, Some, None, IfSome}
use Rattle.rup_model.specs.declared.journal.TheConstants.{LEARNED_PER_REDUCTION}
use Rattle.rup_model.specs.declared.journal.Kind.TheVariants.{Derive}
use Rattle.rup_model.specs.declared.journal.Entry.{Entry}
use Rattle.rup_model.specs.declared.journal.Entry.TheVariants.{Add, Del, Reduce as ReduceEntry}
use Rattle.rup_model.specs.Journal.{book, ended, recent}
use Rattle.rup_model.specs.Opening.{IsLong}
use Rattle.clause_cell.specs.Packing.{words_for}
use Rattle.clause_cell.specs.Free.{first_fit}
use Rattle.sat_words.specs.declared.shared.TheConstants.{MAX_ENTRIES}
use Rattle.share_core.specs.declared.event.Event.{Event}
use Rattle.share_core.specs.declared.event.Event.TheVariants as event
use Rattle.share_core.specs.State.{later, times_at}
use Rattle.share_core.specs.declared.part.CoreOpening.{CoreOpening}
use Rattle.share_core.specs.declared.part.Part.{Part}
use Rattle.share_core.specs.Events.{wrote_part, made_part, buried_part}
use Rattle.share_core.specs.Learning.{follows, MayAddClause, MayAddUnit, after_learn}
use Rattle.share_rule.specs.declared.Layout.{Layout}
use Rattle.share_rule.specs.declared.note.Note.{Note}
use Rattle.share_rule.specs.declared.note.Note.TheVariants.{Clause, Unit as UnitNote, Empty, Reduce, Bury}
use Rattle.share_rule.specs.declared.view.GlueAt.{GlueAt}
use Rattle.share_rule.specs.declared.view.RingPart.{RingPart}
use Rattle.share_rule.specs.declared.view.Op.TheVariants.{Store, CompareExchange}
use Rattle.share_rule.specs.declared.view.Taken.{Taken}
use Rattle.share_rule.specs.declared.view.Refusal.{Refusal}
use Rattle.share_rule.specs.declared.view.View.{View}
use Rattle.share_rule.specs.Layout.{InVars}
use Rattle.share_rule.specs.Views.{clause_in, only}
use Rattle.share_rule.specs.Steps.{stepped, changed}
use Rattle.share_rule.specs.Seen.{IsRefused}
use Rattle.share_rule.specs.Room.{room}

-- the event that a note is
abbrev pub event_of : ℕ → Note → Event
event_of r (Clause kind lits hints glue a) = event.AddClause r kind lits hints a
event_of r (UnitNote kind lit hints) = event.AddUnit r kind lit hints
event_of r (Empty hints) = event.AddEmpty r hints
event_of r Reduce = event.Reduce r
event_of r (Bury a) = event.Bury r a

-- the number of the next addition
abbrev pub next_number : CoreOpening → List Entry → ℕ
next_number o J = (book o.formula J).next

-- the entry
abbrev pub entry_of : CoreOpening → ℕ → List Entry → Part → Note → Entry
entry_of o r J p (Clause kind lits hints glue a) = Add (record { ring = r; number = next_number o J; lits = lits; kind = kind; hints = hints })
entry_of o r J p (UnitNote kind lit hints) = Add (record { ring = r; number = next_number o J; lits = lit ∷ []; kind = kind; hints = hints })
entry_of o r J p (Empty hints) = Add (record { ring = r; number = next_number o J; lits = []; kind = Derive; hints = hints })
entry_of o r J p Reduce = ReduceEntry r
entry_of o r J p (Bury a) = Del r (clause_in a p.waiting).number

-- the ring's part of the core after it
abbrev pub noted_core : CoreOpening → ℕ → List Entry → Note → Part → Part
noted_core o r J (Clause kind lits hints glue a) p = made_part (record { address = a; number = next_number o J; lits = lits }) (length J) (entry_of o r J p (Clause kind lits hints glue a)) (after_learn kind p)
noted_core o r J (UnitNote kind lit hints) p = wrote_part (length J) (entry_of o r J p (UnitNote kind lit hints)) (after_learn kind p)
noted_core o r J (Empty hints) p = wrote_part (length J) (entry_of o r J p (Empty hints)) (after_learn Derive p)
noted_core o r J Reduce p = wrote_part (length J) (entry_of o r J p Reduce) p
noted_core o r J (Bury a) p = buried_part a (length J) (entry_of o r J p (Bury a)) p

-- a clause brings its glue
abbrev pub noted_glues : ℕ → Note → List GlueAt → List GlueAt
noted_glues n (Clause kind lits hints glue a) gs = record { number = n; glue = glue } ∷ gs
noted_glues n (UnitNote kind lit hints) gs = gs
noted_glues n (Empty hints) gs = gs
noted_glues n Reduce gs = gs
noted_glues n (Bury a) gs = gs

-- a journal, and a ring's part beside it
pub record Sheet : Type 0 where
  pub journal : List Entry
  pub part : Part
  pub glues : List GlueAt

-- after one note
abbrev pub noted : CoreOpening → ℕ → Sheet → Note → Sheet
noted o r s n = record {
  journal = s.journal ++ entry_of o r s.journal s.part n ∷ [];
  part = noted_core o r s.journal n s.part;
  glues = noted_glues (next_number o s.journal) n s.glues;
}

-- after all notes
abbrev pub sheet_after : CoreOpening → ℕ → Sheet → List Note → Sheet
sheet_after o r s ns = fold (noted o r) s ns

-- What a note asks of the journal and of the ring's part before it

-- there is room for one more entry of a log that is not ended
pub record IsGoing (o : CoreOpening) (J : List Entry) : Type 0 where
  pub going : ended o.formula J ≡ false
  pub room : length J < MAX_ENTRIES

-- the note may be written, by a ring with this part after this journal
abbrev pub MayNote : Layout → CoreOpening → ℕ → List Entry → Part → Note → Type 0
-- two literals or more on the layout's variables, which follow from what the ring knows, at the first place that is long
-- enough
MayNote l o r J p (Clause kind lits hints glue a) =
    MayAddClause o J p r kind lits × IsLong lits × (follows o.hinted p lits hints ≡ true) × InVars l lits × (first_fit (words_for (length lits)) (room l o J).holes ≡ Some a)
MayNote l o r J p (UnitNote kind lit hints) = MayAddUnit o J p r kind (lit ∷ []) × (follows o.hinted p (lit ∷ []) hints ≡ true) × InVars l (lit ∷ [])
MayNote l o r J p (Empty hints) = follows o.hinted p [] hints ≡ true
MayNote l o r J p Reduce = LEARNED_PER_REDUCTION ≤ length (recent r (later o J))
-- the cell waits at the ring
MayNote l o r J p (Bury a) = 0 < times_at a p.waiting

-- each note may be written after those before it
abbrev pub AllNoted : Layout → CoreOpening → ℕ → Sheet → List Note → Type 0
AllNoted l o r s [] = ⊤
AllNoted l o r s (n ∷ ns) = IsGoing o s.journal × MayNote l o r s.journal s.part n × AllNoted l o r (noted o r s n) ns

-- Views

-- the journal that was taken
abbrev pub journal_in : Option Taken → List Entry
journal_in None = []
journal_in (Some t) = t.journal

-- the pass has one ring, which has not the turn
abbrev pub IsFree : View → Type 0
IsFree v = (v.parts ≡ only v ∷ []) × ((only v).turn ≡ None)

-- the pass has one ring, which has the turn
abbrev pub IsWriting : View → Type 0
IsWriting v = (v.parts ≡ only v ∷ []) × ((t : Taken) × ((only v).turn ≡ Some t))

-- what its ring took with the turn
abbrev pub sheet_of : View → Sheet
sheet_of v = record { journal = journal_in (only v).turn; part = (only v).core; glues = (only v).glues }

-- and what it leaves after these notes
abbrev pub written_of : View → List Note → Sheet
written_of v ns = sheet_after v.opening (only v).core.ring (sheet_of v) ns

-- which it may write
abbrev pub MayWrite : View → List Note → Type 0
MayWrite v ns = AllNoted v.layout v.opening (only v).core.ring (sheet_of v) ns

-- it was refused for cause, and knows whether a write has failed
abbrev pub WasRefused : View → List Note → Option Refusal → Bool → Type 0
WasRefused v ns x failed = IfSome x (λ y. IsRefused v.layout v.opening (written_of v ns).journal failed y) × ((only v).failed ≡ true → failed ≡ true)

-- the newer of two, if there is one
abbrev pub newer : Option Refusal → Option Refusal → Option Refusal
newer None y = y
newer (Some x) y = Some x

-- Steps

-- the ring has the turn, and what the book held with it; it is known whether a write has failed
abbrev pub take_part : List Entry → Bool → RingPart → RingPart
take_part J failed p = record p { turn = Some (record { journal = J }); whole = false; failed = failed }

-- what it wrote stands in its part; it knows whether the log is ended
abbrev pub give_part : CoreOpening → Sheet → Option Refusal → Bool → RingPart → RingPart
give_part o s x failed p = record p {
  core = s.part;
  glues = s.glues;
  turn = None;
  whole = false;
  unit = None;
  number = None;
  refused = newer x p.refused;
  failed = failed;
  ended = p.ended || ended o.formula s.journal;
}

-- the turn was free, and is the ring's
abbrev pub after_take : ℕ → ℕ → List Entry → Bool → View → View
after_take free new J failed v = stepped 0 (CompareExchange free new) free (changed (take_part J failed) v)

-- it was not, or the log has grown
abbrev pub after_miss : ℕ → ℕ → ℕ → View → View
after_miss free new found v = stepped 0 (CompareExchange free new) found v

-- the turn is free again
abbrev pub after_give : List Note → Option Refusal → Bool → View → View
after_give ns x failed v = let n = 256 * length (written_of v ns).journal in stepped 0 (Store n) n (changed (give_part v.opening (written_of v ns) x failed) v)
