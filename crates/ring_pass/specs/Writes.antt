-- What a turn of the log with one entry, or none, leaves of a ring with its pass.
use Rattle.std.specs.Prelude.{◌≡◌, ◌<◌, Bool, true, false, List, [], ◌∷◌, map, Option, None}
use Rattle.rup_model.specs.declared.journal.Entry.{Entry}
use Rattle.rup_model.specs.Journal.{ended, recent}
use Rattle.share_core.specs.declared.part.CoreOpening.{CoreOpening}
use Rattle.share_core.specs.declared.part.Placed.{Placed}
use Rattle.share_core.specs.State.{later}
use Rattle.share_rule.specs.declared.note.Note.{Note}
use Rattle.share_rule.specs.declared.view.Refusal.{Refusal}
use Rattle.share_rule.specs.declared.view.RingPart.{RingPart}
use Rattle.share_rule.specs.declared.view.View.{View}
use Rattle.share_rule.specs.Turns.{Sheet, sheet_after, give_part}
use Rattle.share_rule.specs.Views.{only}
use Rattle.log_book.specs.declared.stop.TurnStop.{TurnStop}
use Rattle.log_book.specs.declared.stop.TurnStop.TheVariants.{Ended, Broken, NoHole, Memory, ProofFault}
use Rattle.log_book.specs.Turns.{noted_as}

-- the ring's own entries
abbrev pub entries_of : RingPart → List Entry
entries_of p = map (λ (e : Placed). e.entry) p.core.wrote

-- the opening as if the ring's own entries came right after it
abbrev pub own_opening : View → CoreOpening
own_opening v = record v.opening { journal = [] }

-- the journal that the ring found, and its part
abbrev pub sheet_with : List Entry → RingPart → Sheet
sheet_with J p = record { journal = J; part = p.core; glues = p.glues }

-- the log is ended if the ring knows it to be; what the ring learned lately is in its own entries
pub record KnowsJournal (v : View) (J : List Entry) : Type 0 where
  pub ended_is : (only v).ended ≡ true → ended v.opening.formula J ≡ true
  pub recent_is : recent (only v).core.ring (later v.opening J) ≡ recent (only v).core.ring (entries_of (only v))

-- the ring found this journal and wrote these notes; it waits for nobody any more; it knows whether a write of the log has
-- failed, and that stays so
pub record GaveTurn (v w : View) (J : List Entry) (ns : List Note) (x : Option Refusal) (failed : Bool) : Type 0 where
  pub parts : w.parts ≡ give_part v.opening (sheet_after v.opening (only v).core.ring (sheet_with J (only v)) ns) x failed (only v) ∷ []
  pub layout : w.layout ≡ v.layout
  pub opening : w.opening ≡ v.opening
  pub stop : w.stop ≡ v.stop
  pub looks : w.looks ≡ v.looks
  pub still : (only v).failed ≡ true → failed ≡ true

-- it wrote this one note, was refused nothing, and no write of the log has failed
pub record Wrote (v w : View) (n : Note) : Type 0 where
  pub journal : List Entry
  pub refused : Option Refusal
  pub failed : Bool
  pub knows : KnowsJournal v journal
  pub gave : GaveTurn v w journal (n ∷ []) refused failed
  pub going : ended v.opening.formula journal ≡ false
  pub whole : failed ≡ false
  pub quiet : refused ≡ None

-- whether the log was ended when a turn wrote none, for this reason
abbrev pub IsWhy : CoreOpening → List Entry → TurnStop → Type 0
IsWhy o J Ended = ended o.formula J ≡ true
IsWhy o J Broken = ended o.formula J ≡ false
IsWhy o J (NoHole need most) = (ended o.formula J ≡ false) × (most < need)
IsWhy o J Memory = ended o.formula J ≡ false
IsWhy o J ProofFault = ended o.formula J ≡ false

-- whether a write of the log had failed when the turn was taken, and whether one has when it is given back: one had if the log is
-- broken; none had, and one has, if the ring's own write fails; none has if room or memory is wanted
abbrev pub TellsFault : TurnStop → (was failed : Bool) → Type 0
TellsFault Ended was failed = failed ≡ was
TellsFault Broken was failed = (was ≡ true) × (failed ≡ true)
TellsFault (NoHole need most) was failed = (was ≡ false) × (failed ≡ false)
TellsFault Memory was failed = (was ≡ false) × (failed ≡ false)
TellsFault ProofFault was failed = (was ≡ false) × (failed ≡ true)

-- the turn wrote nothing, and notes this refusal in the ring's part; a failed write that the ring knew of had failed before the
-- turn, and a lone ring knew of each that had
pub record WroteNone (v w : View) (e : TurnStop) : Type 0 where
  pub journal : List Entry
  pub refused : Option Refusal
  pub was : Bool
  pub failed : Bool
  pub knows : KnowsJournal v journal
  pub gave : GaveTurn v w journal [] refused failed
  pub why : IsWhy v.opening journal e
  pub noted : refused ≡ noted_as e None
  pub fault : TellsFault e was failed
  pub before : (only v).failed ≡ true → was ≡ true
  pub alone : v.opening.rings ≡ 1 → was ≡ true → (only v).failed ≡ true
