-- The log of a port that writes alone: one journal, of the ruler's entries and the ring's own, whose lines its output has.
use Rattle.std.specs.Prelude.{◌≡◌, ◌+◌, ◌⊎◌, true, false, not, List, [], ◌∷◌, ◌++◌, map, length, All, Contains, Option, Some, None, IsSomeAnd, ⊤}
use Rattle.std.specs.List.{list_any}
use Rattle.sat_words.specs.Clause.{is_empty}
use Rattle.sat_words.specs.Formats.{has_hints}
use Rattle.rup_model.specs.declared.journal.Entry.{Entry}
use Rattle.rup_model.specs.Basics.{EachAfter}
use Rattle.rup_model.specs.NumberedLines.{IsHinted}
use Rattle.rup_model.specs.Journal.{book, lines, added, ended, is_told, ring_of, LogSound}
use Rattle.rup_model.specs.Opening.{Opening, Start, IsOpening}
use Rattle.sat_words.specs.declared.shared.TheConstants.{MAX_ENTRIES}
use Rattle.drat_text.specs.LineState.{LineState}
use Rattle.drat_text.specs.JournalText.{HasText, HasTextCut}
pub use Rattle.drat_text.specs.JournalText.{Origin}
use Rattle.ring_port.specs.declared.stops.PortStop.{PortStop}
use Rattle.ring_port.specs.declared.stops.PortStop.TheVariants.{Ended, Broken, ProofFault, NoHole, Memory}
use Rattle.ring_port.specs.PortState.{Holding, PortState, IsOn}
use Rattle.ring_port.specs.Port.{is_usable}

-- What a port was made over is an `Origin`: the formula, the ruler's journal, and the line output as it then was.

-- the ruler's entries, then the ring's own
abbrev pub journal_of : Origin → PortState → List Entry
journal_of o s = o.journal ++ s.mine

-- a start clause without its address
abbrev pub start_of : Holding → Start
start_of h = record { number = h.number; lits = h.lits }

-- the opening of the search
abbrev pub opening_of : Origin → PortState → Opening
opening_of o s = record { journal = o.journal; starts = map start_of s.start; units = s.opening }

-- an answer that refused has its cause: the log is ended; the output failed; as many lines stand as can
abbrev pub IsCaused : PortState → LineState → Option PortStop → Type 0
IsCaused s out None = ⊤
IsCaused s out (Some Ended) = s.ended ≡ true
IsCaused s out (Some Broken) = ⊥
IsCaused s out (Some ProofFault) = out.spent ≡ true
IsCaused s out (Some (NoHole lack)) = (out.entries ≡ MAX_ENTRIES) × (lack.need ≡ MAX_ENTRIES + 1) × (lack.largest ≡ MAX_ENTRIES)
IsCaused s out (Some Memory) = ⊥

-- what the output has of the journal's lines; the port's additions have hints exactly if the output's format has
pub record HasLines (o : Origin) (s : PortState) (out : LineState) : Type 0 where
  pub entries : out.entries ≡ length (lines o.formula (journal_of o s))
  pub last : (book o.formula (journal_of o s)).next ≡ out.last + 1
  pub hinted : s.hinted ≡ has_hints out.format
  pub usable : is_usable s.refused ≡ not out.spent
  pub caused : IsCaused s out s.refused
  pub whole : out.spent ≡ false → HasText o s.mine out
  pub short : out.spent ≡ true → HasTextCut o s.mine s.vars out
  pub target : out.target ≡ o.output.target
  pub flushed : out.flushed ≡ o.output.flushed

-- the clause is held, or waits for its deletion
abbrev pub Keeps : PortState → Holding → Type 0
Keeps s h = Contains s.held h ⊎ Contains s.waiting h

-- the port stands over this origin: the formula has no empty clause, each line of the one journal is valid where it stands,
-- all that the ring holds, that waits for its deletion or that was seen is alive in the log, each clause under a number of its
-- own, and the output has the lines; in a log with hints so are the units under their numbers, and those of each addition of the ring
-- show that it follows from what is alive before it
pub record StandsOver (o : Origin) (s : PortState) : Type 0 where
  pub opens : IsOpening o.formula (opening_of o s)
  pub given : list_any is_empty o.formula ≡ false
  pub sound : LogSound o.formula (journal_of o s)
  pub of_ring : All (λ e. ring_of e ≡ s.ring) s.mine
  pub on : All (All (IsOn s.vars)) (added s.mine)
  pub ended : s.ended ≡ ended o.formula (journal_of o s)
  pub held : All (λ h. (book o.formula (journal_of o s)).clause h.number ≡ Some h.lits) s.held
  pub waiting : All (λ h. (book o.formula (journal_of o s)).clause h.number ≡ Some h.lits) s.waiting
  pub numbers : (h k : Holding) → Keeps s h → Keeps s k → h.number ≡ k.number → h ≡ k
  pub seen : All (λ l. is_told o.formula (journal_of o s) l ≡ true) s.seen
  pub told : s.hinted ≡ true → All (λ u. (book o.formula (journal_of o s)).clause u.1 ≡ Some (u.0 ∷ [])) s.told
  pub hints : s.hinted ≡ true → EachAfter (IsHinted o.formula) o.journal s.mine
  pub output : IsSomeAnd s.output (HasLines o s)

-- whatever a port stands over, it still does
abbrev pub KeepsLog : PortState → PortState → Type 0
KeepsLog old new = (o : Origin) → StandsOver o old → StandsOver o new
