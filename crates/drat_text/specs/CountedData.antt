-- Lines that are counted and not spelled.
use Rattle.std.specs.Prelude.{ℕ, Bool, false, None, if◌then◌else◌}
use Rattle.sat_words.specs.declared.line.ProofFormat.TheVariants.{Text}
use Rattle.drat_text.specs.Count.{Count}
use Rattle.drat_text.specs.LineState.{LineState}

-- they tell no bytes, whatever the format; a line that failed is one fault
abbrev pub counted_state : Count → Bool → LineState
counted_state n spent = record {
  format = Text;
  entries = n.entries;
  last = n.last;
  spent = spent;
  faults = (if spent then 1 else 0);
  written = None;
  target = None;
  flushed = None;
  kept = None;
}

-- none stands yet
abbrev pub begun_counting : ℕ → LineState
begun_counting clauses = counted_state (record { entries = 0; last = clauses }) false
