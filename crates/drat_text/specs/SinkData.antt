-- Lines that go to a sink.
use Rattle.std.specs.Prelude.{ℕ, Bool, false, List, [], None}
use Rattle.std.specs.declared.option.Option.{Option}
use Rattle.std.specs.Io.KnownBytes.{append_known}
use Rattle.sat_words.specs.declared.line.ProofFormat.{ProofFormat}
use Rattle.drat_text.specs.LineState.{LineState}

-- how lines are spelled, how many stand, the last number given, whether the sink failed, the bytes that are not written yet, and the sink
pub record SinkData (S : Type 0) : Type 0 where
  pub format : ProofFormat
  pub entries : ℕ
  pub last : ℕ
  pub spent : Bool
  pub waiting : List ℕ
  pub sink : S

-- the lines as the sink tells them: by its bytes and those that wait after them, those flushed, its path, and its faults
abbrev pub told_by : {S : Type 0} → (S → Option (List ℕ)) → (S → Option (List ℕ)) → (S → Option (List ℕ)) → (S → ℕ) → SinkData S → LineState
told_by written flushed target faults p = record {
  format = p.format;
  entries = p.entries;
  last = p.last;
  spent = p.spent;
  faults = faults p.sink;
  written = append_known (written p.sink) p.waiting;
  target = target p.sink;
  flushed = flushed p.sink;
  kept = None;
}

-- no line yet, for a formula of this many clauses and in a sink to which nothing was written
abbrev pub begun_lines : {S : Type 0} → ProofFormat → ℕ → S → SinkData S
begun_lines f clauses sink = record { format = f; entries = 0; last = clauses; spent = false; waiting = []; sink = sink }
