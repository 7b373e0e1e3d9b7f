-- Lines that are kept if they are asked for.
use Rattle.std.specs.Prelude.{◌≡◌, ◌<◌, ℕ, List, [], ◌∷◌, ⊤, Some, None, IfSome, Result, Ok, Err}
use Rattle.std.specs.declared.option.Option.{Option}
use Rattle.io_edge.specs.Bytes.{IsFront}
use Rattle.sat_words.specs.declared.line.Line.{Line}
use Rattle.drat_text.specs.LineState.{with_lines}
use Rattle.drat_text.specs.SinkData.{SinkData}
use Rattle.drat_text.specs.declared.stop.LineStop.{LineStop}

-- the lines, for how many more there is room, and the copy of the line that comes next
pub record KeptLines : Type 0 where
  pub lines : Option (List Line)
  pub room : ℕ
  pub next : Option Line

-- once the line was put: it is kept if it stands
abbrev pub kept_after : {T : Type 0} → Result T LineStop → Option (List Line) → Line → Option (List Line)
kept_after (Ok done) kept line = with_lines kept (line ∷ [])
kept_after (Err stop) kept line = kept

-- if lines are asked for, this one can be kept without memory
abbrev pub IsReady : KeptLines → Line → Type 0
IsReady k line = IfSome k.lines (λ _. (0 < k.room) × (k.next ≡ Some line))

-- Lines on their way to a sink, which are kept if that is asked for

-- those on their way, and those that are kept
pub record LogData (S : Type 0) : Type 0 where
  pub lines : SinkData S
  pub kept : KeptLines

-- the bytes, if they are known, are the text
abbrev pub HoldsText : Option (List ℕ) → List ℕ → Type 0
HoldsText None all = ⊤
HoldsText (Some bytes) all = bytes ≡ all

-- the bytes, if they are known, are a front of the text
abbrev pub IsFrontTold : Option (List ℕ) → List ℕ → Type 0
IsFrontTold None all = ⊤
IsFrontTold (Some bytes) all = IsFront (Some bytes) (Some all)
