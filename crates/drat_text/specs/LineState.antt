-- What is known of a place that takes the lines of a log one by one.
use Rattle.std.specs.Prelude.{ℕ, ◌+◌, Bool, List, ◌++◌, option_map}
use Rattle.std.specs.declared.option.Option.{Option}
use Rattle.sat_words.specs.declared.line.Line.{Line}
use Rattle.sat_words.specs.declared.line.Line.TheVariants.{Add, Del}
use Rattle.sat_words.specs.declared.line.ProofFormat.{ProofFormat}

-- how lines are spelled; how many stand, and the last number given; whether writing failed, and how often; the bytes so far, also those that
-- are still to be written, the path that they are for and the bytes that a flush has made sure of, if these are known; and the lines,
-- if they are kept
pub record LineState : Type 0 where
  pub format : ProofFormat
  pub entries : ℕ
  pub last : ℕ
  pub spent : Bool
  pub faults : ℕ
  pub written : Option (List ℕ)
  pub target : Option (List ℕ)
  pub flushed : Option (List ℕ)
  pub kept : Option (List Line)

-- the last number given once the line stands: an addition takes the next
abbrev pub last_after : ℕ → Line → ℕ
last_after n (Add lits) = n + 1
last_after n (Del lits) = n

-- lines that are kept, and these after them
abbrev pub with_lines : Option (List Line) → List Line → Option (List Line)
with_lines kept more = option_map (λ lines. lines ++ more) kept
