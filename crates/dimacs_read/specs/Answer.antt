-- What a read answers, by the text that the source had left.
use Rattle.std.specs.Prelude.{ℕ, ◌≤◌, ◌^◌, List, length, Result, IfSome, Ok, Err}
use Rattle.std.specs.declared.option.Option.{Option}
use Rattle.sat_words.specs.FormulaData.{FormulaData}
use Rattle.io_edge.specs.Bytes.{Gives}
use Rattle.dimacs_read.specs.Grammar.{Outcome}
use Rattle.dimacs_read.specs.Input.{Shows, Reads, Bad}
use Rattle.dimacs_read.specs.declared.stop.ReadStop.{ReadStop}
use Rattle.dimacs_read.specs.declared.stop.ReadStop.TheVariants.{Bad as BadInput, ReadFault, Memory}

-- the bytes that were taken, at most 2^33, do not determine what the text is: they show neither a bad place nor a % that ends the formula
pub record IsOpen (left rest : Option (List ℕ)) : Type 0 where
  pub taken : List ℕ
  pub took : Gives left rest taken
  pub few : length taken ≤ 2 ^ 33
  pub undetermined : (found : Outcome) → Shows taken found → ⊥

-- the source was read no further than needed: what was taken before the last read does not determine what the text is, and that
-- read, of which nothing may have come, gave at most 2^16 bytes
pub record IsReadNoFurther (left rest : Option (List ℕ)) : Type 0 where
  -- what the source had left before the last read
  pub between : Option (List ℕ)
  pub before : IsOpen left between
  pub piece : List ℕ
  pub gave : Gives between rest piece
  pub short : length piece ≤ 2 ^ 16

-- the answer to a source with this text left, if it is known, and what is left of it then
abbrev pub IsAnswer : Option (List ℕ) → Option (List ℕ) → Result FormulaData ReadStop → Type 0
IsAnswer left rest (Ok formula) = IfSome left (λ text. Reads text formula)
IsAnswer left rest (Err (BadInput code line)) = IfSome left (λ text. Bad text code line)
IsAnswer left rest (Err ReadFault) = IsOpen left rest
IsAnswer left rest (Err Memory) = Unit {0}
