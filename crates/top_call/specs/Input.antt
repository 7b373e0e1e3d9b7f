-- What the formula is: made, or read from an input, if its text is known.
use Rattle.std.specs.Prelude.{◌≡◌, ℕ, List, Some, None, IfSome}
use Rattle.std.specs.declared.option.Option.{Option}
use Rattle.sat_words.specs.FormulaData.{FormulaData}
use Rattle.dimacs_read.specs.Input.{Reads, Bad}
use Rattle.dimacs_read.specs.declared.stop.Code.{Code}
use Rattle.cnf_make.specs.Made.{made}

-- the text, if it is known, spells the formula
abbrev pub WasRead : Option (List ℕ) → FormulaData → Type 0
WasRead text formula = IfSome text (λ bytes. Reads bytes formula)

-- the formula is that of the number, if one is made, else it was read
abbrev pub WasGiven : Option ℕ → Option (List ℕ) → FormulaData → Type 0
WasGiven None text formula = WasRead text formula
WasGiven (Some number) text formula = formula ≡ made number

-- the text, if it is known, has its first bad place in this line, with this code
abbrev pub WasBad : Option (List ℕ) → Code → ℕ → Type 0
WasBad text code line = IfSome text (λ bytes. Bad bytes code line)
