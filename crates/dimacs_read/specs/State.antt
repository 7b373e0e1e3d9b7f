-- What the rest of a text means to a reader that stands in its midst.
use Rattle.std.specs.Prelude.{◌≡◌, ℕ, ◌+◌, true, ◌==◌, List, ◌∷◌, ◌++◌, if◌then◌else◌, Ok, Err}
use Rattle.std.specs.declared.option.Option.{Option}
use Rattle.sat_words.specs.Literal.{Literal}
use Rattle.dimacs_read.specs.Grammar.{Outcome, Token, Place, front, later, is_newline, is_blank, lines, tokens, number, signed, token_places, places, opening, preamble}
use Rattle.dimacs_read.specs.declared.stop.Code.{Code}
use Rattle.dimacs_read.specs.Body.{judged, IsLawful}
use Rattle.dimacs_read.specs.declared.stop.Halt.{Halt}
use Rattle.dimacs_read.specs.declared.stop.Halt.TheVariants.{Bad, Done, Memory}
use Rattle.dimacs_read.specs.declared.body.Body.{Body}
use Rattle.dimacs_read.specs.Header.{sizes_at, digits_from, later_tokens}
use Rattle.dimacs_read.specs.declared.spot.State.{State}
use Rattle.dimacs_read.specs.declared.spot.State.TheVariants.{Preamble, PreambleComment, Header, Line, Comment, Gap, Minus, Number}

-- the places of what is left of a line, by what its first token is, and of the lines after it
abbrev pub token_first : ℕ → Option Literal → List ℕ → List Place
token_first before token text =
    record { line = before + 1; item = Token token }
    ∷ (token_places (before + 1) (later_tokens (front is_newline text)) ++ places (before + 1) (later is_newline text))

-- what the rest of the text makes of it, after this many newlines
abbrev pub rest : State → ℕ → Body → List ℕ → Outcome
rest Preamble before b text = preamble before (lines text)
rest PreambleComment before b text = preamble (before + 1) (later is_newline text)
rest (Header spot) before b text = opening (before + 1) (sizes_at spot (front is_newline text)) (later is_newline text)
rest Line before b text = judged b (places before (lines text))
rest Comment before b text = judged b (places (before + 1) (later is_newline text))
rest Gap before b text = judged b (token_places (before + 1) (tokens (front is_newline text)) ++ places (before + 1) (later is_newline text))
rest Minus before b text = judged b (token_first before (signed true (number (front is_blank (front is_newline text)))) text)
rest (Number neg n) before b text = judged b (token_first before (signed neg (digits_from n (front is_blank (front is_newline text)))) text)

-- the number of newlines after this byte
abbrev pub newlines_by : ℕ → ℕ → ℕ
newlines_by before byte = if byte == 10 then before + 1 else before

-- the byte leads from one spot to the next
abbrev pub Leads : State → Body → ℕ → State → Body → Type 0
Leads spot b byte next c = (before : ℕ) (text : List ℕ) → rest next (newlines_by before byte) c text ≡ rest spot before b (byte ∷ text)

-- the byte decides it
abbrev pub Decides : State → Body → ℕ → Code → Type 0
Decides spot b byte code = (before : ℕ) (text : List ℕ) → rest spot before b (byte ∷ text) ≡ Err (record { code = code; line = before + 1 })

-- why no byte after this one is taken: it is a bad place, or it ends the formula
abbrev pub Stops : State → Body → ℕ → Halt → Body → Type 0
Stops spot b byte (Bad code) c = Decides spot b byte code
Stops spot b byte Done c = ((before : ℕ) (text : List ℕ) → rest spot before b (byte ∷ text) ≡ Ok c.formula) × IsLawful c
Stops spot b byte Memory c = Unit {0}
