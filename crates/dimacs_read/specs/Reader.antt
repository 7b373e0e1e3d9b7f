-- What a reader has found, and what the rest of a text means to it.
use Rattle.std.specs.Prelude.{◌≡◌, ℕ, ◌+◌, List, [], ◌∷◌, ◌++◌, length, Result, Ok, Err}
use Rattle.sat_words.specs.FormulaData.{FormulaData}
use Rattle.dimacs_read.specs.Grammar.{Outcome, End, later, is_newline}
use Rattle.dimacs_read.specs.Input.{separator}
use Rattle.dimacs_read.specs.Body.{IsLawful, judged}
use Rattle.dimacs_read.specs.State.{rest}
use Rattle.dimacs_read.specs.declared.reader.Reader.{Reader}
use Rattle.dimacs_read.specs.declared.stop.Code.TheVariants.{Limit}
use Rattle.dimacs_read.specs.declared.stop.Halt.{Halt}
use Rattle.dimacs_read.specs.declared.stop.Halt.TheVariants.{Bad, Done, Memory}
use Rattle.dimacs_read.specs.declared.stop.ReadStop.{ReadStop}
use Rattle.dimacs_read.specs.declared.stop.ReadStop.TheVariants.{Bad as BadInput, ReadFault, Memory as NoMemory}

-- what the rest of a text makes of it
abbrev pub meaning : Reader → List ℕ → Outcome
meaning r text = rest r.spot r.newlines r.body text

-- the number of newlines among the bytes
abbrev pub newlines : List ℕ → ℕ
newlines bytes = length (later is_newline bytes)

-- the bytes lead from one reader to the next
pub record Takes (r : Reader) (bytes : List ℕ) (s : Reader) : Type 0 where
  pub rest : (more : List ℕ) → meaning s more ≡ meaning r (bytes ++ more)
  pub lawful : IsLawful s.body
  pub newlines : s.newlines ≡ r.newlines + newlines bytes

-- why the reader takes no more of the bytes, whatever follows them
abbrev pub Halts : Reader → List ℕ → Halt → Reader → Type 0
Halts r bytes (Bad code) s = (more : List ℕ) → meaning r (bytes ++ more) ≡ Err (record { code = code; line = s.newlines + 1 })
Halts r bytes Done s = ((more : List ℕ) → meaning r (bytes ++ more) ≡ Ok s.body.formula) × IsLawful s.body
Halts r bytes Memory s = Unit {0}

-- the answer is true of the text, by what is true of an outcome
abbrev pub Answers : Result FormulaData ReadStop → (Outcome → Type 0) → Type 0
Answers (Ok formula) Found = Found (Ok formula)
Answers (Err (BadInput code line)) Found = Found (Err (record { code = code; line = line }))
Answers (Err ReadFault) Found = ⊥
Answers (Err NoMemory) Found = Unit {0}

-- whatever follows the bytes, the reader comes to the same
abbrev pub IsDetermined : Reader → List ℕ → Outcome → Type 0
IsDetermined r bytes found = (more : List ℕ) → meaning r (bytes ++ more) ≡ found

-- what is found at the byte after the limit
pub data FoundLate (r : Reader) (byte : ℕ) (found : Outcome) : Type 0 where
  Known : IsDetermined r (separator byte) found → FoundLate r byte found
  Unknown : ((other : Outcome) → IsDetermined r (separator byte) other → ⊥) → found ≡ Err (record { code = Limit; line = r.newlines + 1 }) → FoundLate r byte found

-- what the last token and the header line leave for the end of the input
pub record Closes (r s : Reader) : Type 0 where
  pub rest : meaning r [] ≡ judged s.body (record { line = r.newlines + 1; item = End } ∷ [])
  pub lawful : IsLawful s.body

-- why the text is none that ends here
abbrev pub FailsHere : Reader → Halt → Type 0
FailsHere r (Bad code) = meaning r [] ≡ Err (record { code = code; line = r.newlines + 1 })
FailsHere r Done = ⊥
FailsHere r Memory = Unit {0}

-- what a stop is to the caller
abbrev pub Replies : Halt → Reader → Result FormulaData ReadStop → Type 0
Replies (Bad code) r result = result ≡ Err (BadInput code (r.newlines + 1))
Replies Done r result = result ≡ Ok r.body.formula
Replies Memory r result = result ≡ Err NoMemory

-- what is found where these bytes come up to the limit, and then a further one
pub data FoundBy (r : Reader) (bytes : List ℕ) (byte : ℕ) (found : Outcome) : Type 0 where
  Before : IsDetermined r bytes found → FoundBy r bytes byte found
  Behind : (s : Reader) → Takes r bytes s → FoundLate s byte found → FoundBy r bytes byte found
