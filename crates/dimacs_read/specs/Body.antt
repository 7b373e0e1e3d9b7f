-- What places are to the clauses before them.
use Rattle.std.specs.Prelude.{◌≡◌, ℕ, ◌<◌, ◌^◌, List, [], ◌∷◌, All, Ok, Err}
use Rattle.dimacs_read.specs.Grammar.{Outcome, Item, Place, judge}
use Rattle.sat_words.specs.Literal.{IsOn}
use Rattle.dimacs_read.specs.declared.body.Body.{Body}
use Rattle.dimacs_read.specs.declared.stop.Code.{Code}
use Rattle.dimacs_read.specs.declared.stop.Halt.{Halt}
use Rattle.dimacs_read.specs.declared.stop.Halt.TheVariants.{Bad, Done, Memory}

-- the first bad place of these, after what was read
abbrev pub judged : Body → List Place → Outcome
judged b places = judge b.formula.vars b.clauses b.formula.clauses b.begun.items places

-- the item leads from what was read to this
abbrev pub Follows : Body → Item → Body → Type 0
Follows b item c = (line : ℕ) (more : List Place) → judged c more ≡ judged b (record { line = line; item = item } ∷ more)

-- the item is bad
abbrev pub FailsAt : Body → Item → Code → Type 0
FailsAt b item code = (line : ℕ) (more : List Place) → judged b (record { line = line; item = item } ∷ more) ≡ Err (record { code = code; line = line })

-- the formula ends with the item
abbrev pub EndsAt : Body → Item → Type 0
EndsAt b item = (line : ℕ) → judged b (record { line = line; item = item } ∷ []) ≡ Ok b.formula

-- what the stop says of the item
abbrev pub IsFaultOf : Body → Item → Halt → Type 0
IsFaultOf b item (Bad code) = FailsAt b item code
IsFaultOf b item Done = EndsAt b item
IsFaultOf b item Memory = Unit {0}

-- why the item of a token stops the reader
abbrev pub IsBadToken : Body → Item → Halt → Type 0
IsBadToken b item (Bad code) = FailsAt b item code
IsBadToken b item Done = ⊥
IsBadToken b item Memory = Unit {0}

-- what was read is within the limits
pub record IsLawful (b : Body) : Type 0 where
  pub few_variables : b.formula.vars < 2 ^ 28
  pub on_variables : All (All (IsOn b.formula.vars)) b.formula.clauses
  pub begun_on_variables : All (IsOn b.formula.vars) b.begun.items

-- nothing was read after the header
pub record NothingRead (vars clauses : ℕ) (b : Body) : Type 0 where
  pub formula : b.formula ≡ record { vars = vars; clauses = [] }
  pub clauses_are : b.clauses ≡ clauses
  pub begun : b.begun.items ≡ []
