-- What the program promises of a formula that it reads, in short: at status 10 a model, at status 20 a proof. It follows from what
-- `Statuses` says, which has all statuses, the formulas that are made (`--make`), and what is printed.
use Rattle.std.specs.Prelude.{◌≡◌, ℕ, List, map, Bool, true, Some, None, IfSome, IsSomeAnd, length}
use Rattle.std.specs.declared.option.Option.{Option}
use Rattle.sat_words.specs.Truth.{formula_true}
use Rattle.sat_words.specs.Formats.{has_hints}
use Rattle.sat_words.specs.FormulaData.{FormulaData}
use Rattle.rup_model.specs.NumberedLines.{NumberedLine, line_of}
use Rattle.rup_model.specs.Log.{Refutes}
use Rattle.sat_words.specs.declared.line.ProofFormat.{ProofFormat}
use Rattle.drat_text.specs.Text.{CanBeSpelled}
use Rattle.drat_text.specs.Spelling.{proof_bytes}
use Rattle.dimacs_read.specs.Input.{Reads}
use Rattle.io_edge.specs.Paths.{PathMap}
use Rattle.top_call.specs.Words.{command_of, file_path, make_number, proof_format}
use Rattle.top_call.specs.Run.{text_in}
use Rattle.top_call.specs.LratProof.{numbered_clauses, IsLratProof}

-- the text, unless a formula is made: then none is read
abbrev pub unless_made : Option ℕ → Option (List ℕ) → Option (List ℕ)
unless_made None input = input
unless_made (Some number) input = None

-- the text of the formula that these words ask to read, if it is known: that of the file, or what standard input has left if no
-- file is given
abbrev pub asked_text : List (List ℕ) → Option PathMap → Option (List ℕ) → Option (List ℕ)
asked_text words files input = unless_made (make_number (command_of words)) (text_in files input (file_path (command_of words)))

-- the text spells a formula in DIMACS CNF, and the assignment makes each of its clauses true
pub record HasModelOf (input : List ℕ) (model : List Bool) : Type 0 where
  pub formula : FormulaData
  pub spelled : Reads input formula
  pub holds : formula_true model formula.clauses ≡ true

-- the text spells a formula in DIMACS CNF that no assignment makes true. The bytes of the proof, if they are known, are those of the
-- lines of a DRAT refutation in this format: each line is valid where it stands, the last one adds the empty clause, and each variable
-- is one that a proof may name. If the format has hints, the lines are an LRAT proof as well.
pub record HasProofOf (format : ProofFormat) (input : List ℕ) (proof : Option (List ℕ)) : Type 0 where
  pub formula : FormulaData
  pub spelled : Reads input formula
  pub no_model : (model : List Bool) → formula_true model formula.clauses ≡ true → ⊥
  pub lines : List NumberedLine
  pub refutes : Refutes formula.clauses (map line_of lines)
  pub named : CanBeSpelled (map line_of lines)
  pub hinted : has_hints format ≡ true → IsLratProof (length formula.clauses) (numbered_clauses formula.clauses) lines
  pub written : IfSome proof (λ bytes. bytes ≡ proof_bytes format lines)

-- if the text that the words ask to read is known: status 10 comes only with a model, in the report, of the formula that it spells,
-- and status 20 only with a proof that the formula has none, in the format that the words ask for
pub record Promise (words : List (List ℕ)) (files : Option PathMap) (input proof : Option (List ℕ)) (status : ℕ) (model : Option (List Bool)) : Type 0 where
  pub satisfiable : status ≡ 10 → IfSome (asked_text words files input) (λ bytes. IsSomeAnd model (HasModelOf bytes))
  pub unsatisfiable : status ≡ 20 → IfSome (asked_text words files input) (λ bytes. HasProofOf (proof_format (command_of words)) bytes proof)
