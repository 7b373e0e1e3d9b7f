-- What is printed: remarks on a formula that was made and on the check, the answer's line and, with a model of a formula that was
-- read, its values, in lines of at most 78 bytes.
use Rattle.std.specs.Prelude.{ℕ, suc, ◌+◌, List, [], ◌∷◌, ◌++◌, length, map, Bool, not, nat_le, if◌then◌else◌, codes, decimal, Some, None}
use Rattle.std.specs.declared.option.Option.{Option}
use Rattle.std.specs.List.{range_with_len}
use Rattle.sat_words.specs.Literal.{Literal, lit_text}
use Rattle.sat_words.specs.Truth.{value_of, clause_true}
use Rattle.sat_words.specs.FormulaData.{FormulaData}
use Rattle.top_call.specs.declared.remarks.Summary.{Summary}
use Rattle.top_call.specs.declared.remarks.Remarks.{Remarks}
use Rattle.top_call.specs.declared.report.SearchVerdict.{SearchVerdict}
use Rattle.top_call.specs.declared.report.SearchVerdict.TheVariants.{Satisfiable, Unsatisfiable, Unknown}

-- the literal of the variable that is true
abbrev pub true_literal : List Bool → ℕ → Literal
true_literal model var = record { var = var; neg = not (value_of model var) }

-- the true literals of the variables 1 to `vars`, each in decimal, and `0` at the end
abbrev pub value_words : ℕ → List Bool → List (List ℕ)
value_words vars model = map (λ var. lit_text (true_literal model var)) (range_with_len 1 vars) ++ codes "0" ∷ []

-- each word after a space: on the line that has `used` bytes if it has at most 78 then, else on a new one
abbrev pub wrapped : ℕ → List (List ℕ) → List ℕ
wrapped used [] = codes "\n"
wrapped used (word ∷ words) =
    if nat_le (used + 1 + length word) 78
    then codes " " ++ word ++ wrapped (used + 1 + length word) words
    else codes "\nv " ++ word ++ wrapped (2 + length word) words

-- the values of the variables 1 to `vars`
abbrev pub value_lines : ℕ → List Bool → List ℕ
value_lines vars model = codes "v" ++ wrapped 1 (value_words vars model)

-- how many of the clauses the assignment makes true
unfoldable pub satisfied : List Bool → List (List Literal) → ℕ
satisfied model [] = 0
satisfied model (clause ∷ clauses) = if clause_true model clause then suc (satisfied model clauses) else satisfied model clauses

-- with a model, how many of the clauses it makes true
abbrev pub satisfied_by : SearchVerdict → List (List Literal) → Option ℕ
satisfied_by (Satisfiable model) clauses = Some (satisfied model clauses)
satisfied_by Unsatisfiable clauses = None
satisfied_by Unknown clauses = None

-- the remarks on a formula that was made
abbrev pub summary_of : FormulaData → SearchVerdict → Summary
summary_of formula verdict = record { vars = formula.vars; clauses = length formula.clauses; satisfied = satisfied_by verdict formula.clauses }

-- the remarks before the answer: on the formula, if it was made, and on the check, if one was asked for
abbrev pub remarks_of : (made checked : Bool) → FormulaData → SearchVerdict → Remarks
remarks_of made checked formula verdict = record { made = if made then Some (summary_of formula verdict) else None; checked = checked }

-- a line with a number
abbrev pub count_line : List ℕ → ℕ → List ℕ
count_line name count = name ++ decimal count ++ codes "\n"

-- the line with the number of clauses that the model makes true, if there is one
abbrev pub satisfied_line : Option ℕ → List ℕ
satisfied_line None = []
satisfied_line (Some count) = count_line (codes "c satisfied ") count

-- the lines of the remarks on a formula that was made
abbrev pub summary_lines : Summary → List ℕ
summary_lines s = count_line (codes "c vars ") s.vars ++ count_line (codes "c clauses ") s.clauses ++ satisfied_line s.satisfied

-- and of one that may have been made: none if it was read
abbrev pub made_lines : Option Summary → List ℕ
made_lines None = []
made_lines (Some s) = summary_lines s

-- the line on the check, if there was one
abbrev pub check_line : Bool → List ℕ
check_line checked = if checked then codes "c proof accepted\n" else []

-- the answer's line, as the SAT Competition asks
abbrev pub verdict_line : SearchVerdict → List ℕ
verdict_line (Satisfiable model) = codes "s SATISFIABLE\n"
verdict_line Unsatisfiable = codes "s UNSATISFIABLE\n"
verdict_line Unknown = codes "s UNKNOWN\n"

-- the lines before the values
abbrev pub head_lines : Remarks → SearchVerdict → List ℕ
head_lines remarks verdict = made_lines remarks.made ++ check_line remarks.checked ++ verdict_line verdict

-- the values of a model of a formula that was read; none are printed of a formula that was made
abbrev pub model_lines : ℕ → Option Summary → SearchVerdict → List ℕ
model_lines vars None (Satisfiable model) = value_lines vars model
model_lines vars _ _ = []

-- the answer over a formula with `vars` variables
abbrev pub answer_text : ℕ → Remarks → SearchVerdict → List ℕ
answer_text vars remarks verdict = head_lines remarks verdict ++ model_lines vars remarks.made verdict
