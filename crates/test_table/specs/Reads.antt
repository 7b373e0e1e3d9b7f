-- What is read of a cell that a ring holds.
use Rattle.std.specs.Prelude.{ℕ, List, length, sum_by}
use Rattle.sat_words.specs.Literal.{Literal, code_of}
use Rattle.sat_words.specs.declared.shared.Head.{Head}
use Rattle.share_rule.specs.declared.view.View.{View}
use Rattle.share_rule.specs.Views.{clause_of, glue_in, only}

-- size, glue and number of the clause that the pass's ring holds at the address
abbrev pub head_of : ℕ → View → Head
head_of a v = record { size = length (clause_of a v).lits; glue = glue_in (clause_of a v).number (only v).glues; number = (clause_of a v).number }

-- the codes of literals in one sum
abbrev pub code_sum : List Literal → ℕ
code_sum lits = sum_by code_of lits
