-- The text of a line in LRAT.
use Rattle.std.specs.Prelude.{ℕ, List, ◌++◌, codes}
use Rattle.std.specs.List.{flat_map}
use Rattle.std.specs.Fmt.{decimal}
use Rattle.rup_model.specs.NumberedLines.{NumberedLine}
use Rattle.rup_model.specs.NumberedLines.{Added, Deleted}
use Rattle.drat_text.specs.Text.{lits_text}

-- the numbers in their order, each followed by one space
abbrev pub numbers_text : List ℕ → List ℕ
numbers_text ns = flat_map (λ n. decimal n ++ codes " ") ns

-- an addition is its number, the literals, `0`, the hints, `0` and a newline; a deletion is the last number given, `d`, the number of the
-- clause, `0` and a newline
abbrev pub lrat_text : NumberedLine → List ℕ
lrat_text (Added number lits hints) = decimal number ++ codes " " ++ lits_text lits ++ codes "0 " ++ numbers_text hints ++ codes "0\n"
lrat_text (Deleted last number lits) = decimal last ++ codes " d " ++ decimal number ++ codes " 0\n"
