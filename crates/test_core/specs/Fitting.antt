-- A test that start clauses and units of a formula make an opening, if the ruler wrote nothing.
use Rattle.std.specs.Prelude.{ℕ, ◌^◌, Bool, true, not, ◌&&◌, ◌||◌, ◌==◌, nat_le, List, [], ◌∷◌, length}
use Rattle.std.specs.List.{list_any, list_all}
use Rattle.sat_words.specs.Literal.{Literal}
use Rattle.sat_words.specs.Clause.{distinct_lits}
use Rattle.rup_model.specs.Journal.{formula_clause}
use Rattle.share_core.specs.declared.stored.ClauseAt.{ClauseAt}
use Rattle.share_core.specs.State.{unit_lits}
use Rattle.share_core.specs.Guards.{is_long, is_unit}

-- it has an address, and the number of a clause of the formula, and is long
abbrev pub start_fits : List (List Literal) → ClauseAt → Bool
start_fits F s = nat_le 1 s.number && (nat_le s.number (length F) && (not (s.address == 0) && is_long s.lits))

-- their addresses differ, and their numbers
abbrev pub stand_apart : List ClauseAt → Bool
stand_apart [] = true
stand_apart (s ∷ ss) = not (list_any (λ h. (h.address == s.address) || (h.number == s.number)) ss) && stand_apart ss

-- the number is that of a clause of the formula that is the unit
abbrev pub unit_fits : List (List Literal) → Literal × ℕ → Bool
unit_fits F u = is_unit u.0 (formula_clause F u.1)

-- they make an opening
abbrev pub opens : List (List Literal) → List ClauseAt → List (Literal × ℕ) → ℕ → ℕ → ℕ → Bool
opens F ss us rings depth limit =
    nat_le 1 rings && (nat_le rings 16 && (nat_le 1 depth && (nat_le depth 16 && (nat_le limit (2 ^ 63) && (list_all (start_fits F) ss && (stand_apart ss && (list_all (unit_fits F) us && distinct_lits (unit_lits us))))))))
