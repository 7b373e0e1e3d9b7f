-- A variable's number at the front of bytes.
use Rattle.std.specs.Prelude.{ℕ, ◌+◌, ◌-◌, ◌*◌, ◌^◌, Bool, not, ◌&&◌, ◌||◌, nat_le, nat_lt, List, [], ◌∷◌, Some, None, if◌then◌else◌}
use Rattle.std.specs.Char.{is_ascii_digit}
use Rattle.std.specs.declared.option.Option.{Option}

-- a number that a variable can have
abbrev pub variable : ℕ → Option ℕ
variable value = if nat_lt 0 value && nat_le value (2 ^ 30) then Some value else None

-- the test whether the digits end here: at another byte, or if they come to more than a variable's number
abbrev pub ends_at : ℕ → ℕ → Bool
ends_at value byte = not (is_ascii_digit byte) || nat_lt (2 ^ 30) value

-- the variable's number that the digits at the front write after those of a value
abbrev pub number_from : ℕ → List ℕ → Option ℕ
number_from value [] = variable value
number_from value (byte ∷ bytes) = if ends_at value byte then variable value else number_from (value * 10 + (byte - 48)) bytes
