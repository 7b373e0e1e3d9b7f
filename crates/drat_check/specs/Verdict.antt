-- What the verdict on a log says.
use Rattle.std.specs.Prelude.{◌≡◌, ◌↔◌, ℕ, ◌+◌, false, IsTrue, List, [], ◌∷◌, ◌++◌, length}
use Rattle.sat_words.specs.Literal.{Literal}
use Rattle.sat_words.specs.declared.line.Line.{Line}
use Rattle.sat_words.specs.declared.line.Line.TheVariants.{Add}
use Rattle.rup_model.specs.Log.{alive, is_valid, Accepted, Refutes}
use Rattle.drat_check.specs.declared.verdict.Verdict.{Verdict}
use Rattle.drat_check.specs.declared.verdict.Verdict.TheVariants as verdict

-- the line of this number, from 1, is the first that is not valid where it stands
pub record IsFirstBad (F : List (List Literal)) (L : List Line) (n : ℕ) : Type 0 where
  pub before : List Line
  pub line : Line
  pub behind : List Line
  pub lines : L ≡ before ++ line ∷ behind
  pub number : n ≡ length before + 1
  pub good : Accepted F before
  pub bad : is_valid (alive F before) line ≡ false

-- the last line adds the empty clause
abbrev pub EndsEmpty : List Line → Type 0
EndsEmpty L = (before : List Line) × (L ≡ before ++ Add [] ∷ [])

-- the verdict is right: the log is accepted, and refutes the formula exactly if it is said to; or it isn't, by the line
-- of this number
abbrev pub IsVerdict : List (List Literal) → List Line → Verdict → Type 0
IsVerdict F L (verdict.Accepted empty) = Accepted F L × (IsTrue empty ↔ Refutes F L)
IsVerdict F L (verdict.Refused n) = IsFirstBad F L n
