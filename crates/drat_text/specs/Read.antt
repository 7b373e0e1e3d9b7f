-- What stands in the bytes of a proof.
use Rattle.std.specs.Prelude.{◌≡◌, ℕ, ◌+◌, ◌<◌, ◌^◌, List, ◌++◌, length, All, ⊤}
use Rattle.sat_words.specs.Literal.{IsOn}
use Rattle.sat_words.specs.declared.line.Line.{Line}
use Rattle.rup_model.specs.Log.{lits_of}
use Rattle.drat_text.specs.declared.read.ReadLinesStop.{ReadLinesStop}
use Rattle.drat_text.specs.declared.read.ReadLinesStop.TheVariants.{BadLine, Memory}
use Rattle.drat_text.specs.Text.{line_text, text, CanBeSpelled}

-- the bytes are the text of the lines
pub record IsTextOf (lines : List Line) (bytes : List ℕ) : Type 0 where
  pub spelled : CanBeSpelled lines
  pub is : bytes ≡ text lines

-- the bytes begin with the text of a line
pub record BeginsWithLine (bytes : List ℕ) : Type 0 where
  pub line : Line
  pub more : List ℕ
  pub spelled : All (IsOn (2 ^ 30)) (lits_of line)
  pub split : bytes ≡ line_text line ++ more

-- the line of this number, the first being 1, is the first bad one: the text of those before it is followed by bytes that
-- don't begin with the text of a line
pub record IsBadLine (bytes : List ℕ) (number : ℕ) : Type 0 where
  pub lines : List Line
  pub rest : List ℕ
  pub before : number ≡ length lines + 1
  pub spelled : CanBeSpelled lines
  pub split : bytes ≡ text lines ++ rest
  pub some : 0 < length rest
  pub bad : BeginsWithLine rest → ⊥

-- why no lines were read
abbrev pub WasUnread : List ℕ → ReadLinesStop → Type 0
WasUnread bytes (BadLine number) = IsBadLine bytes number
WasUnread bytes Memory = ⊤
