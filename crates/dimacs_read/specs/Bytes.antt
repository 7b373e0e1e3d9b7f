-- Kinds of bytes.
use Rattle.std.specs.Prelude.{◌≡◌, ℕ, ◌-◌, ◌<◌, Bool, true, false}
use Rattle.dimacs_read.specs.Grammar.{is_newline, is_blank, is_digit}
use Rattle.dimacs_read.specs.declared.bytes.ByteKind.{ByteKind}
use Rattle.dimacs_read.specs.declared.bytes.ByteKind.TheVariants.{Newline, Blank, Digit, Other}

-- the tests that a byte of the kind passes
pub record Passes (byte : ℕ) (newline blank digit : Bool) : Type 0 where
  pub newline_is : is_newline byte ≡ newline
  pub blank_is : is_blank byte ≡ blank
  pub digit_is : is_digit byte ≡ digit

-- the kind is that of the byte
abbrev pub IsKind : ℕ → ByteKind → Type 0
IsKind byte Newline = byte ≡ 10
IsKind byte Blank = Passes byte false true false
IsKind byte (Digit n) = Passes byte false false true × (n ≡ byte - 48) × (n < 10)
IsKind byte Other = Passes byte false false false
