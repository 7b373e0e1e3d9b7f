-- How a call ends after a verdict and its proof: with the verdict, with a fault of the output, or with want of memory in the check
-- of the log, if one is asked for.
use Rattle.std.specs.Prelude.{◌≡◌, ◌⊎◌, ℕ, List, Bool, true}
use Rattle.top_call.specs.declared.report.SearchVerdict.{SearchVerdict}
use Rattle.top_call.specs.declared.report.CallEnd.{CallEnd}
use Rattle.top_call.specs.declared.report.CallEnd.TheVariants as end
use Rattle.top_call.specs.Ends.{end_of}
use Rattle.top_call.specs.Run.{Output, RoseIn, IsStill, Prints, PrintsPart}

-- the call ends with the verdict, and it was printed
pub record Succeeds (text : List ℕ) (verdict : SearchVerdict) (told : CallEnd) (output : Output) : Type 0 where
  pub is : told ≡ end_of verdict
  pub printed : Prints output text
  pub out : IsStill output.faults

-- the output failed
pub record FailsToPrint (text : List ℕ) (told : CallEnd) (output : Output) : Type 0 where
  pub is : told ≡ end.WriteFault
  pub printed : PrintsPart output text
  pub rose : RoseIn output.faults

-- memory ran out in the check, which was asked for
pub record FailsToCheck (checked : Bool) (told : CallEnd) (output : Output) : Type 0 where
  pub is : told ≡ end.Memory
  pub asked : checked ≡ true
  pub out : IsStill output.faults

-- how a call ends after a verdict with this text
abbrev pub Finishes : List ℕ → Bool → SearchVerdict → CallEnd → Output → Type 0
Finishes text checked verdict told output = Succeeds text verdict told output ⊎ FailsToPrint text told output ⊎ FailsToCheck checked told output
