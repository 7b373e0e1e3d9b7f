-- From the answer of the rings to a verdict, or to the end of a call without one.
use Rattle.std.specs.Prelude.{◌≡◌, Bool, List, Result, Ok, Err}
use Rattle.portfolio_run.specs.declared.answer.Answer.{Answer}
use Rattle.portfolio_run.specs.declared.answer.Answer.TheVariants.{Sat, Unsat, NoHole, ProofFault, Memory}
use Rattle.portfolio_run.specs.declared.answer.Answer.TheVariants as answer
use Rattle.top_call.specs.Occurring.{IsBoth}
use Rattle.top_call.specs.declared.report.SearchVerdict.{SearchVerdict}
use Rattle.top_call.specs.declared.report.SearchVerdict.TheVariants.{Satisfiable, Unsatisfiable, Unknown}
use Rattle.top_call.specs.declared.report.CallEnd.{CallEnd}
use Rattle.top_call.specs.declared.report.CallEnd.TheVariants as end

-- a model, without values for variables that don't occur
pub record IsCleared (occurring from : List Bool) (result : Result SearchVerdict CallEnd) : Type 0 where
  pub model : List Bool
  pub is : result ≡ Ok (Satisfiable model)
  pub both : IsBoth occurring from model

-- the verdict of an answer, or the end of a call without one
abbrev pub IsVerdictOf : List Bool → Answer → Result SearchVerdict CallEnd → Type 0
IsVerdictOf occurring (Sat model) result = IsCleared occurring model result
IsVerdictOf occurring Unsat result = result ≡ Ok Unsatisfiable
IsVerdictOf occurring answer.Unknown result = result ≡ Ok Unknown
IsVerdictOf occurring (NoHole lack) result = result ≡ Err (end.Room lack)
IsVerdictOf occurring ProofFault result = result ≡ Err end.ProofFault
IsVerdictOf occurring Memory result = result ≡ Err end.Memory
