-- Ends and verdicts.
use Rattle.std.specs.Prelude.{◌≡◌, ◌⊎◌, Bool, not, ℕ, ◌==◌, ◌||◌, ◌&&◌, List, Some, None}
use Rattle.std.specs.declared.option.Option.{Option}
use Rattle.dimacs_read.specs.declared.stop.ReadStop.{ReadStop}
use Rattle.dimacs_read.specs.declared.stop.ReadStop.TheVariants as read_stop
use Rattle.top_call.specs.declared.report.SearchVerdict.{SearchVerdict}
use Rattle.top_call.specs.declared.report.SearchVerdict.TheVariants as verdict
use Rattle.top_call.specs.declared.report.CallEnd.{CallEnd}
use Rattle.top_call.specs.declared.report.CallEnd.TheVariants as end

-- the end of a call whose verdict is printed
abbrev pub end_of : SearchVerdict → CallEnd
end_of (verdict.Satisfiable model) = end.Satisfiable model
end_of verdict.Unsatisfiable = end.Unsatisfiable
end_of verdict.Unknown = end.Unknown

-- the end of a call whose input was not read
abbrev pub end_of_read : ReadStop → CallEnd
end_of_read (read_stop.Bad code line) = end.BadInput code line
end_of_read read_stop.ReadFault = end.ReadFault
end_of_read read_stop.Memory = end.Memory

-- the end of a call whose arguments are refused, or whose memory ran out as they were read
abbrev pub IsWordsEnd : CallEnd → Type 0
IsWordsEnd e = (e ≡ end.Usage) ⊎ (e ≡ end.Memory)

-- the exit status
abbrev pub status_of : CallEnd → ℕ
status_of (end.Satisfiable model) = 10
status_of end.Unsatisfiable = 20
status_of end.Unknown = 0
status_of end.Usage = 1
status_of (end.BadInput code line) = 2
status_of end.CannotOpen = 3
status_of end.CannotCreate = 4
status_of end.ReadFault = 5
status_of end.WriteFault = 6
status_of end.ProofFault = 7
status_of (end.Room lack) = 8
status_of end.Memory = 9

-- the model of a satisfiable formula
abbrev pub model_of : CallEnd → Option (List Bool)
model_of (end.Satisfiable model) = Some model
model_of _ = None

-- the test whether something may be printed at this status
abbrev pub prints_at : ℕ → Bool
prints_at status = (status == 10) || (status == 20) || (status == 0) || (status == 6)

-- the test whether standard input stays as it is at this status
abbrev pub leaves_input_at : ℕ → Bool
leaves_input_at status = (status == 1) || (status == 3) || (status == 4)

-- the test whether the files stay as they are at this status, by whether there is a writer of a proof
abbrev pub leaves_files_at : ℕ → Bool → Bool
leaves_files_at status made = (status == 1) || ((status == 9) && not made)
