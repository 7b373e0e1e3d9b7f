-- What a caller sees of a call: arguments, counts of faults, and bytes, if they are known.
use Rattle.std.specs.Prelude.{◌≡◌, ℕ, Bool, true, List, Some, None, is_some, IfSome, IsSomeAnd}
use Rattle.std.specs.declared.option.Option.{Option}
use Rattle.io_edge.specs.Bytes.{GrowsBy, GrowsByPart}
use Rattle.io_edge.specs.Causes.{Rose, one_more}
use Rattle.io_edge.specs.Paths.{PathMap, Tried, told_at, told_target, after_opening, after_creation, IsThere}
use Rattle.dimacs_read.specs.Answer.{IsOpen, IsReadNoFurther}
use Rattle.top_call.specs.declared.plan.CallPlan.{CallPlan}
use Rattle.top_call.specs.Words.{command_of, file_path}
use Rattle.top_call.specs.Planned.{plan_of}

-- a count of faults as the call begins and as it ends
pub record FaultCount : Type 0 where
  pub before : ℕ
  pub after : ℕ

-- the writer of the proof as the call ends; it began with no fault and no byte
pub record Writer : Type 0 where
  pub faults : ℕ
  pub written : Option (List ℕ)
  pub flushed : Option (List ℕ)

-- standard output: its bytes before and after, and those that a flush has made sure of
pub record Output : Type 0 where
  pub faults : FaultCount
  pub before : Option (List ℕ)
  pub after : Option (List ℕ)
  pub flushed : Option (List ℕ)

-- a run over a source, once the proof is created
pub record Run : Type 0 where
  pub plan : CallPlan
  -- what the source had left, if it is known
  pub text : Option (List ℕ)
  pub source : FaultCount
  pub proof : Option Writer
  pub out : Output

-- a call, from the arguments of the command line on
pub record Call : Type 0 where
  pub words : List (List ℕ)
  -- the files as the call begins, if they are known
  pub contents : Option PathMap
  pub files : FaultCount
  -- what standard input has left as the call begins, if it is known
  pub left : Option (List ℕ)
  pub input : FaultCount
  -- the faults of the input that was opened, which began with none, as the call ends
  pub file : Option ℕ
  pub proof : Option Writer
  pub out : Output

-- a count of faults before and after some calls
abbrev pub faults_between : {S : Type 0} → (S → ℕ) → S → S → FaultCount
faults_between faults old new = record { before = faults old; after = faults new }

-- what a sink shows of itself before and after some calls
abbrev pub output_between : {S : Type 0} → (S → ℕ) → (S → Option (List ℕ)) → (S → Option (List ℕ)) → S → S → Output
output_between faults written flushed old new = record { faults = faults_between faults old new; before = written old; after = written new; flushed = flushed new }

-- what the writer of a proof shows of itself
abbrev pub writer_at : {W : Type 0} → (W → ℕ) → (W → Option (List ℕ)) → (W → Option (List ℕ)) → W → Writer
writer_at faults written flushed writer = record { faults = faults writer; written = written writer; flushed = flushed writer }

-- the text that is read: all of the file, or what standard input has left if no file is given
abbrev pub text_in : Option PathMap → Option (List ℕ) → Option (List ℕ) → Option (List ℕ)
text_in contents left None = left
text_in contents left (Some path) = told_at contents path

-- the text that the call reads
abbrev pub text_of : Call → Option (List ℕ)
text_of call = text_in call.contents call.left (file_path (command_of call.words))

-- the text that is left to read: that of the file if one was opened, else that of standard input
abbrev pub text_left : {R : Type 0} → (R → Option (List ℕ)) → Option R → Option (List ℕ) → Option (List ℕ)
text_left left None input = input
text_left left (Some reader) input = left reader

-- the faults of what is read: of the file that was opened, or of standard input
abbrev pub source_in : FaultCount → Option ℕ → FaultCount
source_in input None = input
source_in input (Some faults) = record { before = 0; after = faults }

-- the faults of what the call reads
abbrev pub source_of : Call → FaultCount
source_of call = source_in call.input call.file

-- the call as a run over its source
abbrev pub run_of : Call → Run
run_of call = record { plan = plan_of (command_of call.words); text = text_of call; source = source_of call; proof = call.proof; out = call.out }

-- an input was opened exactly if a file is given; if the files are known, it is there
pub record HasFile (call : Call) : Type 0 where
  pub opened : is_some call.file ≡ is_some (file_path (command_of call.words))
  pub there : IfSome (file_path (command_of call.words)) (IsThere call.contents)

-- the count rose, or stands at its last value
abbrev pub RoseIn : FaultCount → Type 0
RoseIn count = Rose count.before count.after

-- between these states of a source one read failed, and it was the last one; what was read before does not determine what the text is
pub record FailedLast {S : Type 0} (left : S → Option (List ℕ)) (failed : S → Bool) (faults : S → ℕ) (old new : S) : Type 0 where
  pub unread : IsOpen (left old) (left new)
  pub last : failed new ≡ true
  pub once : faults new ≡ one_more (faults old)

-- the count did not rise
abbrev pub IsStill : FaultCount → Type 0
IsStill count = count.after ≡ count.before

-- this text was written, and a flush made sure of it
pub record Prints (out : Output) (text : List ℕ) : Type 0 where
  pub grown : GrowsBy out.before out.after text
  pub sure : out.flushed ≡ out.after

-- some front of this text was written
abbrev pub PrintsPart : Output → List ℕ → Type 0
PrintsPart out text = GrowsByPart out.before out.after text

-- the path that a proof is for, if it is known; none if none is given
abbrev pub target_in : Option PathMap → Option (List ℕ) → Option (List ℕ)
target_in contents None = None
target_in contents (Some path) = told_target contents path

-- and what one shows, if there is one
abbrev pub writer_of : {W : Type 0} → (W → ℕ) → (W → Option (List ℕ)) → (W → Option (List ℕ)) → Option W → Option Writer
writer_of faults written flushed None = None
writer_of faults written flushed (Some writer) = Some (writer_at faults written flushed writer)

-- what the store tells after the input was to be opened once, if a path is given for it
abbrev pub opened_once : Option (List ℕ) → Option Tried → Option Tried
opened_once None tried = tried
opened_once (Some path) tried = after_opening tried

-- and after the proof was to be created once, if a path is given for it
abbrev pub created_once : Option (List ℕ) → Option Tried → Option Tried
created_once None tried = tried
created_once (Some path) tried = after_creation tried

-- the input was opened if a path is given for it, and its reader has the path's bytes left, and no fault
abbrev pub IsOpened : {R : Type 0} → (R → Option (List ℕ)) → (R → ℕ) → Option PathMap → Option (List ℕ) → Option R → Type 0
IsOpened left faults contents None file = file ≡ None
IsOpened left faults contents (Some path) file = IsSomeAnd file (λ reader. (left reader ≡ told_at contents path) × (faults reader ≡ 0))

-- the input was opened if a path is given for it, and its reader has read no further than needed of the path's bytes
abbrev pub IsFileRead : {R : Type 0} → (R → Option (List ℕ)) → Option PathMap → Option (List ℕ) → Option R → Type 0
IsFileRead left contents None file = file ≡ None
IsFileRead left contents (Some path) file = IfSome file (λ reader. IsReadNoFurther (told_at contents path) (left reader))

-- of a source that began with this text and no fault one read failed, and it was the last one; what was read before does not
-- determine what the text is
pub record HasFailedLast {R : Type 0} (left : R → Option (List ℕ)) (failed : R → Bool) (faults : R → ℕ) (text : Option (List ℕ)) (reader : R) : Type 0 where
  pub unread : IsOpen text (left reader)
  pub last : failed reader ≡ true
  pub once : faults reader ≡ 1

-- so it is of the file that was opened, if one was
abbrev pub FileFailedLast : {R : Type 0} → (R → Option (List ℕ)) → (R → Bool) → (R → ℕ) → Option PathMap → Option (List ℕ) → Option R → Type 0
FileFailedLast left failed faults contents None file = file ≡ None
FileFailedLast left failed faults contents (Some path) file = IfSome file (HasFailedLast left failed faults (told_at contents path))
