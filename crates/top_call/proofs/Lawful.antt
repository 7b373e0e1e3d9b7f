-- Arguments that are valid, and calls with such arguments.
use Rattle.std.proofs.Common.{◌≡◌, ◌⊎◌, ℕ, Bool, true, false, List, [], Some, None, refl, ap, sym, subst, inl, inr, ◌∙◌, ◌≤◌, arith}
use Rattle.std.specs.Prelude.{IfSome, IsSome, is_some, option_map}
use Rattle.std.specs.declared.option.Option.{Option}
use Rattle.io_edge.specs.Causes.{Rose, one_more}
use Rattle.std.proofs.lemmas.Bool.{true≢false}
use Rattle.io_edge.specs.Paths.{PathMap, IsThere}
use Rattle.dimacs_read.specs.Answer.{IsReadNoFurther}
use Rattle.dimacs_read.proofs.Taken.{unread}
use Rattle.top_call.specs.declared.report.Tally.{Tally}
use Rattle.top_call.specs.declared.report.CallEnd.{CallEnd}
use Rattle.top_call.specs.Words.{Command, command_of, proof_path, file_path}
use Rattle.sat_words.specs.FormulaData.{FormulaData}
use Rattle.rup_model.specs.declared.journal.Entry.{Entry}
use Rattle.dimacs_read.specs.declared.stop.ReadStop.{ReadStop}
use Rattle.dimacs_read.specs.declared.stop.ReadStop.TheVariants as read_stop
use Rattle.top_call.specs.Run.{FaultCount, RoseIn, FailedLast, HasFailedLast, FileFailedLast, Run, Call, HasFile, IsStill, IsOpened, IsFileRead, source_of, text_of, text_in, text_left}
use Rattle.top_call.specs.declared.plan.CallPlan.{CallPlan}
use Rattle.top_call.specs.Planned.{plan_of}
use Rattle.top_call.specs.Outcome.{RunOutcome, CallOutcome, IsCall, IsRun, IsWhole}
use Rattle.top_call.specs.Tallied.{no_tally}
use Rattle.top_call.specs.Ends.{IsWordsEnd, end_of_read, status_of, leaves_input_at, leaves_files_at}
use Rattle.top_call.specs.declared.report.CallEnd.TheVariants.{Satisfiable, Unsatisfiable, Unknown, Usage, BadInput, CannotOpen, CannotCreate, ReadFault, WriteFault, ProofFault, Room, Memory}
use Rattle.top_call.proofs.Finishes.{no_formula}

-- a path that was given is the command's
pub asked_proof : (found : Option Command) (command : Command) → found ≡ Some command → IsSome command.proof → IsSome (proof_path found)
asked_proof found command is some = subst (λ (x : Option Command). IsSome (proof_path x)) (sym is) some

pub asked_file : (found : Option Command) (command : Command) → found ≡ Some command → IsSome command.file → IsSome (file_path found)
asked_file found command is some = subst (λ (x : Option Command). IsSome (file_path x)) (sym is) some

module _ {R : Type 0} (left : R → Option (List ℕ)) (faults : R → ℕ) (contents : Option PathMap) where
  -- an input is opened exactly if a path is given
  pub opened_there : (path : Option (List ℕ)) (file : Option R) → IsOpened left faults contents path file → is_some file ≡ is_some path
  opened_there None file is = ap (λ (f : Option R). is_some f) is
  opened_there (Some path) None is = absurd is
  opened_there (Some path) (Some reader) is = refl

-- the path of a command that is asked for
pub same_file : (found : Option Command) (command : Command) → found ≡ Some command → is_some (file_path found) ≡ is_some command.file
same_file found command is = ap (λ (x : Option Command). is_some (file_path x)) is

-- what shows as some number is there
pub same_there : {R : Type 0} (faults : R → ℕ) (file : Option R) → is_some (option_map faults file) ≡ is_some file
same_there faults None = refl
same_there faults (Some reader) = refl

-- an input that was opened for a command is the call's
pub has_file : {R : Type 0} (left : R → Option (List ℕ)) (faults : R → ℕ) (contents : Option PathMap) (found : Option Command) (command : Command) (file : Option R)
    → found ≡ Some command → IsOpened left faults contents command.file file → is_some (option_map faults file) ≡ is_some (file_path found)
has_file left faults contents found command file is opened = same_there faults file ∙ opened_there left faults contents command.file file opened ∙ sym (same_file found command is)

-- and its path is there, if the files are known
pub file_there : (contents : Option PathMap) (found : Option Command) (command : Command) → found ≡ Some command → IfSome command.file (IsThere contents) → IfSome (file_path found) (IsThere contents)
file_there contents found command is there = subst (λ (x : Option Command). IfSome (file_path x) (IsThere contents)) (sym is) there

-- the arguments were refused
pub words_stopped : (end : CallEnd) (tally : Tally) (call : Call) → IsWordsEnd end → (end ≡ Usage → command_of call.words ≡ None) → tally ≡ no_tally → call.file ≡ None → call.proof ≡ None → IsStill call.files → IsStill call.input → IsStill call.out.faults
    → CallOutcome end no_formula [] tally call
words_stopped end tally call (inl is) usage counts file proof files input out =
    subst (λ (e : CallEnd). CallOutcome e no_formula [] tally call) (sym is)
    (usage is, record { barren = record { no_proof = proof; nothing = refl; counts = counts; input = input; out = out }; no_file = file })
words_stopped end tally call (inr is) usage counts file proof files input out =
    subst (λ (e : CallEnd). CallOutcome e no_formula [] tally call) (sym is)
    (inl (files, record { barren = record { no_proof = proof; nothing = refl; counts = counts; input = input; out = out }; no_file = file }))

-- a count that rose after a call that left it
pub rose_behind : (before between after : ℕ) → between ≡ before → Rose between after → Rose before after
rose_behind before between after same rose = subst (λ (n : ℕ). Rose n after) same rose

-- a count that is one higher rose
pub rose_once : (before after : ℕ) → after ≡ one_more before → Rose before after
rose_once before after is = subst (λ (n : ℕ). one_more before ≤ n) (sym is) (omega arith)

-- what holds of a run over what was opened holds of its call
module _ {R : Type 0} (left : R → Option (List ℕ)) (faults : R → ℕ) (contents : Option PathMap) (input : Option (List ℕ)) where
  pub text_same : (path : Option (List ℕ)) (file : Option R) → IsOpened left faults contents path file → text_left left file input ≡ text_in contents input path
  text_same None file is = ap (λ (f : Option R). text_left left f input) is
  text_same (Some path) None is = absurd is
  text_same (Some path) (Some reader) is = is.0

pub input_cases : {R X : Type 0} (faults : R → ℕ) (file given : Option R) → is_some file ≡ is_some given → (is_some given ≡ true → X) → (option_map faults file ≡ None) ⊎ X
input_cases faults None given same still = inl refl
input_cases faults (Some reader) given same still = inr (still (sym same))

whole_call : (end : CallEnd) (F : FormulaData) (J : List Entry) (tally : Tally) (call : Call) → IsWhole end F J tally call → CallOutcome end F J tally call
whole_call (Satisfiable model) F J tally call w = w
whole_call Unsatisfiable F J tally call w = w
whole_call Unknown F J tally call w = w
whole_call Usage F J tally call w = absurd w.outcome
whole_call (BadInput code line) F J tally call w = w
whole_call CannotOpen F J tally call w = absurd w.outcome
whole_call CannotCreate F J tally call w = absurd w.outcome
whole_call ReadFault F J tally call w = w
whole_call WriteFault F J tally call w = w
whole_call ProofFault F J tally call w = w
whole_call (Room lack) F J tally call w = w
whole_call Memory F J tally call w = inr w

pub is_call : (end : CallEnd) (tally : Tally) (plan : CallPlan) (text : Option (List ℕ)) (call : Call) → IsRun end tally (record { plan = plan; text = text; source = source_of call; proof = call.proof; out = call.out })
    → plan ≡ plan_of (command_of call.words) → text ≡ text_of call → IsSome (command_of call.words) → HasFile call → IsStill call.files → (call.file ≡ None) ⊎ IsStill call.input → IsCall end tally call
is_call end tally plan text call r p t lawful file files input =
    let run : CallPlan → Option (List ℕ) → Run = λ x y. record { plan = x; text = y; source = source_of call; proof = call.proof; out = call.out } in
    let outcome = subst (λ (x : CallPlan). RunOutcome end r.formula r.journal tally (run x (text_of call))) p (subst (λ (y : Option (List ℕ)). RunOutcome end r.formula r.journal tally (run plan y)) t r.outcome) in
    record {
      formula = r.formula;
      journal = r.journal;
      outcome = whole_call end r.formula r.journal tally call (record { lawful = lawful; file = file; outcome = outcome; files = files; input = input });
    }

-- a run ends in none of the refusals before it
pub run_ends : (end : CallEnd) (tally : Tally) (run : Run) → IsRun end tally run → (leaves_input_at (status_of end) ≡ false) × (leaves_files_at (status_of end) true ≡ false)
run_ends (Satisfiable model) tally run r = (refl, refl)
run_ends Unsatisfiable tally run r = (refl, refl)
run_ends Unknown tally run r = (refl, refl)
run_ends Usage tally run r = absurd r.outcome
run_ends (BadInput code line) tally run r = (refl, refl)
run_ends CannotOpen tally run r = absurd r.outcome
run_ends CannotCreate tally run r = absurd r.outcome
run_ends ReadFault tally run r = (refl, refl)
run_ends WriteFault tally run r = (refl, refl)
run_ends ProofFault tally run r = (refl, refl)
run_ends (Room lack) tally run r = (refl, refl)
run_ends Memory tally run r = (refl, refl)

-- a run over a source that has never failed ends in no fault of it
pub still_run : (end : CallEnd) (tally : Tally) (run : Run) → IsRun end tally run → run.source ≡ record { before = 0; after = 0 } → status_of end ≡ 5 → ⊥
still_run (Satisfiable model) tally run r is e = omega (arith, e)
still_run Unsatisfiable tally run r is e = omega (arith, e)
still_run Unknown tally run r is e = omega (arith, e)
still_run Usage tally run r is e = omega (arith, e)
still_run (BadInput code line) tally run r is e = omega (arith, e)
still_run CannotOpen tally run r is e = omega (arith, e)
still_run CannotCreate tally run r is e = omega (arith, e)
still_run ReadFault tally run r is e = let rose : Rose 0 0 = subst (λ (s : FaultCount). RoseIn s) is r.outcome.0 in omega (arith, rose)
still_run WriteFault tally run r is e = omega (arith, e)
still_run ProofFault tally run r is e = omega (arith, e)
still_run (Room lack) tally run r is e = omega (arith, e)
still_run Memory tally run r is e = omega (arith, e)

-- the input was not read because a read failed
pub read_failed : (stop : ReadStop) (end : CallEnd) → end ≡ end_of_read stop → status_of end ≡ 5 → stop ≡ read_stop.ReadFault
read_failed (read_stop.Bad code line) end is e = absurd (let no : 2 ≡ 5 = sym (ap status_of is) ∙ e in omega (arith, no))
read_failed read_stop.ReadFault end is e = refl
read_failed read_stop.Memory end is e = absurd (let no : 9 ≡ 5 = sym (ap status_of is) ∙ e in omega (arith, no))

-- what is left of the input
module _ {R : Type 0} (left : R → Option (List ℕ)) (faults : R → ℕ) (contents : Option PathMap) where
  pub none_read : (path : Option (List ℕ)) → IsFileRead left contents path None
  none_read None = refl
  none_read (Some path) = tt

  pub call_opened : (found : Option Command) (command : Command) (file : Option R) → found ≡ Some command → IsOpened left faults contents command.file file → IsOpened left faults contents (file_path found) file
  call_opened found command file is opened = subst (λ (x : Option Command). IsOpened left faults contents (file_path x) file) (sym is) opened

  pub opened_read : (path : Option (List ℕ)) (file : Option R) → IsOpened left faults contents path file → IsFileRead left contents path file
  opened_read None file is = is
  opened_read (Some path) None is = absurd is
  opened_read (Some path) (Some reader) is = subst (λ (t : Option (List ℕ)). IsReadNoFurther t (left reader)) is.0 (unread (left reader))

  file_read : (input : Option (List ℕ)) (path : Option (List ℕ)) (file after : Option R) → IsOpened left faults contents path file → is_some after ≡ is_some file
      → IfSome after (λ reader. IsReadNoFurther (text_left left file input) (left reader)) → IsFileRead left contents path after
  file_read input None file None is same h = refl
  file_read input None file (Some after) is same h = absurd (true≢false (same ∙ ap (λ (f : Option R). is_some f) is))
  file_read input (Some path) None after is same h = absurd is
  file_read input (Some path) (Some reader) None is same h = tt
  file_read input (Some path) (Some reader) (Some after) is same h = subst (λ (t : Option (List ℕ)). IsReadNoFurther t (left after)) is.0 h

  pub call_read : (input : Option (List ℕ)) (found : Option Command) (command : Command) (file after : Option R) → found ≡ Some command → IsOpened left faults contents command.file file → is_some after ≡ is_some file
      → IfSome after (λ reader. IsReadNoFurther (text_left left file input) (left reader)) → IsFileRead left contents (file_path found) after
  call_read input found command file after is opened same h = subst (λ (x : Option Command). IsFileRead left contents (file_path x) after) (sym is) (file_read input command.file file after opened same h)

  pub file_kept : (input : Option (List ℕ)) (file : Option R) → IfSome file (λ reader. IsReadNoFurther (text_left left file input) (left reader))
  file_kept input None = tt
  file_kept input (Some reader) = unread (left reader)

-- a file that was opened and failed
module _ {R : Type 0} (left : R → Option (List ℕ)) (failed : R → Bool) (faults : R → ℕ) (contents : Option PathMap) where
  -- from its opening on
  pub opened_failed : (before after : R) → faults before ≡ 0 → FailedLast left failed faults before after → HasFailedLast left failed faults (left before) after
  opened_failed before after none f = record { unread = f.unread; last = f.last; once = f.once ∙ ap one_more none }

  file_failed : (input : Option (List ℕ)) (path : Option (List ℕ)) (file after : Option R) → IsOpened left faults contents path file → is_some after ≡ is_some file
      → IfSome after (HasFailedLast left failed faults (text_left left file input)) → FileFailedLast left failed faults contents path after
  file_failed input None file None is same h = refl
  file_failed input None file (Some after) is same h = absurd (true≢false (same ∙ ap (λ (f : Option R). is_some f) is))
  file_failed input (Some path) None after is same h = absurd is
  file_failed input (Some path) (Some reader) None is same h = tt
  file_failed input (Some path) (Some reader) (Some after) is same h = subst (λ (t : Option (List ℕ)). HasFailedLast left failed faults t after) is.0 h

  pub call_failed : (input : Option (List ℕ)) (found : Option Command) (command : Command) (file after : Option R) → found ≡ Some command → IsOpened left faults contents command.file file → is_some after ≡ is_some file
      → IfSome after (HasFailedLast left failed faults (text_left left file input)) → FileFailedLast left failed faults contents (file_path found) after
  call_failed input found command file after is opened same h = subst (λ (x : Option Command). FileFailedLast left failed faults contents (file_path x) after) (sym is) (file_failed input command.file file after opened same h)

-- arguments that are refused come to another status than a proof that could not be created
pub words_status : (end : CallEnd) → IsWordsEnd end → status_of end ≡ 4 → ⊥
words_status end (inl is) e = let no : 1 ≡ 4 = sym (ap status_of is) ∙ e in omega (arith, no)
words_status end (inr is) e = let no : 9 ≡ 4 = sym (ap status_of is) ∙ e in omega (arith, no)

-- and a run over a source does
pub run_status : (status : ℕ) → leaves_input_at status ≡ false → status ≡ 4 → ⊥
run_status status ends e = true≢false (sym (ap leaves_input_at e) ∙ ends)
