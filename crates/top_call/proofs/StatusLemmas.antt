-- From the case of a call's end to what its status says.
use Rattle.std.proofs.Common.{◌≡◌, ◌≢◌, ◌⊎◌, ℕ, List, [], Bool, Some, None, refl, sym, ◌∙◌, inl, inr, subst, ⊎_elim, arith, rules, ap}
use Rattle.std.specs.Prelude.{IfSome, IsSome, IsSomeAnd}
use Rattle.std.specs.declared.option.Option.{Option}
use Rattle.sat_words.specs.Formats.{has_hints}
use Rattle.sat_words.specs.FormulaData.{FormulaData}
use Rattle.sat_words.specs.declared.shared.NoRoom.{NoRoom}
use Rattle.rup_model.specs.declared.journal.Entry.{Entry}
use Rattle.io_edge.specs.Causes.{Rose}
use Rattle.portfolio_run.specs.Journaled.{IsJournal}
use Rattle.dimacs_read.specs.Input.{Reads, Bad}
use Rattle.dimacs_read.specs.Codes.{number_of}
use Rattle.dimacs_read.specs.declared.stop.Code.{Code}
use Rattle.top_call.specs.declared.report.Tally.{Tally}
use Rattle.top_call.specs.declared.report.CallEnd.{CallEnd}
use Rattle.top_call.specs.declared.report.CallEnd.TheVariants.{Satisfiable, Unsatisfiable, Unknown, Usage, BadInput, CannotOpen, CannotCreate, ReadFault, WriteFault, ProofFault, Room, Memory}
use Rattle.top_call.specs.declared.report.SearchVerdict.{SearchVerdict}
use Rattle.top_call.specs.declared.report.SearchVerdict.TheVariants as verdict
use Rattle.top_call.specs.Words.{Command, command_of, file_path, make_number, proof_path}
use Rattle.top_call.specs.Planned.{plan_of}
use Rattle.top_call.specs.Input.{WasBad, WasGiven}
use Rattle.top_call.specs.Run.{Call, FaultCount, Writer, RoseIn, IsStill, run_of, source_of, source_in, text_of}
use Rattle.top_call.specs.Journaled.{HoldsLog}
use Rattle.top_call.specs.Outcome.{CallOutcome, IsCall, IsWhole, IsUnread, IsRefused, IsAnswered, IsBroken, IsStarted, IsCutOff, IsUnproved, IsCrowded, IsStarved, IsUnchecked, IsBarren, IsIdle}
use Rattle.top_call.specs.Ends.{status_of, model_of}
use Rattle.top_call.specs.Tallied.{no_tally, bad_tally}
use Rattle.top_call.specs.Statuses.{search_in, Answers, HasModel, IsExhausted, IsUnasked, HasBadPlace, HasJournal, IsCounted, IsReadable, MustAnswer, MadeAll, RanOut, IsUnopened, IsUncreated, IsAnswer, Statuses}
use Rattle.top_call.proofs.Journals.{empty_journal}
use Rattle.top_call.proofs.Tallies.{few_of_none, all_learned}

-- a writer that must be there is there
there : (P : Writer → Type 0) (proof : Option Writer) → IsSomeAnd proof P → IsSome proof
there P None h = absurd h
there P (Some writer) h = refl

if_there : (P : Writer → Type 0) (proof : Option Writer) → IsSomeAnd proof P → IfSome proof P
if_there P None h = absurd h
if_there P (Some writer) h = h

if_none : (P : Writer → Type 0) (proof : Option Writer) → proof ≡ None → IfSome proof P
if_none P None e = tt
if_none P (Some writer) e = absurd (cc e)

unlawful : (x : Option Command) → IsSome x → x ≡ None → ⊥
unlawful None h e = cc h
unlawful (Some y) h e = cc e

unlawful_path : (x : Option Command) → IsSome (proof_path x) → x ≡ None → ⊥
unlawful_path None h e = cc h
unlawful_path (Some y) h e = cc e

unlawful_file : (x : Option Command) → IsSome (file_path x) → x ≡ None → ⊥
unlawful_file None h e = cc h
unlawful_file (Some y) h e = cc e

unhurt : (proof : Option Writer) → IsSomeAnd proof (λ w. Rose 0 w.faults) → IfSome proof (λ w. Rose 0 w.faults → ⊥) → ⊥
unhurt None h k = h
unhurt (Some writer) h k = k h

-- the number of the plan is that of the words
planned : (x : Option Command) → (plan_of x).make ≡ make_number x
planned None = refl
planned (Some y) = refl

unmade_some : (x : Option Command) (y : Command) → x ≡ Some y → (plan_of x).make ≡ None → IsSome y.make → ⊥
unmade_some x y is none some = unlawful_number y.make some (sym (ap (λ (z : Option Command). (plan_of z).make) is) ∙ none)
  where
    unlawful_number : (n : Option ℕ) → IsSome n → n ≡ None → ⊥
    unlawful_number None h e = cc h
    unlawful_number (Some k) h e = cc e

-- standard input didn't fail, if it wasn't read or is what was read
input_still : (input : FaultCount) (file : Option ℕ) → (file ≡ None) ⊎ IsStill input → IsStill (source_in input file) → IsStill input
input_still input file (inl none) still = subst (λ (f : Option ℕ). IsStill (source_in input f)) none still
input_still input file (inr same) still = same

-- a text that spells a formula has no bad place
abbrev pub Apart : Type 0
Apart = (text : List ℕ) (formula : FormulaData) (code : Code) (line : ℕ) → Reads text formula → Bad text code line → ⊥

module _ (F : FormulaData) (J : List Entry) (tally : Tally) (call : Call) where
  -- a call that ended with a verdict
  answers : (v : SearchVerdict) → IsStill call.files → (call.file ≡ None) ⊎ IsStill call.input → IsAnswered v F J tally (run_of call) → Answers v F J tally call
  answers v files input a = record { answered = a; files = files; input = input_still call.input call.file input a.started.source }

  satisfiable : (end : CallEnd) → CallOutcome end F J tally call → status_of end ≡ 10 → HasModel (model_of end) F J tally call
  satisfiable (Satisfiable model) o e = record { values = model; reported = refl; answers = answers (verdict.Satisfiable model) o.files o.input o.outcome }
  satisfiable _ o e = absurd (omega arith)

  unsatisfiable : (end : CallEnd) → CallOutcome end F J tally call → status_of end ≡ 20 → Answers verdict.Unsatisfiable F J tally call
  unsatisfiable Unsatisfiable o e = answers verdict.Unsatisfiable o.files o.input o.outcome
  unsatisfiable _ o e = absurd (omega arith)

  unknown : (end : CallEnd) → CallOutcome end F J tally call → status_of end ≡ 0 → IsExhausted F J tally call
  unknown Unknown o e = record {
    answers = answers verdict.Unknown o.files o.input o.outcome;
    many = o.outcome.started.learned.many;
    learned = all_learned (search_in call).threads (search_in call).round (search_in call).conflicts F.clauses J tally.learned o.outcome.started.learned o.outcome.decided.holds;
  }
  unknown _ o e = absurd (omega arith)

  usage : (end : CallEnd) → CallOutcome end F J tally call → status_of end ≡ 1 → IsUnasked J tally call
  usage Usage o e = record { words = o.0; idle = o.1 }
  usage _ o e = absurd (omega arith)

  refused : (end : CallEnd) → CallOutcome end F J tally call → command_of call.words ≡ None → (status_of end ≡ 1) ⊎ (status_of end ≡ 9)
  refused Usage o e = inl refl
  refused Memory o e = inr refl
  refused CannotOpen o e = absurd (unlawful_file (command_of call.words) o.1 e)
  refused CannotCreate o e = absurd (unlawful_path (command_of call.words) o.1 e)
  refused _ o e = absurd (unlawful (command_of call.words) o.lawful e)

  bad_place : (code : Code) (line : ℕ) → IsRefused code line F J tally (run_of call) → HasBadPlace F J tally call
  bad_place code line r =
      let same : tally.line ≡ line = ap (λ (t : Tally). t.line) r.counts in
      record { code = code; refused = subst (λ (n : ℕ). IsRefused code n F J tally (run_of call)) (sym same) r }

  bad_input : (end : CallEnd) → CallOutcome end F J tally call → status_of end ≡ 2 → HasBadPlace F J tally call
  bad_input (BadInput code line) o e = bad_place code line o.outcome
  bad_input _ o e = absurd (omega arith)

  cannot_open : (end : CallEnd) → CallOutcome end F J tally call → status_of end ≡ 3 → IsUnopened J tally call
  cannot_open CannotOpen o e = record { rose = o.0; asked = o.1; idle = o.2 }
  cannot_open _ o e = absurd (omega arith)

  cannot_create : (end : CallEnd) → CallOutcome end F J tally call → status_of end ≡ 4 → IsUncreated J tally call
  cannot_create CannotCreate o e = record { rose = o.0; asked = o.1; file = o.2; barren = o.3 }
  cannot_create _ o e = absurd (omega arith)

  read_fault : (end : CallEnd) → CallOutcome end F J tally call → status_of end ≡ 5 → RoseIn (source_of call) × (make_number (command_of call.words) ≡ None) × IsBroken F J tally (run_of call)
  read_fault ReadFault o e = (o.outcome.0, sym (planned (command_of call.words)) ∙ o.outcome.1, o.outcome.2)
  read_fault _ o e = absurd (omega arith)

  write_fault : (end : CallEnd) → CallOutcome end F J tally call → status_of end ≡ 6 → IsCutOff F J tally (run_of call)
  write_fault WriteFault o e = o.outcome
  write_fault _ o e = absurd (omega arith)

  proof_fault : (end : CallEnd) → CallOutcome end F J tally call → status_of end ≡ 7 → IsUnproved F J tally (run_of call)
  proof_fault ProofFault o e = o.outcome
  proof_fault _ o e = absurd (omega arith)

  no_room : (lack : NoRoom) → IsCrowded lack F J tally (run_of call) → IsCrowded (record { need = tally.need; largest = tally.largest }) F J tally (run_of call)
  no_room lack c =
      let same : lack ≡ record { need = tally.need; largest = tally.largest } = λ i. record { need = sym (ap (λ (t : Tally). t.need) c.started.tally_is) i; largest = sym (ap (λ (t : Tally). t.largest) c.started.tally_is) i } in
      subst (λ (l : NoRoom). IsCrowded l F J tally (run_of call)) same c

  room : (end : CallEnd) → CallOutcome end F J tally call → status_of end ≡ 8 → IsCrowded (record { need = tally.need; largest = tally.largest }) F J tally (run_of call)
  room (Room lack) o e = no_room lack o.outcome
  room _ o e = absurd (omega arith)

  made_broken : IsBroken F J tally (run_of call) → IsSome call.proof
  made_broken b = there (HoldsLog (search_in call).format F.clauses J 0) call.proof b.unread.log

  made_started : {kind : Option ℕ} {lack : NoRoom} → IsStarted kind lack F J tally (run_of call) → IsSome call.proof
  made_started s = there (HoldsLog (search_in call).format F.clauses J s.searched) call.proof s.log

  -- all that was asked for was made
  made_all : (end : CallEnd) → IsWhole end F J tally call → IsSome call.proof → MadeAll call
  made_all end o proof = record { lawful = o.lawful; file = o.file; proof = proof; files = o.files; input = o.input }

  -- memory ran out before anything was made
  ran_out_idle : IsStill call.files → IsIdle J tally call → RanOut F J tally call
  ran_out_idle files h = record {
    files = files;
    input = h.barren.input;
    source = subst (λ (f : Option ℕ). IsStill (source_in call.input f)) (sym h.no_file) h.barren.input;
    out = h.barren.out;
    made = inl h;
  }

  -- or after that
  ran_out_whole : IsWhole Memory F J tally call → (IsStill (source_of call) × IsBroken F J tally (run_of call)) ⊎ IsStarved F J tally (run_of call) ⊎ IsUnchecked F J tally (run_of call) → RanOut F J tally call
  ran_out_whole o (inl h) = record {
    files = o.files;
    input = input_still call.input call.file o.input h.0;
    source = h.0;
    out = h.1.out;
    made = inr (made_all Memory o (made_broken h.1), inl h.1);
  }
  ran_out_whole o (inr (inl h)) = record {
    files = o.files;
    input = input_still call.input call.file o.input h.started.source;
    source = h.started.source;
    out = h.out;
    made = inr (made_all Memory o (made_started h.started), inr (inl h));
  }
  ran_out_whole o (inr (inr h)) = record {
    files = o.files;
    input = input_still call.input call.file o.input h.started.source;
    source = h.started.source;
    out = h.quiet.out;
    made = inr (made_all Memory o (made_started h.started), inr (inr h));
  }

  out_of_memory : (IsStill call.files × IsIdle J tally call) ⊎ IsWhole Memory F J tally call → RanOut F J tally call
  out_of_memory (inl h) = ran_out_idle h.0 h.1
  out_of_memory (inr o) = ran_out_whole o o.outcome

  memory : (end : CallEnd) → CallOutcome end F J tally call → status_of end ≡ 9 → RanOut F J tally call
  memory Memory o e = out_of_memory o
  memory _ o e = absurd (omega arith)

  known : (end : CallEnd) → CallOutcome end F J tally call → IsAnswer (status_of end) ⊎ (status_of end ≡ 1) ⊎ (status_of end ≡ 2) ⊎ (status_of end ≡ 3) ⊎ (status_of end ≡ 4) ⊎ (status_of end ≡ 5) ⊎ (status_of end ≡ 6) ⊎ (status_of end ≡ 7) ⊎ (status_of end ≡ 8) ⊎ (status_of end ≡ 9)
  known (Satisfiable model) o = search rules
  known Unsatisfiable o = search rules
  known Unknown o = search rules
  known Usage o = search rules
  known (BadInput code line) o = search rules
  known CannotOpen o = search rules
  known CannotCreate o = search rules
  known ReadFault o = search rules
  known WriteFault o = search rules
  known ProofFault o = search rules
  known (Room lack) o = search rules
  known Memory o = search rules

  no_model : (end : CallEnd) → CallOutcome end F J tally call → status_of end ≢ 10 → model_of end ≡ None
  no_model (Satisfiable model) o n = absurd (n refl)
  no_model _ o n = refl

  made : (end : CallEnd) → CallOutcome end F J tally call → status_of end ≢ 1 → status_of end ≢ 3 → status_of end ≢ 4 → status_of end ≢ 9 → MadeAll call
  made (Satisfiable model) o a b c d = made_all (Satisfiable model) o (made_started o.outcome.started)
  made Unsatisfiable o a b c d = made_all Unsatisfiable o (made_started o.outcome.started)
  made Unknown o a b c d = made_all Unknown o (made_started o.outcome.started)
  made Usage o a b c d = absurd (a refl)
  made (BadInput code line) o a b c d = made_all (BadInput code line) o (there (HoldsLog (search_in call).format F.clauses J 0) call.proof o.outcome.unread.log)
  made CannotOpen o a b c d = absurd (b refl)
  made CannotCreate o a b c d = absurd (c refl)
  made ReadFault o a b c d = made_all ReadFault o (made_broken o.outcome.2)
  made WriteFault o a b c d = made_all WriteFault o (made_started o.outcome.started)
  made ProofFault o a b c d = made_all ProofFault o (made_started o.outcome.started)
  made (Room lack) o a b c d = made_all (Room lack) o (made_started o.outcome.started)
  made Memory o a b c d = absurd (d refl)

  pub given : WasGiven (run_of call).plan.make (text_of call) F → WasGiven (make_number (command_of call.words)) (text_of call) F
  given = subst (λ (m : Option ℕ). WasGiven m (text_of call) F) (planned (command_of call.words))

  started : {kind : Option ℕ} {lack : NoRoom} → IsStarted kind lack F J tally (run_of call) → HasJournal F J call
  started s = record { stands = s.journal_stands; of_input = inr (given s.given); searched = s.searched; log = if_there (HoldsLog (search_in call).format F.clauses J s.searched) call.proof s.log }

  nothing_stands : J ≡ [] → IsJournal (search_in call).threads (has_hints (search_in call).format) F.clauses J
  nothing_stands none = subst (IsJournal (search_in call).threads (has_hints (search_in call).format) F.clauses) (sym none) (empty_journal (search_in call).threads (has_hints (search_in call).format) F.clauses)

  unread : IsUnread F J (run_of call) → HasJournal F J call
  unread u = record { stands = nothing_stands u.nothing; of_input = inl u.nothing; searched = 0; log = if_there (HoldsLog (search_in call).format F.clauses J 0) call.proof u.log }

  barren : IsBarren J tally call → HasJournal F J call
  barren b = record { stands = nothing_stands b.nothing; of_input = inl b.nothing; searched = 0; log = if_none (HoldsLog (search_in call).format F.clauses J 0) call.proof b.no_proof }

  stopped : (IsStill call.files × IsIdle J tally call) ⊎ IsWhole Memory F J tally call → HasJournal F J call
  stopped (inl h) = barren h.1.barren
  stopped (inr o) = ⊎_elim (λ (b : IsStill (source_of call) × IsBroken F J tally (run_of call)). unread b.1.unread) (λ (s : IsStarved F J tally (run_of call) ⊎ IsUnchecked F J tally (run_of call)). ⊎_elim (λ (x : IsStarved F J tally (run_of call)). started x.started) (λ (x : IsUnchecked F J tally (run_of call)). started x.started) s) o.outcome

  journaled : (end : CallEnd) → CallOutcome end F J tally call → HasJournal F J call
  journaled (Satisfiable model) o = started o.outcome.started
  journaled Unsatisfiable o = started o.outcome.started
  journaled Unknown o = started o.outcome.started
  journaled Usage o = barren o.1.barren
  journaled (BadInput code line) o = unread o.outcome.unread
  journaled CannotOpen o = barren o.2.barren
  journaled CannotCreate o = barren o.3
  journaled ReadFault o = unread o.outcome.2.unread
  journaled WriteFault o = started o.outcome.started
  journaled ProofFault o = started o.outcome.started
  journaled (Room lack) o = started o.outcome.started
  journaled Memory o = stopped o

  counts_started : {kind : Option ℕ} {lack : NoRoom} → IsStarted kind lack F J tally (run_of call) → IsCounted F J tally call
  counts_started s = record {
    counts = s.counts;
    held = s.held;
    told = record { learned = ap (λ (t : Tally). t.learned) s.tally_is; offered = ap (λ (t : Tally). t.offered) s.tally_is; exported = ap (λ (t : Tally). t.exported) s.tally_is };
  }

  -- no ring was to start
  counts_none : (t : Tally) → tally ≡ t → t.learned ≡ [] → t.offered ≡ [] → t.exported ≡ [] → J ≡ [] → IsCounted F J tally call
  counts_none t is learned offered exported none = record {
    counts = [];
    held = inl (record {
      runs = [];
      left = [];
      rounds = refl;
      due = tt;
      written = [];
      rulers = λ k d lt. absurd (omega arith);
      begun = None;
      journal_is = none;
      within = few_of_none (search_in call).threads (search_in call).conflicts J none;
      counts = [];
      tallied = tt;
      tally_is = inr (refl, refl);
    });
    told = record { learned = ap (λ (u : Tally). u.learned) is ∙ learned; offered = ap (λ (u : Tally). u.offered) is ∙ offered; exported = ap (λ (u : Tally). u.exported) is ∙ exported };
  }

  counts_no_tally : tally ≡ no_tally → J ≡ [] → IsCounted F J tally call
  counts_no_tally is none = counts_none no_tally is refl refl refl none

  counts_stopped : (IsStill call.files × IsIdle J tally call) ⊎ IsWhole Memory F J tally call → IsCounted F J tally call
  counts_stopped (inl h) = counts_no_tally h.1.barren.counts h.1.barren.nothing
  counts_stopped (inr o) = ⊎_elim (λ (b : IsStill (source_of call) × IsBroken F J tally (run_of call)). counts_no_tally b.1.counts b.1.unread.nothing) (λ (s : IsStarved F J tally (run_of call) ⊎ IsUnchecked F J tally (run_of call)). ⊎_elim (λ (x : IsStarved F J tally (run_of call)). counts_started x.started) (λ (x : IsUnchecked F J tally (run_of call)). counts_started x.started) s) o.outcome

  counted : (end : CallEnd) → CallOutcome end F J tally call → IsCounted F J tally call
  counted (Satisfiable model) o = counts_started o.outcome.started
  counted Unsatisfiable o = counts_started o.outcome.started
  counted Unknown o = counts_started o.outcome.started
  counted Usage o = counts_no_tally o.1.barren.counts o.1.barren.nothing
  counted (BadInput code line) o = counts_none (bad_tally (number_of code) line) o.outcome.counts refl refl refl o.outcome.unread.nothing
  counted CannotOpen o = counts_no_tally o.2.barren.counts o.2.barren.nothing
  counted CannotCreate o = counts_no_tally o.3.counts o.3.nothing
  counted ReadFault o = counts_no_tally o.outcome.2.counts o.outcome.2.unread.nothing
  counted WriteFault o = counts_started o.outcome.started
  counted ProofFault o = counts_started o.outcome.started
  counted (Room lack) o = counts_started o.outcome.started
  counted Memory o = counts_stopped o

  module _ (apart : Apart) (must : MustAnswer call) where
    readable : (code : Code) (line : ℕ) → (run_of call).plan.make ≡ None → WasBad (text_of call) code line → ⊥
    readable code line unmade bad = by must.given
      where
        by : IsSome must.command.make ⊎ IsReadable call → ⊥
        by (inl some) = unmade_some (command_of call.words) must.command must.lawful unmade some
        by (inr r) = apart r.text r.formula code line r.spelled (subst (λ (t : Option (List ℕ)). WasBad t code line) r.told bad)

    complete : (end : CallEnd) → CallOutcome end F J tally call → IsAnswer (status_of end) ⊎ (status_of end ≡ 8) ⊎ (status_of end ≡ 9)
    complete (Satisfiable model) o = search rules
    complete Unsatisfiable o = search rules
    complete Unknown o = search rules
    complete Usage o = absurd (cc (must.lawful, o.0))
    complete (BadInput code line) o = absurd (readable code line o.outcome.unmade o.outcome.bad)
    complete CannotOpen o = absurd (must.files o.0)
    complete CannotCreate o = absurd (must.files o.0)
    complete ReadFault o = absurd (must.source o.outcome.0)
    complete WriteFault o = absurd (must.out o.outcome.rose)
    complete ProofFault o = absurd (unhurt call.proof o.outcome.rose must.proof)
    complete (Room lack) o = search rules
    complete Memory o = search rules

  statuses_of : (apart : Apart) (end : CallEnd) → CallOutcome end F J tally call → Statuses call (status_of end) (model_of end) tally
  statuses_of apart end o = record {
    formula = F;
    journal = J;
    satisfiable = satisfiable end o;
    unsatisfiable = unsatisfiable end o;
    unknown = unknown end o;
    usage = usage end o;
    refused = refused end o;
    bad_input = bad_input end o;
    cannot_open = cannot_open end o;
    cannot_create = cannot_create end o;
    read_fault = read_fault end o;
    write_fault = write_fault end o;
    proof_fault = proof_fault end o;
    room = room end o;
    memory = memory end o;
    known = known end o;
    no_model = no_model end o;
    made = made end o;
    log = journaled end o;
    held = counted end o;
    complete = λ must. complete apart must end o;
  }

-- what holds at an end of a call holds at its status
pub headline : (apart : Apart) (call : Call) (end : CallEnd) (tally : Tally) (status : ℕ) (model : Option (List Bool)) → IsCall end tally call → status ≡ status_of end → model ≡ model_of end → Statuses call status model tally
headline apart call end tally status model c s m =
    let start = statuses_of c.formula c.journal tally call apart end c.outcome in
    let at_status = subst (λ (n : ℕ). Statuses call n (model_of end) tally) (sym s) start in
    subst (λ (v : Option (List Bool)). Statuses call status v tally) (sym m) at_status
