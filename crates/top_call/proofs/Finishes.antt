-- How a run over a source ends, from what its parts say.
use Rattle.std.proofs.Common.{◌≡◌, ◌≢◌, ◌∙◌, ℕ, List, [], Bool, true, false, refl, sym, ap, subst, inl, inr, arith, Some, None, Ok, Err}
use Rattle.std.specs.Prelude.{◌⊎◌, ◌≤◌, Result, IfSome, is_some}
use Rattle.std.proofs.lemmas.Bool.{true≢false}
use Rattle.std.specs.declared.option.Option.{Option}
use Rattle.io_edge.specs.Bytes.{WasFlushed}
use Rattle.io_edge.specs.Causes.{HasCause, Rose}
use Rattle.io_edge.specs.Paths.{IsEmptyWhereTold}
use Rattle.sat_words.specs.FormulaData.{FormulaData}
use Rattle.sat_words.specs.declared.line.Line.{Line}
use Rattle.sat_words.specs.declared.line.ProofFormat.{ProofFormat}
use Rattle.sat_words.specs.declared.shared.NoRoom.{NoRoom}
use Rattle.sat_words.specs.declared.shared.TheConstants.{STOP_ROOM, STOP_PROOF}
use Rattle.rup_model.specs.Log.{Accepted}
use Rattle.rup_model.specs.declared.journal.Entry.{Entry}
use Rattle.ring_run.specs.declared.job.Counts.{Counts}
use Rattle.portfolio_run.specs.declared.answer.Answer.{Answer}
use Rattle.portfolio_run.specs.declared.answer.Answer.TheVariants.{Sat, Unsat, NoHole}
use Rattle.portfolio_run.specs.declared.answer.Answer.TheVariants as answer
use Rattle.portfolio_run.specs.declared.plan.Plan.{Plan as SearchPlan}
use Rattle.portfolio_run.specs.Held.{IsHeld}
use Rattle.portfolio_run.specs.Ruled.{schedule_of, IsRuledThrough}
use Rattle.portfolio_run.specs.Rulings.{work_after}
use Rattle.portfolio_run.specs.Solved.{Holds, FaultsFit, IsTold, IsFinished, IsSolved, is_verdict, kind_of, unfinished}
use Rattle.top_call.specs.declared.plan.CallPlan.{CallPlan}
use Rattle.top_call.specs.declared.report.Tally.{Tally}
use Rattle.top_call.specs.declared.report.CallEnd.{CallEnd}
use Rattle.top_call.specs.declared.report.SearchVerdict.{SearchVerdict}
use Rattle.top_call.specs.declared.report.SearchVerdict.TheVariants.{Satisfiable, Unsatisfiable, Unknown}
use Rattle.top_call.specs.declared.report.CallEnd.TheVariants.{ProofFault, Room, Memory}
use Rattle.dimacs_read.specs.declared.stop.ReadStop.{ReadStop}
use Rattle.dimacs_read.specs.declared.stop.ReadStop.TheVariants.{Bad, ReadFault}
use Rattle.dimacs_read.specs.declared.stop.ReadStop.TheVariants as read_stop
use Rattle.dimacs_read.specs.Answer.{IsAnswer}
use Rattle.top_call.specs.Ends.{end_of, end_of_read}
use Rattle.top_call.specs.Run.{Run, FaultCount, Writer, Output, RoseIn, IsStill}
use Rattle.top_call.specs.Journaled.{HoldsLog}
use Rattle.top_call.specs.Finished.{Finishes}
use Rattle.top_call.specs.Decided.{Decides, verdict_kind}
use Rattle.top_call.specs.Concluded.{IsVerdictOf}
use Rattle.top_call.specs.Occurring.{IsOccurring}
use Rattle.top_call.specs.Tallied.{no_tally, no_lack, zero_tally, rings_tally, counted, noted, AreLearned}
use Rattle.top_call.specs.Input.{WasGiven}
use Rattle.top_call.specs.Outcome.{RunOutcome, IsRun, IsUnread, IsStarted, IsVerdictKind, IsAnswered, printed_of}
use Rattle.top_call.proofs.Journals.{empty_log}
use Rattle.top_call.proofs.Checks.{kept_accepted}
use Rattle.top_call.proofs.Models.{cleared, has_both, both}
use Rattle.top_call.proofs.Tallies.{each_counted, long_each, sizes, held_each, stop_each, ruled_each, faults_each, holds_each, are_learned, counted_is}

-- a formula for a run that reads none
abbrev pub no_formula : FormulaData
no_formula = record { vars = 0; clauses = [] }

-- no formula was read, and the proof was flushed
pub unread : {T E : Type 0} (plan : CallPlan) (text : Option (List ℕ)) (source : FaultCount) (out : Output) (f0 f1 : ℕ) (w0 w1 fl0 fl1 : Option (List ℕ)) (result : Result T E)
    → f0 ≡ 0 → IsEmptyWhereTold w0 → w1 ≡ w0 → HasCause f0 f1 result → WasFlushed w1 fl0 fl1 result
    → IsUnread no_formula [] (record { plan = plan; text = text; source = source; proof = Some (record { faults = f1; written = w1; flushed = fl1 }); out = out })
unread plan text source out f0 f1 w0 w1 fl0 fl1 result quiet empty same cause flush =
    let none : IsEmptyWhereTold w1 = subst IsEmptyWhereTold (sym same) empty in
    record { log = empty_log plan.search.format f0 f1 w1 fl0 fl1 result quiet none cause flush; nothing = refl; empty = none }

-- ---- the answer of the rings

-- an answer that is a verdict holds, in a run in which the simplifiers came to their end
found_verdict : (plan : SearchPlan) (vars : ℕ) (F : FormulaData) (J : List Entry) (counts : List Counts) (held : IsHeld plan.threads plan.slots plan.round plan.conflicts F.clauses J counts) (found : Answer) (occurring : List Bool) → IsOccurring F.clauses F.vars occurring → is_verdict found ≡ true → Holds plan vars F J held found → IsRuledThrough F (schedule_of plan) J
    → IsVerdictKind (kind_of found) plan F J
found_verdict plan vars F J counts held (Sat model) occurring occurs is holds ruled =
    record { decided = record { verdict = Satisfiable (both occurring model); decides = record { holds = cleared F occurring model (both occurring model) holds occurs (has_both occurring model); ruled = ruled } }; kind_is = refl }
found_verdict plan vars F J counts held Unsat occurring occurs is holds ruled = record { decided = record { verdict = Unsatisfiable; decides = record { holds = holds; ruled = ruled } }; kind_is = refl }
found_verdict plan vars F J counts held answer.Unknown occurring occurs is holds ruled = record { decided = record { verdict = Unknown; decides = record { holds = holds; ruled = ruled } }; kind_is = refl }
found_verdict plan vars F J counts held (NoHole lack) occurring occurs is holds ruled = absurd (let no : ⊥ = cc in no)
found_verdict plan vars F J counts held answer.ProofFault occurring occurs is holds ruled = absurd (let no : ⊥ = cc in no)
found_verdict plan vars F J counts held answer.Memory occurring occurs is holds ruled = absurd (let no : ⊥ = cc in no)

-- an answer that is no fault of the proof is that of the search
told_found : (found a : Answer) (before faults : ℕ) → IsTold found a before faults → a ≢ answer.ProofFault → a ≡ found
told_found found a before faults t other = elim t.ends [
  | inl same ↦ same
  | inr h ↦ by found h.0
]
  where
    by : (x : Answer) → a ≡ unfinished x → a ≡ x
    by (Sat model) e = absurd (other e)
    by Unsat e = absurd (other e)
    by answer.Unknown e = absurd (other e)
    by (NoHole lack) e = e
    by answer.ProofFault e = e
    by answer.Memory e = e

-- a verdict that an answer comes to holds, and is of its kind
decided : (plan : SearchPlan) (vars : ℕ) (F : FormulaData) (J : List Entry) (counts : List Counts) (held : IsHeld plan.threads plan.slots plan.round plan.conflicts F.clauses J counts) (a : Answer) (occurring : List Bool) (result : Result SearchVerdict CallEnd) (verdict : SearchVerdict)
    → IsOccurring F.clauses F.vars occurring → IsVerdictOf occurring a result → result ≡ Ok verdict → Holds plan vars F J held a → (is_verdict a ≡ true → IsRuledThrough F (schedule_of plan) J)
    → (kind_of a ≡ verdict_kind verdict) × Decides plan F J verdict
decided plan vars F J counts held (Sat model) occurring result verdict occurs is ok holds ruled =
    let same : Satisfiable is.model ≡ verdict = let e : Ok (Satisfiable is.model) ≡ result = sym is.is in cc in
    (ap verdict_kind same, subst (Decides plan F J) same (record { holds = cleared F occurring model is.model holds occurs is.both; ruled = ruled refl }))
decided plan vars F J counts held Unsat occurring result verdict occurs is ok holds ruled =
    let same : Unsatisfiable ≡ verdict = cc in
    (ap verdict_kind same, subst (Decides plan F J) same (record { holds = holds; ruled = ruled refl }))
decided plan vars F J counts held answer.Unknown occurring result verdict occurs is ok holds ruled =
    let same : Unknown ≡ verdict = cc in
    (ap verdict_kind same, subst (Decides plan F J) same (record { holds = holds; ruled = ruled refl }))
decided plan vars F J counts held (NoHole lack) occurring result verdict occurs is ok holds ruled = absurd (let no : ⊥ = cc in no)
decided plan vars F J counts held answer.ProofFault occurring result verdict occurs is ok holds ruled = absurd (let no : ⊥ = cc in no)
decided plan vars F J counts held answer.Memory occurring result verdict occurs is ok holds ruled = absurd (let no : ⊥ = cc in no)

-- an answer with a verdict is one
verdict_is : (a : Answer) (occurring : List Bool) (result : Result SearchVerdict CallEnd) (verdict : SearchVerdict) → IsVerdictOf occurring a result → result ≡ Ok verdict → is_verdict a ≡ true
verdict_is (Sat model) occurring result verdict is ok = refl
verdict_is Unsat occurring result verdict is ok = refl
verdict_is answer.Unknown occurring result verdict is ok = refl
verdict_is (NoHole lack) occurring result verdict is ok = absurd (let no : ⊥ = cc in no)
verdict_is answer.ProofFault occurring result verdict is ok = absurd (let no : ⊥ = cc in no)
verdict_is answer.Memory occurring result verdict is ok = absurd (let no : ⊥ = cc in no)

-- a verdict is no fault of the proof
sound_verdict : (a : Answer) → is_verdict a ≡ true → a ≢ answer.ProofFault
sound_verdict a is e = true≢false (sym is ∙ ap is_verdict e)

-- what the proof's writer holds after an answer
log_of : (format : ProofFormat) (F : FormulaData) (J : List Entry) (a : Answer) (searched faults : ℕ) (flushed written : Option (List ℕ)) → IsFinished format F.clauses J a 0 searched faults flushed written
    → HoldsLog format F.clauses J searched (record { faults = faults; written = written; flushed = flushed })
log_of format F J a searched faults flushed written f = record {
  poured = f.poured;
  grown = f.grown;
  closed = f.closed;
  whole = λ none. f.whole (inr (λ (rose : Rose 0 f.poured). absurd (omega (arith, none, rose))));
  short = λ some. f.short;
  front = λ none. f.front (λ (rose : Rose 0 searched). absurd (omega (arith, none, rose)));
}

-- the rings were to start, and the search's answer holds over the variables that were left
started : (plan : CallPlan) (text : Option (List ℕ)) (source : FaultCount) (out : Output) (F : FormulaData) (a : Answer) (counts : List Counts) (tally : Tally) (faults : ℕ) (flushed written : Option (List ℕ)) (kept : Option (List Line))
    → (s : IsSolved plan.search F a counts 0 faults flushed written kept) → WasGiven plan.make text F → IsStill source
    → tally ≡ rings_tally (each_counted plan.search.threads counts) no_lack
    → (started : IsStarted (kind_of s.found) no_lack F s.journal tally (record { plan = plan; text = text; source = source; proof = Some (record { faults = faults; written = written; flushed = flushed }); out = out })) × Holds plan.search (work_after started.ruled.work started.rulings).vars F s.journal started.held s.found
started plan text source out F a counts tally faults flushed written kept s given still is =
    let rings : ℕ = plan.search.threads in
    let slots : ℕ = plan.search.slots in
    let every : Option ℕ = plan.search.round in
    let limit : ℕ = plan.search.conflicts in
    let held = held_each rings slots every limit F.clauses s.journal counts s.reached.held in
    let long = long_each rings counts (sizes rings slots every limit F.clauses s.journal counts s.reached.held) in (
      record {
        given = given;
        source = still;
        journal_stands = s.reached.stands;
        ruled = s.reached.ruled;
        counts = each_counted rings counts;
        held = held;
        rulings = s.reached.rulings;
        again = ruled_each (schedule_of plan.search) s.reached.ruled.work rings slots every limit F.clauses s.journal counts s.reached.held s.reached.rulings s.reached.again;
        stop = stop_each rings slots every limit F.clauses s.journal counts s.reached.held (kind_of s.found) s.reached.stop;
        searched = s.searched;
        faults_fit = faults_each plan.search F s.journal counts s.reached.held 0 s.searched (kind_of s.found) s.reached.faults_fit;
        log = log_of plan.search.format F s.journal a s.searched faults flushed written s.finished;
        tally_is = is;
        learned = subst (λ (t : Tally). AreLearned rings limit s.journal t.learned) (sym is) (are_learned rings slots every limit F.clauses s.journal (each_counted rings counts) held long);
      },
      holds_each plan.search (work_after s.reached.ruled.work s.reached.rulings).vars F s.journal counts s.reached.held s.found s.reached.holds,
    )

-- with what there was no room for
abbrev with_lack : (kind : Option ℕ) (lack : NoRoom) (F : FormulaData) (J : List Entry) (tally : Tally) (run : Run) → IsStarted kind no_lack F J tally run → IsStarted kind lack F J (noted (Room lack) tally) run
with_lack kind lack F J tally run s = record {
  given = s.given;
  source = s.source;
  journal_stands = s.journal_stands;
  ruled = s.ruled;
  counts = s.counts;
  held = s.held;
  rulings = s.rulings;
  again = s.again;
  stop = s.stop;
  searched = s.searched;
  faults_fit = s.faults_fit;
  log = s.log;
  tally_is = ap (noted (Room lack)) s.tally_is;
  learned = s.learned;
}

-- a fault of the proof is that of the search, or comes after a verdict
fault_found : (plan : SearchPlan) (vars : ℕ) (F : FormulaData) (J : List Entry) (counts : List Counts) (held : IsHeld plan.threads plan.slots plan.round plan.conflicts F.clauses J counts) (found : Answer) (occurring : List Bool) (faults : ℕ) → IsOccurring F.clauses F.vars occurring → IsTold found answer.ProofFault 0 faults → Holds plan vars F J held found
    → (is_verdict found ≡ true → IsRuledThrough F (schedule_of plan) J) → (kind_of found ≡ Some STOP_PROOF) ⊎ IsVerdictKind (kind_of found) plan F J
fault_found plan vars F J counts held (Sat model) occurring faults occurs t holds ruled = inr (found_verdict plan vars F J counts held (Sat model) occurring occurs refl holds (ruled refl))
fault_found plan vars F J counts held Unsat occurring faults occurs t holds ruled = inr (found_verdict plan vars F J counts held Unsat occurring occurs refl holds (ruled refl))
fault_found plan vars F J counts held answer.Unknown occurring faults occurs t holds ruled = inr (found_verdict plan vars F J counts held answer.Unknown occurring occurs refl holds (ruled refl))
fault_found plan vars F J counts held (NoHole lack) occurring faults occurs t holds ruled = elim t.ends [
  | inl e ↦ absurd (let no : ⊥ = cc in no)
  | inr h ↦ absurd (let e = h.0 in let no : ⊥ = cc in no)
]
fault_found plan vars F J counts held answer.ProofFault occurring faults occurs t holds ruled = inl refl
fault_found plan vars F J counts held answer.Memory occurring faults occurs t holds ruled = elim t.ends [
  | inl e ↦ absurd (let no : ⊥ = cc in no)
  | inr h ↦ absurd (let e = h.0 in let no : ⊥ = cc in no)
]

-- and the sink has failed
fault_rose : (plan : SearchPlan) (F : FormulaData) (J : List Entry) (tally : List Counts) (held : IsHeld plan.threads plan.slots plan.round plan.conflicts F.clauses J tally) (found : Answer) (searched faults : ℕ) → IsTold found answer.ProofFault 0 faults → FaultsFit plan F J held 0 searched (kind_of found) → searched ≤ faults → Rose 0 faults
fault_rose plan F J tally held found searched faults t fit later = elim t.ends [
  | inl e ↦ (let rose : Rose 0 searched = fit.rose (ap kind_of (sym e)) in omega (arith, rose, later))
  | inr h ↦ h.1
]

-- the rings came to no verdict
stopped : (end : CallEnd) (plan : CallPlan) (text : Option (List ℕ)) (source : FaultCount) (out : Output) (F : FormulaData) (a : Answer) (counts : List Counts) (faults : ℕ) (flushed written : Option (List ℕ)) (kept : Option (List Line))
    (occurring : List Bool) (result : Result SearchVerdict CallEnd) (before tally : Tally) → IsOccurring F.clauses F.vars occurring
    → IsVerdictOf occurring a result → result ≡ Err end → (s : IsSolved plan.search F a counts 0 faults flushed written kept) → tally ≡ noted end before → IsStill out.faults
    → (started : IsStarted (kind_of s.found) no_lack F s.journal before (record { plan = plan; text = text; source = source; proof = Some (record { faults = faults; written = written; flushed = flushed }); out = out })) × Holds plan.search (work_after started.ruled.work started.rulings).vars F s.journal started.held s.found
    → RunOutcome end F s.journal tally (record { plan = plan; text = text; source = source; proof = Some (record { faults = faults; written = written; flushed = flushed }); out = out })
stopped end plan text source out F a counts faults flushed written kept occurring result before tally occurs is err s noted_is still began = by a is s.told
  where
    run : Run
    run = record { plan = plan; text = text; source = source; proof = Some (record { faults = faults; written = written; flushed = flushed }); out = out }

    as_end : (e : CallEnd) → e ≡ end → RunOutcome e F s.journal (noted e before) run → RunOutcome end F s.journal tally run
    as_end e same o = subst (λ (t : Tally). RunOutcome end F s.journal t run) (sym noted_is) (subst (λ (x : CallEnd). RunOutcome x F s.journal (noted x before) run) same o)

    -- the rings were to start, and this answer holds
    Began : Answer → Type 0
    Began b = (started : IsStarted (kind_of b) no_lack F s.journal before run) × Holds plan.search (work_after started.ruled.work started.rulings).vars F s.journal started.held b

    at_kind : (b : Answer) → b ≡ s.found → Began b
    at_kind b same = subst Began (sym same) began

    later : s.searched ≤ faults
    later = let g = s.finished.grown in omega (arith, g)

    by : (b : Answer) → IsVerdictOf occurring b result → IsTold s.found b 0 faults → RunOutcome end F s.journal tally run
    by (Sat model) i t = absurd (let e = i.is in let no : ⊥ = cc in no)
    by Unsat i t = absurd (let no : ⊥ = cc in no)
    by answer.Unknown i t = absurd (let no : ⊥ = cc in no)
    by (NoHole lack) i t =
        let k = at_kind (NoHole lack) (told_found s.found (NoHole lack) 0 faults t (λ e. cc e)) in
        as_end (Room lack) (let e : Room lack ≡ end = cc in e) (record { started = with_lack (Some STOP_ROOM) lack F s.journal before run k.0; room = k.1.0; unsettled = k.1.1 })
    by answer.ProofFault i t = as_end ProofFault (let e : ProofFault ≡ end = cc in e) (record {
      kind = kind_of s.found;
      started = began.0;
      failed = fault_found plan.search (work_after s.reached.ruled.work s.reached.rulings).vars F s.journal counts s.reached.held s.found occurring faults occurs t s.reached.holds s.reached.through;
      rose = fault_rose plan.search F s.journal _ s.reached.held s.found s.searched faults t s.reached.faults_fit later;
    })
    by answer.Memory i t =
        let k = at_kind answer.Memory (told_found s.found answer.Memory 0 faults t (λ e. cc e)) in
        as_end Memory (let e : Memory ≡ end = cc in e) (inr (inl (record { started = k.0; unsettled = k.1; out = still })))

-- ---- the verdict printed

answered_end : (verdict : SearchVerdict) (F : FormulaData) (J : List Entry) (tally : Tally) (run : Run) → IsAnswered verdict F J tally run → RunOutcome (end_of verdict) F J tally run
answered_end (Satisfiable model) F J tally run a = a
answered_end Unsatisfiable F J tally run a = a
answered_end Unknown F J tally run a = a

-- a verdict was reached, and the proof didn't fail
finished : (verdict : SearchVerdict) (told : CallEnd) (plan : CallPlan) (F : FormulaData) (J : List Entry) (tally : Tally) (text : Option (List ℕ)) (source : FaultCount) (out : Output) (writer : Writer)
    → writer.faults ≡ 0 → Decides plan.search F J verdict → Finishes (printed_of plan F verdict) plan.search.keep_lines verdict told out
    → IsStarted (verdict_kind verdict) no_lack F J tally (record { plan = plan; text = text; source = source; proof = Some writer; out = out })
    → RunOutcome told F J tally (record { plan = plan; text = text; source = source; proof = Some writer; out = out })
finished verdict told plan F J tally text source out writer none decided (inl h) s =
    let run : Run = record { plan = plan; text = text; source = source; proof = Some writer; out = out } in
    subst (λ (e : CallEnd). RunOutcome e F J tally run) (sym h.is)
    (answered_end verdict F J tally run (record { started = s; decided = decided; printed = h.printed; quiet = record { proof = none; out = h.out } }))
finished verdict told plan F J tally text source out writer none decided (inr (inl h)) s =
    let run : Run = record { plan = plan; text = text; source = source; proof = Some writer; out = out } in
    subst (λ (e : CallEnd). RunOutcome e F J tally run) (sym h.is)
    (record { started = s; verdict = verdict; decided = decided; proof = none; printed = h.printed; rose = h.rose })
finished verdict told plan F J tally text source out writer none decided (inr (inr h)) s =
    let run : Run = record { plan = plan; text = text; source = source; proof = Some writer; out = out } in
    subst (λ (e : CallEnd). RunOutcome e F J tally run) (sym h.is)
    (inr (inr (record { asked = h.asked; started = s; decided = record { verdict = verdict; decides = decided }; quiet = record { proof = none; out = h.out } })))

-- ---- the whole search

-- the tally after an answer
told : (plan : SearchPlan) (F : FormulaData) (a : Answer) (counts : List Counts) (faults : ℕ) (flushed written : Option (List ℕ)) (kept : Option (List Line)) (before after : Tally)
    → IsSolved plan F a counts 0 faults flushed written kept → before ≡ zero_tally plan.threads → after ≡ counted counts before → after ≡ rings_tally (each_counted plan.threads counts) no_lack
told plan F a counts faults flushed written kept before after s zeros is = is ∙ ap (counted counts) zeros ∙ counted_is plan.threads counts (sizes plan.threads plan.slots plan.round plan.conflicts F.clauses s.journal counts s.reached.held)

-- a verdict was reached
pub verdict_run : (plan : CallPlan) (text : Option (List ℕ)) (source : FaultCount) (out : Output) (F : FormulaData) (a : Answer) (counts : List Counts) (f0 faults : ℕ) (flushed written : Option (List ℕ)) (kept : Option (List Line)) (before tally : Tally) (occurring : List Bool) (result : Result SearchVerdict CallEnd) (verdict : SearchVerdict) (end : CallEnd)
    → f0 ≡ 0 → IsSolved plan.search F a counts f0 faults flushed written kept
    → before ≡ zero_tally plan.search.threads → tally ≡ counted counts before
    → IsOccurring F.clauses F.vars occurring → IsVerdictOf occurring a result → result ≡ Ok verdict → Finishes (printed_of plan F verdict) plan.search.keep_lines verdict end out
    → WasGiven plan.make text F → IsStill source
    → IsRun end tally (record { plan = plan; text = text; source = source; proof = Some (record { faults = faults; written = written; flushed = flushed }); out = out })
verdict_run plan text source out F a counts f0 faults flushed written kept before tally occurring result verdict end none solved zeros is occurs of_answer ok finishes given still =
    let run : Run = record { plan = plan; text = text; source = source; proof = Some (record { faults = faults; written = written; flushed = flushed }); out = out } in
    let s : IsSolved plan.search F a counts 0 faults flushed written kept = subst (λ (n : ℕ). IsSolved plan.search F a counts n faults flushed written kept) none solved in
    let v : is_verdict a ≡ true = verdict_is a occurring result verdict of_answer ok in
    let same : a ≡ s.found = told_found s.found a 0 faults s.told (sound_verdict a v) in
    let vars : ℕ = (work_after s.reached.ruled.work s.reached.rulings).vars in
    let holds : Holds plan.search vars F s.journal s.reached.held a = subst (Holds plan.search vars F s.journal s.reached.held) (sym same) s.reached.holds in
    let h = decided plan.search vars F s.journal counts s.reached.held a occurring result verdict occurs of_answer ok holds (λ e. s.reached.through (sym (ap is_verdict same) ∙ e)) in
    let began = started plan text source out F a counts tally faults flushed written kept s given still (told plan.search F a counts faults flushed written kept before tally s zeros is) in
    record {
      formula = F;
      journal = s.journal;
      outcome = finished verdict end plan F s.journal tally text source out (record { faults = faults; written = written; flushed = flushed }) (s.told.quiet v) h.1 finishes
          (subst (λ (k : Option ℕ). IsStarted k no_lack F s.journal tally run) (sym (ap kind_of same) ∙ h.0) began.0);
    }

-- none was
pub stopped_run : (plan : CallPlan) (text : Option (List ℕ)) (source : FaultCount) (out : Output) (F : FormulaData) (a : Answer) (counts : List Counts) (f0 faults : ℕ) (flushed written : Option (List ℕ)) (kept : Option (List Line)) (before between tally : Tally) (occurring : List Bool) (result : Result SearchVerdict CallEnd) (end : CallEnd)
    → f0 ≡ 0 → IsSolved plan.search F a counts f0 faults flushed written kept
    → before ≡ zero_tally plan.search.threads → between ≡ counted counts before → tally ≡ noted end between
    → IsOccurring F.clauses F.vars occurring → IsVerdictOf occurring a result → result ≡ Err end → IsStill out.faults
    → WasGiven plan.make text F → IsStill source
    → IsRun end tally (record { plan = plan; text = text; source = source; proof = Some (record { faults = faults; written = written; flushed = flushed }); out = out })
stopped_run plan text source out F a counts f0 faults flushed written kept before between tally occurring result end none solved zeros is noted_is occurs of_answer err same given still =
    let s : IsSolved plan.search F a counts 0 faults flushed written kept = subst (λ (n : ℕ). IsSolved plan.search F a counts n faults flushed written kept) none solved in
    record {
      formula = F;
      journal = s.journal;
      outcome = stopped end plan text source out F a counts faults flushed written kept occurring result between tally occurs of_answer err s noted_is same
          (started plan text source out F a counts between faults flushed written kept s given still (told plan.search F a counts faults flushed written kept before between s zeros is));
    }

-- the lines that are kept at a verdict are those of the log
pub kept_lines : (plan : SearchPlan) (F : FormulaData) (a : Answer) (counts : List Counts) (before faults : ℕ) (flushed written : Option (List ℕ)) (kept : Option (List Line)) (occurring : List Bool) (result : Result SearchVerdict CallEnd) (verdict : SearchVerdict)
    → IsVerdictOf occurring a result → result ≡ Ok verdict → IsSolved plan F a counts before faults flushed written kept → (is_some kept ≡ plan.keep_lines) × IfSome kept (Accepted F.clauses)
kept_lines plan F a counts before faults flushed written kept occurring result verdict of_answer ok s =
    (same_asked plan.keep_lines refl, kept_accepted F.clauses s.journal kept s.lines_are.are s.reached.stands.accepted)
  where
    v : is_verdict a ≡ true
    v = verdict_is a occurring result verdict of_answer ok

    same_asked : (asked : Bool) → plan.keep_lines ≡ asked → is_some kept ≡ asked
    same_asked true e = s.lines_are.there e (λ m. true≢false (sym v ∙ ap is_verdict m)) (inl v)
    same_asked false e = by (is_some kept) refl
      where
        by : (x : Bool) → is_some kept ≡ x → x ≡ false
        by true some = absurd (true≢false (sym (s.lines_are.asked_for some) ∙ e))
        by false some = refl

-- ---- nothing read

read_cases : (stop : ReadStop) (tally : Tally) (rest : Option (List ℕ)) (run : Run)
    → run.plan.make ≡ None → IsAnswer run.text rest (Err stop)
    → (stop ≢ ReadFault → IsStill run.source) → (stop ≡ ReadFault → RoseIn run.source)
    → tally ≡ noted (end_of_read stop) no_tally → IsStill run.out.faults
    → IsUnread no_formula [] run
    → RunOutcome (end_of_read stop) no_formula [] tally run
read_cases (Bad code line) tally rest run unmade bad still rose counts unprinted u = record { unmade = unmade; bad = bad; counts = counts; source = still (λ e. cc e); unread = u }
read_cases ReadFault tally rest run unmade bad still rose counts unprinted u = (rose refl, unmade, record { unread = u; counts = counts; out = unprinted })
read_cases read_stop.Memory tally rest run unmade bad still rose counts unprinted u = inl (still (λ e. cc e), record { unread = u; counts = counts; out = unprinted })

-- nothing was read
pub unread_end : (stop : ReadStop) (end : CallEnd) (before tally : Tally) (rest : Option (List ℕ)) (run : Run)
    → end ≡ end_of_read stop
    → run.plan.make ≡ None → IsAnswer run.text rest (Err stop)
    → (stop ≢ ReadFault → IsStill run.source) → (stop ≡ ReadFault → RoseIn run.source)
    → before ≡ no_tally → tally ≡ noted end before → IsStill run.out.faults
    → IsUnread no_formula [] run
    → RunOutcome end no_formula [] tally run
unread_end stop end before tally rest run is unmade bad still rose none counts unprinted u =
    subst (λ (e : CallEnd). RunOutcome e no_formula [] tally run) (sym is)
    (read_cases stop tally rest run unmade bad still rose (counts ∙ ap (λ (e : CallEnd). noted e before) is ∙ ap (noted (end_of_read stop)) none) unprinted u)
