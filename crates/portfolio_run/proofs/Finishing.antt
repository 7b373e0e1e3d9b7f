-- An answer once its proof is finished.
use Rattle.io_edge.specs.declared.edge.Sink.{Ghosts}
use Rattle.std.proofs.Common.{◌≡◌, ◌∙◌, ◌≤◌, ℕ, Bool, true, false, List, ◌++◌, Some, None, refl, sym, ap, subst, inl, inr, arith, true≢false}
use Rattle.std.specs.Prelude.{IfSome, is_some, Result, Ok, Err, OnOk, OnErr}
use Rattle.std.specs.declared.option.Option.{Option}
use Rattle.std.specs.Io.KnownBytes.{append_known}
use Rattle.std.proofs.lemmas.Bool.{cases_Bool}
use Rattle.io_edge.specs.Bytes.{IsFront}
use Rattle.io_edge.specs.Causes.{Rose, HasCause}
use Rattle.sat_words.specs.Literal.{Literal}
use Rattle.sat_words.specs.FormulaData.{FormulaData}
use Rattle.sat_words.specs.Formats.{has_hints}
use Rattle.sat_words.specs.declared.line.Line.{Line}
use Rattle.rup_model.specs.Log.{lits_of}
use Rattle.rup_model.specs.Journal.{lines, LogSound}
use Rattle.rup_model.specs.NumberedLines.{line_of, numbered_lines}
use Rattle.rup_model.specs.declared.journal.Entry.{Entry}
use Rattle.drat_text.specs.LineState.{LineState}
use Rattle.sat_words.specs.declared.line.ProofFormat.{ProofFormat}
use Rattle.drat_text.specs.Spelling.{spelling, proof_bytes}
use Rattle.drat_text.specs.SinkData.{told_by}
use Rattle.log_book.specs.declared.book.Book.{Book}
use Rattle.log_book.specs.Books.{no_byte}
use Rattle.log_book.specs.Ended.{HasEnded}
use Rattle.log_book.specs.Kept.{HoldsText, IsFrontTold}
use Rattle.ring_run.specs.declared.job.Counts.{Counts}
use Rattle.portfolio_run.specs.declared.answer.Answer.{Answer}
use Rattle.portfolio_run.specs.declared.answer.Answer.TheVariants.{Sat, Unsat, Unknown, NoHole, ProofFault, Memory}
use Rattle.portfolio_run.specs.declared.plan.Plan.{Plan}
use Rattle.portfolio_run.specs.Journaled.{IsCutShort}
use Rattle.portfolio_run.specs.Reached.{HasReached}
use Rattle.portfolio_run.specs.Solved.{is_verdict, unfinished, IsSure, IsFinished, IsSolved}
use Rattle.portfolio_run.proofs.Cuts.{cut_short, cut_whole, front_of_front, front_of_same, front_told}
use Rattle.portfolio_run.proofs.Spelling.{spell_all}

-- if there was no byte, the text is all there is
holds_since : (told : Bool) (t : List ℕ) → HoldsText (append_known (no_byte told) t) t
holds_since true t = refl
holds_since false t = tt

from_ok : {T E P : Type 0} (r : Result T E) (x : T) → r ≡ Ok x → OnOk r P → P
from_ok {T} {E} {P} r x is h = let Q : Result T E → Type 0 = λ y. OnOk y P in subst Q is h

from_err : {T E P : Type 0} (r : Result T E) (x : E) → r ≡ Err x → OnErr r P → P
from_err {T} {E} {P} r x is h = let Q : Result T E → Type 0 = λ y. OnErr y P in subst Q is h

if_kept : (kept : Option (List Line)) (all : List Line) → ((ls : List Line) → kept ≡ Some ls → ls ≡ all) → IfSome kept (λ L. L ≡ all)
if_kept None all h = tt
if_kept (Some ls) all h = h ls refl

no_verdict : (answer : Answer) → is_verdict (unfinished answer) ≡ false
no_verdict (Sat model) = refl
no_verdict Unsat = refl
no_verdict Unknown = refl
no_verdict (NoHole lack) = refl
no_verdict ProofFault = refl
no_verdict Memory = refl

module _ {S : Type 0} {d : Ghosts S} (written flushed target : S → Option (List ℕ)) (faults : S → ℕ) (sink : S) (plan : Plan) (formula : FormulaData) (answer : Answer) (tally : List Counts) (b : Book S d)
    (h : HasReached written flushed target faults sink plan formula answer tally b) where
  abbrev F : List (List Literal)
  F = formula.clauses

  abbrev J : List Entry
  J = h.journal

  abbrev out : LineState
  out = told_by written flushed target faults b.log.lines

  still : b.log.lines.spent ≡ false → faults b.log.lines.sink ≡ faults sink
  still q = (h.records.log.whole q).quiet ∙ h.records.faults_are

  rose : b.log.lines.spent ≡ true → Rose (faults sink) (faults b.log.lines.sink)
  rose q = subst (λ (n : ℕ). Rose n (faults b.log.lines.sink)) h.records.faults_are (h.records.log.cut q).rose

  -- the bytes of the journal's lines
  abbrev all_bytes : List ℕ
  all_bytes = proof_bytes plan.format (numbered_lines F J)

  whole : b.log.lines.spent ≡ false → HoldsText out.written all_bytes
  whole q =
      let o = h.records.origin in
      let told : HoldsText out.written (proof_bytes o.format (numbered_lines F J)) =
      subst (λ (w : Option (List ℕ)). HoldsText w (proof_bytes o.format (numbered_lines F J))) (sym (h.records.log.whole q).bytes) (holds_since o.tells (proof_bytes o.format (numbered_lines F J))) in
      subst (λ (f : ProofFormat). HoldsText out.written (proof_bytes f (numbered_lines F J))) h.records.format_is told

  sound : LogSound F J
  sound = record { fits = h.reached.stands.fits; accepted = h.reached.stands.accepted; empty_last = h.reached.stands.last }

  short_cut : (now : Option (List ℕ)) → IsFront now out.written → b.log.lines.spent ≡ true → IsCutShort plan.format F J now
  short_cut now front q =
      let c = h.records.log.cut q in
      let o = h.records.origin in
      let more : List ℕ = proof_bytes o.format (numbered_lines F J) ++ spelling o.format c.line in
      let all = append_known (no_byte o.tells) more in
      subst (λ (f : ProofFormat). IsCutShort f F J now) h.records.format_is
      (cut_short o.format F J now sound (λ k. h.reached.stands.hinted (ap has_hints (sym h.records.format_is) ∙ k)) h.reached.stands.spelled c.next c.line c.one c.sound c.hinted
      (spell_all h.records.layout.vars h.records.few (lits_of (line_of c.line)) c.on)
      (front_told now all more (holds_since o.tells more) (front_of_front now out.written all front c.front)))

  short : (now : Option (List ℕ)) → IsFront now out.written → IsCutShort plan.format F J now
  short now f = elim (cases_Bool b.log.lines.spent) as (λ _. IsCutShort plan.format F J now) [
    | inl q ↦ short_cut now f q
    | inr q ↦ cut_whole plan.format F J now sound h.reached.stands.hinted h.reached.stands.spelled (front_told now out.written all_bytes (whole q) f)
  ]

  -- a sink that failed now, or before, has failed since
  risen : (now : ℕ) → faults b.log.lines.sink ≤ now → (b.log.lines.spent ≡ false → Rose (faults b.log.lines.sink) now) → Rose (faults sink) now
  risen now later failed = elim (cases_Bool b.log.lines.spent) as (λ _. Rose (faults sink) now) [
    | inl q ↦ (let r = rose q in omega arith)
    | inr q ↦ subst (λ (n : ℕ). Rose n now) (still q) (failed q)
  ]

  pub target_stays : (now : S) → target now ≡ target b.log.lines.sink → target now ≡ target sink
  target_stays now same = same ∙ h.records.log.target_is ∙ h.records.target_is

  module _ (now : S) (e : HasEnded written flushed faults b now) (bytes : IsFront (written now) out.written) where
    poured_whole : (Rose (faults sink) e.poured → ⊥) → HoldsText (written now) all_bytes
    poured_whole calm = elim (cases_Bool b.log.lines.spent) as (λ _. HoldsText (written now) all_bytes) [
      | inl q ↦ absurd (calm (subst (λ (n : ℕ). Rose (faults sink) n) (sym (e.broken q)) (rose q)))
      | inr q ↦ elim (e.whole q) [
        | inl all ↦ subst (λ (w : Option (List ℕ)). HoldsText w all_bytes) (sym all.1) (whole q)
        | inr failed ↦ absurd (calm (subst (λ (n : ℕ). Rose n e.poured) (still q) failed))
      ]
    ]

    front : (Rose (faults sink) (faults b.log.lines.sink) → ⊥) → IsFrontTold (written now) all_bytes
    front calm = elim (cases_Bool b.log.lines.spent) as (λ _. IsFrontTold (written now) all_bytes) [
      | inl q ↦ absurd (calm (rose q))
      | inr q ↦ front_told (written now) out.written all_bytes (whole q) bytes
    ]

    finished : (told : Answer) → (is_verdict told ≡ true → HoldsText (written now) all_bytes) → IsFinished plan.format F J told (faults sink) (faults b.log.lines.sink) (faults now) (flushed now) (written now)
    finished told sure = record {
      poured = e.poured;
      grown = (e.grown, e.later);
      closed = e.closed;
      whole = λ s. by s;
      front = front;
      short = short (written now) bytes;
    }
      where
        by : IsSure (faults sink) e.poured told → HoldsText (written now) all_bytes
        by (inl verdict) = sure verdict
        by (inr calm) = poured_whole calm

    -- the sink has taken all
    solved_whole : (kept : Option (List Line)) → b.log.lines.spent ≡ false → written now ≡ out.written → faults now ≡ faults b.log.lines.sink → kept ≡ b.log.kept.lines
        → IsSolved plan formula answer tally (faults sink) (faults now) (flushed now) (written now) kept
    solved_whole kept q all quiet same =
        let asked : is_some kept ≡ plan.keep_lines = ap is_some same ∙ h.asked q in
        record {
          journal = J;
          found = answer;
          searched = faults b.log.lines.sink;
          reached = h.reached;
          told = record { ends = inl refl; quiet = λ _. quiet ∙ still q };
          finished = finished answer (λ _. subst (λ (w : Option (List ℕ)). HoldsText w all_bytes) (sym all) (whole q));
          lines_are = record {
            are = if_kept kept (lines F J) (λ ls is. h.records.kept q ls (sym same ∙ is));
            asked_for = λ some. sym asked ∙ some;
            quiet = λ _. quiet ∙ still q;
            there = λ wanted other sure. asked ∙ wanted;
          };
        }

    -- it has failed
    solved_short : (told : Answer) → told ≡ unfinished answer → Rose (faults sink) (faults now) → IsSolved plan formula told tally (faults sink) (faults now) (flushed now) (written now) None
    solved_short told is failed =
        let none : is_verdict told ≡ true → ⊥ = λ v. true≢false (sym v ∙ ap is_verdict is ∙ no_verdict answer) in
        record {
          journal = J;
          found = answer;
          searched = faults b.log.lines.sink;
          reached = h.reached;
          told = record { ends = inr (is, failed); quiet = λ v. absurd (none v) };
          finished = finished told (λ v. absurd (none v));
          lines_are = record {
            are = tt;
            asked_for = λ some. absurd (true≢false (sym some));
            quiet = λ some. absurd (true≢false (sym some));
            there = λ wanted other sure. absurd (unsure told none failed sure);
          };
        }
      where
        unsure : (a : Answer) → (is_verdict a ≡ true → ⊥) → Rose (faults sink) (faults now) → IsSure (faults sink) (faults now) a → ⊥
        unsure a none r (inl v) = none v
        unsure a none r (inr calm) = calm r

  pub solved_ok : {T E : Type 0} (now : S) (r : Result T E) (x : T) (kept : Option (List Line)) → HasEnded written flushed faults b now → r ≡ Ok x → kept ≡ b.log.kept.lines
      → OnOk r ((b.log.lines.spent ≡ false) × (written now ≡ out.written) × (flushed now ≡ written now)) → (b.log.lines.spent ≡ false → HasCause (faults b.log.lines.sink) (faults now) r)
      → IsSolved plan formula answer tally (faults sink) (faults now) (flushed now) (written now) kept
  solved_ok now r x kept e is same whole cause =
      let w = from_ok r x is whole in
      solved_whole now e (subst (λ (k : Option (List ℕ)). IsFront k out.written) (sym w.1) (front_of_same out.written)) kept w.0 w.1 (from_ok r x is (cause w.0).quiet) same

  pub solved_err : {T E : Type 0} (now : S) (r : Result T E) (x : E) (told : Answer) → HasEnded written flushed faults b now → r ≡ Err x → told ≡ unfinished answer
      → OnErr r (IsFront (written now) out.written) → (b.log.lines.spent ≡ false → HasCause (faults b.log.lines.sink) (faults now) r) → faults b.log.lines.sink ≤ faults now
      → IsSolved plan formula told tally (faults sink) (faults now) (flushed now) (written now) None
  solved_err now r x told e is told_is bytes cause later = solved_short now e (from_err r x is bytes) told told_is (risen (faults now) later (λ q. from_err r x is (cause q).failed))
