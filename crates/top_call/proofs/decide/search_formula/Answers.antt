use Rattle.std.proofs.Common.{◌≡◌, ◌≤◌, ◌∙◌, List, length, ap, sym, subst, refl, Some, None}
use Rattle.std.specs.Prelude.{is_some}
use Rattle.std.specs.Option.{option_map}
use Rattle.std.specs.declared.option.Option.{Option}
use Rattle.ring_run.specs.declared.job.Counts.{Counts}
use Rattle.top_call.specs.Tallied.{HasRings, counted}
use Rattle.top_call.proofs.Finishes.{verdict_run, stopped_run, kept_lines}
use Rattle.top_call.proofs.Tallies.{sizes, fits_zero}
use Rattle.top_call.proofs.decide.search_formula.Goals as goal

some_mapped : {A B : Type 0} (f : A → B) (o : Option A) → is_some o ≡ is_some (option_map f o)
some_mapped f None = refl
some_mapped f (Some x) = refl

pub count-requires : goal.count-requires
count-requires g c =
    let plan = c.args.plan.now.search in
    let solved = c.solve-answer.ensures.solved in
    let counts = c.solve-answer.result.tally.items in
    subst (λ (cs : List Counts). HasRings (length c.args.tally.now.learned) c.args.tally.now × (length cs ≤ length c.args.tally.now.learned)) (sym c.as_slice.ensures.value)
    (fits_zero plan.threads counts c.args.tally.now c.requires.started (sizes plan.threads plan.slots plan.round plan.conflicts c.args.formula.now.clauses solved.journal counts solved.reached.held))

pub finish-requires-clause-kept : goal.finish-requires-clause-kept
finish-requires-clause-kept g c =
    some_mapped (λ v. v.items) c.solve-answer.result.lines
    ∙ (kept_lines c.args.plan.now.search c.args.formula.now _ _ _ _ _ _ (option_map (λ v. v.items) c.solve-answer.result.lines) _ _ c.in-Ok.verdict c.verdict_of.ensures c.in-Ok.is c.solve-answer.ensures.solved).0

pub finish-requires-clause-accepted : goal.finish-requires-clause-accepted
finish-requires-clause-accepted g c =
    (kept_lines c.args.plan.now.search c.args.formula.now _ _ _ _ _ _ (option_map (λ v. v.items) c.solve-answer.result.lines) _ _ c.in-Ok.verdict c.verdict_of.ensures c.in-Ok.is c.solve-answer.ensures.solved).1

pub returns-in-Ok-clause-outcome : goal.returns-in-Ok-clause-outcome
returns-in-Ok-clause-outcome g c = λ text source given still.
    let solved = c.solve-answer.ensures in
    let tally : c.count.new.self ≡ counted c.solve-answer.result.tally.items c.args.tally.now = c.count.ensures ∙ ap (λ cs. counted cs c.args.tally.now) c.as_slice.ensures.value in
    verdict_run c.args.plan.now text source _ c.args.formula.now _ _ _ _ _ _ _ _ _ _ _ c.in-Ok.verdict _ c.requires.quiet solved.solved c.requires.started tally c.requires.occurring c.verdict_of.ensures c.in-Ok.is c.finish.ensures.finishes given still

pub returns-clause-outcome : goal.returns-clause-outcome
returns-clause-outcome g c = λ text source given still.
    let solved = c.solve-answer.ensures in
    let tally : c.count.new.self ≡ counted c.solve-answer.result.tally.items c.args.tally.now = c.count.ensures ∙ ap (λ cs. counted cs c.args.tally.now) c.as_slice.ensures.value in
    stopped_run c.args.plan.now text source _ c.args.formula.now _ _ _ _ _ _ _ _ _ _ _ _ _ c.requires.quiet solved.solved c.requires.started tally c.note.ensures c.requires.occurring c.verdict_of.ensures c.in-Err.is refl given still
