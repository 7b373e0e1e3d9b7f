use Rattle.std.proofs.Common.{None, refl}
use Rattle.top_call.proofs.Lawful.{run_ends, file_kept, still_run}
use Rattle.top_call.proofs.top.decide.Goals as goal

pub returns-in-Some-clause-ends : goal.returns-in-Some-clause-ends
returns-in-Some-clause-ends g c = (run_ends c.decide_made-end.result.end _ _ (c.decide_made-end.ensures.outcome None (record { before = 0; after = 0 }) refl)).0

pub returns-in-Some-clause-opened : goal.returns-in-Some-clause-opened
returns-in-Some-clause-opened g c = (run_ends c.decide_made-end.result.end _ _ (c.decide_made-end.ensures.outcome None (record { before = 0; after = 0 }) refl)).1

pub returns-in-Some-clause-file_rest : goal.returns-in-Some-clause-file_rest
returns-in-Some-clause-file_rest g c = file_kept g.R.Source.left g.R.Source.faults None _ c.args.file

pub returns-in-Some-clause-input_failed : goal.returns-in-Some-clause-input_failed
returns-in-Some-clause-input_failed g c = λ e none. absurd (still_run c.decide_made-end.result.end _ _ (c.decide_made-end.ensures.outcome None (record { before = 0; after = 0 }) refl) refl e)

pub returns-in-Some-clause-file_failed : goal.returns-in-Some-clause-file_failed
returns-in-Some-clause-file_failed g c = λ e. absurd (still_run c.decide_made-end.result.end _ _ (c.decide_made-end.ensures.outcome None (record { before = 0; after = 0 }) refl) refl e)
