use Rattle.test_search.proofs.AnalysisTrails.{steps_are}
use Rattle.test_search.proofs.analysis.trail_to_conflict.Goals as goal

pub returns-clause-steps : goal.returns-clause-steps
returns-clause-steps c =
    let a = rw c.new-2.ensures at c.decide.ensures.step in
    let b = rw c.new-3.ensures at c.assign.ensures.step in
    let d = rw c.new-4.ensures at c.decide-2.ensures.step in
    let e = rw c.new-5.ensures at c.assign-2.ensures.step in
    steps_are c.args.neg c.args.address _ _ _ _ _ c.in_ok-trail.ensures.empty a b d e
