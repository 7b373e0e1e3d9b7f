use Rattle.ring_run.proofs.Finishing.{asked_ring, asked_then, finished_refused, finished_memory, finished_on}
use Rattle.ring_run.proofs.Tidying.{held_stays}
use Rattle.ring_run.proofs.lemma.finish_conflict.Goals as goal

pub leave_conflict-requires-clause-held : goal.leave_conflict-requires-clause-held
leave_conflict-requires-clause-held g c = held_stays (g.P.Port.state c.args.port.now) (g.P.Port.state c.tidy_up.new.port) c.args.address c.tidy_up.ensures.held c.requires.held

pub returns-in-Err-clause-finished : goal.returns-in-Err-clause-finished
returns-in-Err-clause-finished g c =
    let s = g.P.Port.state c.args.port.now in
    let w = g.P.Port.state c.tidy_up.new.port in
    let old = c.args.ring.now in
    finished_refused s w old (asked_ring old c.due-ring.new.self c.due-ring.result) c.args.lits.now c.args.back c.args.address c.in-Err.stop c.end_refused.result c.end_refused.ensures
    (c.in-Err.ensures.over) c.in-Err.ensures.some
    (asked_then s w old c.due-ring.new.self c.due-ring.result c.due-ring.ensures.asked c.due-ring.ensures.due c.tidy_up.ensures.nothing c.tidy_up.ensures.held c.tidy_up.ensures.looks)

pub returns-in-Ok-leave_conflict-clause-finished : goal.returns-in-Ok-leave_conflict-clause-finished
returns-in-Ok-leave_conflict-clause-finished g c =
    let s = g.P.Port.state c.args.port.now in
    let w = g.P.Port.state c.tidy_up.new.port in
    let old = c.args.ring.now in
    let r = c.due-ring.new.self in
    let due = c.due-ring.result in
    let new = c.leave_conflict.new.ring in
    let left = c.leave_conflict.ensures in
    finished_on s w (g.P.Port.state c.leave_conflict.new.port) old r due new c.args.lits.now c.args.back c.args.address left.same
    (record { learned = left.learned; restarts = left.restarts; import_due = left.import_due; active = left.active; offers = left.offers })
    (asked_then s w old r due c.due-ring.ensures.asked c.due-ring.ensures.due c.tidy_up.ensures.nothing c.tidy_up.ensures.held c.tidy_up.ensures.looks)
    c.in-Ok.ensures.ok c.in-Ok.ensures.wrote c.in-Ok.ensures.seen c.in-Ok.ensures.tidied c.in-Ok.ensures.lines c.in-Ok-leave_conflict.ensures.left

pub returns-in-Err-leave_conflict-clause-finished : goal.returns-in-Err-leave_conflict-clause-finished
returns-in-Err-leave_conflict-clause-finished g c =
    let s = g.P.Port.state c.args.port.now in
    let w = g.P.Port.state c.tidy_up.new.port in
    let old = c.args.ring.now in
    let r = c.due-ring.new.self in
    let due = c.due-ring.result in
    let new = c.leave_conflict.new.ring in
    let left = c.leave_conflict.ensures in
    finished_memory s w (g.P.Port.state c.leave_conflict.new.port) old r due new c.args.lits.now c.args.back c.args.address left.same
    (record { learned = left.learned; restarts = left.restarts; import_due = left.import_due; active = left.active; offers = left.offers })
    (asked_then s w old r due c.due-ring.ensures.asked c.due-ring.ensures.due c.tidy_up.ensures.nothing c.tidy_up.ensures.held c.tidy_up.ensures.looks)
    c.in-Ok.ensures.ok c.in-Ok.ensures.lines
