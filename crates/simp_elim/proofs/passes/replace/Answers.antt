use Rattle.std.proofs.Common.{◌∙◌}
use Rattle.simp_elim.proofs.Growing.{stopped_after}
use Rattle.simp_elim.proofs.Replacing.{made_comes, first_in, first_long, second_long, goes_b, was_replaced}
use Rattle.simp_elim.proofs.passes.replace.Goals as goal

pub add_all-requires-clause-each : goal.add_all-requires-clause-each
add_all-requires-clause-each g c = made_comes c.args.work.now c.args.lit c.args.firsts.now c.args.seconds.now c.args.made.now c.requires.replaceable

pub push_all-requires-clause-alive : goal.push_all-requires-clause-alive
push_all-requires-clause-alive g c = first_in c.args.work.now c.args.lit c.args.firsts.now c.args.seconds.now c.args.made.now c.requires.replaceable c.add_all.new.work c.in_ok-add_all.ensures.grown

pub returns-in-Err-clause-replaced : goal.returns-in-Err-clause-replaced
returns-in-Err-clause-replaced g c =
    let one = c.in-Err.ensures.stacked in
    stopped_after c.args.work.now c.add_all.new.work c.push_all.new.work c.in-Err.stop c.in_ok-add_all.ensures.grown.on ((one.0, one.1 ∙ c.in_ok-add_all.ensures.grown.on.going), one.2)

pub remove_all-requires-clause-long : goal.remove_all-requires-clause-long
remove_all-requires-clause-long g c =
    first_long c.args.work.now c.args.lit c.args.firsts.now c.args.seconds.now c.args.made.now c.requires.replaceable c.add_all.new.work c.push_all.new.work c.in_ok-add_all.ensures.grown c.in-Ok.ensures.stacked

pub returns-in-Err-remove_all-clause-replaced : goal.returns-in-Err-remove_all-clause-replaced
returns-in-Err-remove_all-clause-replaced g c =
    stopped_after c.args.work.now c.push_all.new.work c.remove_all.new.work c.in-Err-remove_all.stop
    (goes_b c.args.work.now c.args.lit c.args.firsts.now c.args.seconds.now c.args.made.now c.requires.replaceable c.add_all.new.work c.push_all.new.work c.in_ok-add_all.ensures.grown c.in-Ok.ensures.stacked)
    c.in-Err-remove_all.ensures.removed

pub remove_all-requires-in-Ok-remove_all-clause-long : goal.remove_all-requires-in-Ok-remove_all-clause-long
remove_all-requires-in-Ok-remove_all-clause-long g c =
    second_long c.args.work.now c.args.lit c.args.firsts.now c.args.seconds.now c.args.made.now c.requires.replaceable c.add_all.new.work c.push_all.new.work c.in_ok-add_all.ensures.grown c.in-Ok.ensures.stacked
    c.remove_all.new.work c.in-Ok-remove_all.ensures.removed

pub returns-in-Ok-remove_all-clause-replaced : goal.returns-in-Ok-remove_all-clause-replaced
returns-in-Ok-remove_all-clause-replaced g c =
    was_replaced c.args.work.now c.args.lit c.args.firsts.now c.args.seconds.now c.args.made.now c.requires.replaceable c.add_all.new.work c.push_all.new.work c.in_ok-add_all.ensures.grown c.in-Ok.ensures.stacked
    c.remove_all.new.work c.remove_all-in-Ok-remove_all.new.work c.in-Ok-remove_all.ensures.removed c.remove_all-in-Ok-remove_all.result c.remove_all-in-Ok-remove_all.ensures.removed
