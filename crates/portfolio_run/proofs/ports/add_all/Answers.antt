use Rattle.std.proofs.Common.{length, length-append, ap, arith}
use Rattle.std.specs.Vec.Iter.{into_iter_items}
use Rattle.portfolio_run.proofs.ports.add_all.Goals as goal

pub push_reserved-requires : goal.push_reserved-requires
push_reserved-requires g c =
    let at = c.loop-one.invariant in
    let rest = into_iter_items c.loop-one.one-iterator in
    let all = ap length at.0 in
    let here = length-append c.loop-one.into.items rest in
    let whole = length-append c.args.into.now.items c.args.more.items in
    let steps = ap length c.in-Some.ensures.steps.0 in
    let room = c.requires.room in
    let same = at.1 in
    omega arith
