use Rattle.std.proofs.Common.{◌∙◌, arith}
use Rattle.ring_pass.proofs.BuriesHere.{may_bury, buried_none, buried_more}
use Rattle.ring_pass.proofs.burials.bury_first.Goals as goal

pub loop-i-init : goal.loop-i-init
loop-i-init g c = buried_none c.args.pass.now.me.0 c.args.turn.now c.args.waiting.now c.requires.turn c.requires.none

pub bury-requires-clause-note : goal.bury-requires-clause-note
bury-requires-clause-note g c =
    let lt = c.loop-i-test.true in
    let few = c.requires.count in
    (may_bury c.args.pass.now.me.0 c.loop-i.turn c.args.waiting.now c.loop-i.i c.index-waiting-i.result c.requires.waiting c.loop-i.invariant.noted (omega arith) c.index-waiting-i.is).0

pub bury-requires-clause-number : goal.bury-requires-clause-number
bury-requires-clause-number g c =
    let lt = c.loop-i-test.true in
    let few = c.requires.count in
    (may_bury c.args.pass.now.me.0 c.loop-i.turn c.args.waiting.now c.loop-i.i c.index-waiting-i.result c.requires.waiting c.loop-i.invariant.noted (omega arith) c.index-waiting-i.is).1

pub bury-requires-clause-clause : goal.bury-requires-clause-clause
bury-requires-clause-clause g c =
    let lt = c.loop-i-test.true in
    let few = c.requires.count in
    c.as_slice.ensures.value ∙ (may_bury c.args.pass.now.me.0 c.loop-i.turn c.args.waiting.now c.loop-i.i c.index-waiting-i.result c.requires.waiting c.loop-i.invariant.noted (omega arith) c.index-waiting-i.is).2

pub loop-i-preserved : goal.loop-i-preserved
loop-i-preserved g c =
    let lt = c.loop-i-test.true in
    let few = c.requires.count in
    buried_more c.args.pass.now.me.0 c.args.turn.now c.loop-i.turn c.bury.new.self c.args.waiting.now c.loop-i.i c.index-waiting-i.result c.requires.waiting (omega arith) c.index-waiting-i.is c.loop-i.invariant c.in-Ok.ensures.added
