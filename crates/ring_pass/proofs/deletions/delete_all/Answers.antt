use Rattle.std.proofs.Common.{◌∙◌, refl, arith, length}
use Rattle.ring_pass.proofs.BuriesHere.{deleted_both, some_both, rest_length, waits_rest}
use Rattle.ring_pass.proofs.DeletesHere.{deleted_none}
use Rattle.ring_pass.proofs.deletions.delete_all.Goals as goal

pub loop-done-init : goal.loop-done-init
loop-done-init g c = record { pass = (c.requires.pass.0, refl, c.requires.pass.1); deleted = deleted_none c.args.pass.now.me.0 c.requires.ring.0.0 c.requires.ring.0.1; within = omega arith }

pub write_deletions-requires-clause-waiting : goal.write_deletions-requires-clause-waiting
write_deletions-requires-clause-waiting g c = waits_rest c.args.pass.now.me.0 c.loop-done.pass.me.0 c.args.waiting.now.items c.deref.result.now c.loop-done.done c.deref.ensures.value c.loop-done.invariant.deleted c.requires.waiting

pub loop-done-preserved : goal.loop-done-preserved
loop-done-preserved g c =
    let e = c.write_deletions.ensures in
    let i = c.loop-done.invariant in
    let many = c.in-Ok.ensures.many in
    let rest = rest_length c.args.waiting.now.items c.deref.result.now c.loop-done.done c.deref.ensures.value i.within in
    record {
      pass = (e.pass.0, e.pass.1 ∙ i.pass.1, e.pass.2);
      deleted = deleted_both c.args.pass.now.me.0 c.loop-done.pass.me.0 c.write_deletions.new.pass.me.0 c.loop-done.done c.in-Ok.count i.deleted c.in-Ok.ensures.deleted;
      within = omega arith;
    }

pub returns-in-Err-clause-refused : goal.returns-in-Err-clause-refused
returns-in-Err-clause-refused g c =
    let i = c.loop-done.invariant in
    let rest = rest_length c.args.waiting.now.items c.deref.result.now c.loop-done.done c.deref.ensures.value i.within in
    some_both c.args.pass.now.me.0 c.loop-done.pass.me.0 c.write_deletions.new.pass.me.0 (length c.args.waiting.now.items) _ c.loop-done.done c.in-Err.count c.in-Err.stop i.deleted c.in-Err.ensures.refused (omega arith)
