use Rattle.std.proofs.Common.{◌<◌, ap, subst, arith}
use Rattle.share_core.specs.declared.part.CoreOpening.{CoreOpening}
use Rattle.portfolio_run.proofs.Gathering.{all_granted}
use Rattle.portfolio_run.proofs.Rights.{HasFirst, first_none, first_next}
use Rattle.portfolio_run.proofs.seats.grant_all.Goals as goal

pub loop-next-init : goal.loop-next-init
loop-next-init g c = first_none c.args.table.now c.args.first.now c.requires.first

pub grant-requires-clause-first : goal.grant-requires-clause-first
grant-requires-clause-first g c = c.loop-next.invariant.pass

pub grant-requires-clause-right : goal.grant-requires-clause-right
grant-requires-clause-right g c =
    let at = c.loop-next.invariant in
    let lt : c.loop-next.next < c.args.rings = c.loop-next-test.true in
    let is = ap (λ (o : CoreOpening). o.rings) at.same.opening in
    let all = c.requires.rings in
    (omega arith, at.rights c.loop-next.next (omega arith) (omega arith))

pub loop-next-preserved : goal.loop-next-preserved
loop-next-preserved g c =
    let e = c.grant.ensures in
    first_next c.args.table.now c.args.first.now.me.0 c.loop-next.first c.grant.new.first c.loop-next.next c.loop-next.invariant e.first e.same e.parts e.rights

pub returns : goal.returns
returns g c =
    let le = c.loop-next.auto.next-end in
    let ge = c.loop-next-test.false in
    all_granted c.args.table.now c.args.first.now.me.0 c.loop-next.first c.args.rings (subst (HasFirst c.args.table.now c.args.first.now.me.0 c.loop-next.first) (omega arith) c.loop-next.invariant) c.requires.rings
