use Rattle.std.proofs.Common.{ap, length, arith}
use Rattle.watch_prop.specs.WatchData.{WatchData}
use Rattle.watch_prop.proofs.Detaching.{Watched-thinned, all_detached}
use Rattle.watch_prop.proofs.watches.Watches.detach_all.Goals as goal

pub returns-clause-attached : goal.returns-clause-attached
returns-clause-attached c =
    let same = ap (λ (w : WatchData). length w.slots) c.self.view_is in
    all_detached c.args.self.now c.loop-index.self c.args.gone.now c.loop-index.invariant.freed
    (λ i s at. c.loop-index.invariant.none i s (let q = c.loop-index-test.false in omega (arith, q, at.0, same, c.loop-index.invariant.freed.thinned.len)) at)

pub returns-clause-watched : goal.returns-clause-watched
returns-clause-watched c lits t k = Watched-thinned c.args.self.now c.loop-index.self lits t c.loop-index.invariant.freed.thinned k
