use Rattle.share_core.specs.Machine.{CoreData, data_of}
use Rattle.share_core.proofs.Shown.{kept_longer, bury_logged}
use Rattle.share_core.proofs.Lookups.{bury_shown}
use Rattle.share_core.proofs.progress.Progress.bury.Goals as goal

pub returns-clause-after : goal.returns-clause-after
returns-clause-after c =
    bury_shown (data_of c.args.origin.now c.args.self.now) c.args.ring c.index_mut-own.result.now c.requires.enabled.0 c.index_mut-own.ensures.value (kept_longer (data_of c.args.origin.now c.args.self.now) c.requires.kept) c.args.address c.remove_at.new.list c.remove_cell.new.cells.items c.push.new.self
    (cc (c.remove_at.ensures)) (cc (c.remove_cell.ensures)) (cc (c.in_ok-push.ensures))

pub returns-clause-logged : goal.returns-clause-logged
returns-clause-logged c =
    let d : CoreData = data_of c.args.origin.now c.args.self.now in
    bury_logged d c.args.ring c.args.address c.push.new.self c.push-2.new.self c.in_ok-lits.lits c.requires.kept c.requires.enabled.0 c.requires.enabled.2
    (cc (c.in_ok-push.ensures)) (cc (c.in_ok-lits.ensures)) (cc (c.in_ok-push-2.ensures))
