use Rattle.share_core.specs.Machine.{data_of}
use Rattle.share_core.proofs.Lookups.{open_shown}
use Rattle.share_core.proofs.progress.Progress.open_cell.Goals as goal

pub returns-clause-after : goal.returns-clause-after
returns-clause-after c =
    open_shown (data_of c.args.origin.now c.args.self.now) c.args.ring c.index_mut-own.result.now c.requires.enabled.0 c.index_mut-own.ensures.value c.args.address c.in_ok-cell.cell c.push.new.self c.remove_at.new.list c.set_count.new.cells.items
    (cc (c.in_ok-cell.ensures)) (cc (c.in_ok-push.ensures)) (cc (c.remove_at.ensures)) (cc (c.set_count.ensures))
