use Rattle.std.proofs.Common.{◌≡◌, arith}
use Rattle.share_core.specs.State.{count_at}
use Rattle.share_core.specs.Machine.{CoreData, data_of, cell_in}
use Rattle.share_core.proofs.Shown.{count_fits}
use Rattle.share_core.proofs.Lookups.{share_shown}
use Rattle.share_core.proofs.progress.Progress.share.Goals as goal

pub overflow_add-found : goal.overflow_add-found
overflow_add-found c =
    let d : CoreData = data_of c.args.origin.now c.args.self.now in
    let f = count_fits d c.args.address c.requires.kept in
    let e : c.count_of-found.result ≡ count_at (cell_in c.args.address d.cells) = cc in omega arith

pub returns-clause-after : goal.returns-clause-after
returns-clause-after c =
    share_shown (data_of c.args.origin.now c.args.self.now) c.args.ring c.index_mut-own.result.now c.requires.enabled.0 c.index_mut-own.ensures.value c.args.address c.in_ok-cell.cell c.push.new.self c.set_count.new.cells.items
    (cc (c.in_ok-cell.ensures)) (cc (c.in_ok-push.ensures)) (cc (c.set_count.ensures, c.count_of-found.ensures, c.as_slice.ensures.value))
