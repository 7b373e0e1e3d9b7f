use Rattle.std.proofs.Common.{◌≡◌, arith}
use Rattle.share_core.specs.State.{count_at}
use Rattle.share_core.specs.Machine.{CoreData, data_of, cell_in}
use Rattle.share_core.proofs.Shown.{count_some}
use Rattle.share_core.proofs.Lookups.{drop_shown}
use Rattle.share_core.proofs.progress.Progress.drop_count.Goals as goal

pub overflow_sub-found : goal.overflow_sub-found
overflow_sub-found c =
    let d : CoreData = data_of c.args.origin.now c.args.self.now in
    let f = count_some d c.args.ring c.args.address c.requires.kept c.requires.enabled.0 c.requires.enabled.1 in
    let e : c.count_of-found.result ≡ count_at (cell_in c.args.address d.cells) = cc in omega arith

pub returns-clause-after : goal.returns-clause-after
returns-clause-after c =
    drop_shown (data_of c.args.origin.now c.args.self.now) c.args.ring c.index_mut-own.result.now c.requires.enabled.0 c.index_mut-own.ensures.value c.args.address c.in_ok-cell.cell c.remove_at.new.list c.add_where.new.list c.set_count.new.cells.items
    (cc (c.in_ok-cell.ensures)) (cc (c.remove_at.ensures)) (cc (c.in_ok-add_where.ensures, c.count_of-found.ensures)) (cc (c.set_count.ensures, c.count_of-found.ensures, c.as_slice.ensures.value))
