use Rattle.std.proofs.Common.{◌<◌, List, length, get_or, sym, subst}
use Rattle.sat_words.specs.declared.shared.Cref.{Cref}
use Rattle.share_core.specs.State.{times_at}
use Rattle.test_tables.proofs.Gathering.{start_there}
use Rattle.test_tables.proofs.rings.start_cell.Goals as goal

pub returns : goal.returns
returns g c =
    let starts = c.args.first.now.me.0.opening.starts in
    let lt : c.args.place < length c.args.cells.now = c.if-place-cells.false in
    subst (λ (cs : List Cref). 0 < times_at (get_or cs c.args.place (record { address = 0 })).address starts) (sym c.requires)
    (start_there starts c.args.place (record { address = 0 }) (subst (λ (cs : List Cref). c.args.place < length cs) c.requires lt))
