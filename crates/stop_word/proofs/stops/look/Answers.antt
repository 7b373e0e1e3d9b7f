use Rattle.std.proofs.Common.{arith, refl}
use Rattle.share_rule.specs.Books.{StandsFor}
use Rattle.share_rule.specs.Exchanges.{after_look}
use Rattle.share_rule.proofs.Stopping.{looks_at_stop, few_found}
use Rattle.stop_word.proofs.stops.look.Goals as goal

pub load-found-requires : goal.load-found-requires
load-found-requires g c =
    let pass = c.args.pass.now in
    let table = c.args.table.now in
    let size = table.sized in
    let p = c.requires.pass in
    (p.0, omega arith, looks_at_stop (StandsFor g.B.Ledger.account g.B.Ledger.stands) table.table.shared.key table.table.shared.table_id.slots pass.id pass.me p.1)

pub stop_in-requires : goal.stop_in-requires
stop_in-requires g c =
    let e = c.load-found.ensures in
    let few = few_found (after_look c.load-found.result c.args.pass.now.me.0) e.2.0.2 c.load-found.result refl in
    omega arith
