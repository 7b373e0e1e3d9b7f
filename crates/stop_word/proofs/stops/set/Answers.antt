use Rattle.std.proofs.Common.{◌+◌, ◌*◌, ℕ, arith}
use Rattle.share_rule.specs.Books.{StandsFor}
use Rattle.share_rule.specs.Exchanges.{after_set}
use Rattle.share_rule.proofs.Stopping.{sets_stop, few_found, lost_sees}
use Rattle.stop_word.proofs.stops.set.Goals as goal

pub compare_exchange-found-requires : goal.compare_exchange-found-requires
compare_exchange-found-requires g c =
    let pass = c.args.pass.now in
    let table = c.args.table.now in
    let size = table.sized in
    let p = c.requires.pass in
    (p.0, omega arith, sets_stop (StandsFor g.B.Ledger.account g.B.Ledger.stands) table.table.shared.key table.table.shared.table_id.slots pass.id pass.me c.args.stop.kind c.args.stop.ring p.1 c.requires.ring c.requires.kind.0 c.requires.kind.1 c.requires.refuted)

pub stop_in-requires : goal.stop_in-requires
stop_in-requires g c =
    let e = c.compare_exchange-found.ensures in
    let code : ℕ = c.args.stop.kind + 8 * c.args.stop.ring in
    let found = c.compare_exchange-found.result in
    let few = few_found (after_set code found c.args.pass.now.me.0) e.2.0.2 found (lost_sees code found c.args.pass.now.me.0 c.if-found-eq0.false) in
    omega arith
