use Rattle.std.proofs.Common.{◌∙◌, sym, ap, arith}
use Rattle.share_rule.specs.Books.{StandsFor}
use Rattle.share_rule.specs.Layout.{table_words}
use Rattle.share_rule.proofs.Parts.{building_of}
use Rattle.share_rule.proofs.Rooms.{few_words}
use Rattle.share_rule.proofs.Building.{stores}
use Rattle.ref_count.proofs.builds.store_word.Goals as goal

pub store-requires : goal.store-requires
store-requires g c =
    let pass = c.args.pass.now in
    let table = c.args.table.now in
    let e = (building_of pass.me.0 c.requires.pass.3 c.args.cell.address c.requires.building).1 in
    let hi = c.requires.place.1 in
    let size = ap table_words c.requires.pass.2 ∙ sym table.sized in
    (c.requires.pass.0, omega arith, stores (StandsFor g.B.Ledger.account g.B.Ledger.stands) table.table.shared.key table.table.shared.table_id.slots pass.id pass.me c.args.cell.address c.args.i c.args.word c.requires.pass.1 c.requires.building c.requires.place.0 c.requires.place.1)

pub overflow_add-cell : goal.overflow_add-cell
overflow_add-cell g c =
    let e = (building_of c.args.pass.now.me.0 c.requires.pass.3 c.args.cell.address c.requires.building).1 in
    let hi = c.requires.place.1 in
    let size = ap table_words c.requires.pass.2 in
    let few = few_words c.args.table.now.layout c.args.table.now.rings c.args.table.now.vars c.args.table.now.words c.args.table.now.depth in
    omega arith
