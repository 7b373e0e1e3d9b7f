use Rattle.std.proofs.Common.{◌∙◌, ◌+◌, sym, ap, refl, arith}
use Rattle.share_rule.specs.Books.{StandsFor}
use Rattle.share_rule.specs.Layout.{table_words}
use Rattle.share_rule.proofs.Parts.{held_of}
use Rattle.share_rule.proofs.Loading.{loads}
use Rattle.share_rule.proofs.Rooms.{few_words}
use Rattle.ref_count.proofs.scans.load_pair.Goals as goal

pub overflow_add-cell : goal.overflow_add-cell
overflow_add-cell g c =
    let h = held_of c.args.pass.now.me.0 c.requires.pass.3 c.args.cell.address c.requires.held in
    let e = h.ends in
    let size = ap table_words c.requires.pass.2 in
    let few = few_words c.args.table.now.layout c.args.table.now.rings c.args.table.now.vars c.args.table.now.words c.args.table.now.depth in
    omega arith

pub overflow_add-cell-2 : goal.overflow_add-cell-2
overflow_add-cell-2 g c =
    let h = held_of c.args.pass.now.me.0 c.requires.pass.3 c.args.cell.address c.requires.held in
    let e = h.ends in
    let lt = c.requires.place in
    let size = ap table_words c.requires.pass.2 in
    let few = few_words c.args.table.now.layout c.args.table.now.rings c.args.table.now.vars c.args.table.now.words c.args.table.now.depth in
    omega arith

pub load-requires : goal.load-requires
load-requires g c =
    let pass = c.args.pass.now in
    let table = c.args.table.now in
    let h = held_of pass.me.0 c.requires.pass.3 c.args.cell.address c.requires.held in
    let e = h.ends in
    let lt = c.requires.place in
    let size = ap table_words c.requires.pass.2 ∙ sym table.sized in
    (c.requires.pass.0, omega arith, loads (StandsFor g.B.Ledger.account g.B.Ledger.stands) table.table.shared.key table.table.shared.table_id.slots pass.id pass.me (c.args.cell.address + 3 + c.args.place) c.requires.pass.1 c.requires.held.0)

pub returns-clause-word : goal.returns-clause-word
returns-clause-word g c = c.load.ensures.2.1.lits_are c.args.cell.address c.args.place c.requires.held.1 c.requires.place refl
