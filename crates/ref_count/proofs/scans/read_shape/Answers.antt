use Rattle.std.proofs.Common.{◌∙◌, ◌+◌, ℕ, sym, ap, refl, arith}
use Rattle.share_rule.specs.Books.{StandsFor}
use Rattle.share_rule.specs.declared.Layout.{Layout}
use Rattle.share_rule.specs.declared.view.View.{View}
use Rattle.share_rule.specs.Layout.{table_words}
use Rattle.share_rule.proofs.Parts.{held_of}
use Rattle.share_rule.proofs.Loading.{loads}
use Rattle.share_rule.proofs.Rooms.{few_words}
use Rattle.ref_count.proofs.scans.read_shape.Goals as goal

pub overflow_add-cell : goal.overflow_add-cell
overflow_add-cell g c =
    let h = held_of c.args.pass.now.me.0 c.requires.pass.3 c.args.cell.address c.requires.held in
    let e = h.ends in
    let size = ap table_words c.requires.pass.2 in
    let few = few_words c.args.table.now.layout c.args.table.now.rings c.args.table.now.vars c.args.table.now.words c.args.table.now.depth in
    omega arith

pub load-head-requires : goal.load-head-requires
load-head-requires g c =
    let pass = c.args.pass.now in
    let table = c.args.table.now in
    let h = held_of pass.me.0 c.requires.pass.3 c.args.cell.address c.requires.held in
    let e = h.ends in
    let size = ap table_words c.requires.pass.2 ∙ sym table.sized in
    (c.requires.pass.0, omega arith, loads (StandsFor g.B.Ledger.account g.B.Ledger.stands) table.table.shared.key table.table.shared.table_id.slots pass.id pass.me (c.args.cell.address + 2) c.requires.pass.1 c.requires.held.0)

pub returns-clause-size : goal.returns-clause-size
returns-clause-size g c =
    let v : View = c.args.pass.now.me.0 in
    let a : ℕ = c.args.cell.address in
    let h = held_of v c.requires.pass.3 a c.requires.held in
    let e = h.ends in
    let size = ap table_words c.requires.pass.2 in
    let words = c.args.table.now.words in
    let b = h.begins in
    let lw = ap (λ (l : Layout). l.words) c.requires.pass.2 in
    let few = few_words c.args.table.now.layout c.args.table.now.rings c.args.table.now.vars c.args.table.now.words c.args.table.now.depth in
    let is = c.load-head.ensures.2.1.head_is a c.requires.held.1 refl in
    let f = c.size_of.ensures in
    omega arith

pub returns-clause-glue : goal.returns-clause-glue
returns-clause-glue g c =
    let v : View = c.args.pass.now.me.0 in
    let a : ℕ = c.args.cell.address in
    let h = held_of v c.requires.pass.3 a c.requires.held in
    let e = h.ends in
    let size = ap table_words c.requires.pass.2 in
    let words = c.args.table.now.words in
    let b = h.begins in
    let lw = ap (λ (l : Layout). l.words) c.requires.pass.2 in
    let few = few_words c.args.table.now.layout c.args.table.now.rings c.args.table.now.vars c.args.table.now.words c.args.table.now.depth in
    let is = c.load-head.ensures.2.1.head_is a c.requires.held.1 refl in
    let f = c.glue_of.ensures in
    omega arith
