use Rattle.std.proofs.Common.{◌≡◌, ◌∙◌, ◌+◌, ◌∷◌, [], ℕ, sym, ap, refl, arith, subst}
use Rattle.share_rule.specs.Books.{StandsFor}
use Rattle.share_rule.specs.declared.Layout.{Layout}
use Rattle.share_rule.specs.declared.view.View.{View}
use Rattle.share_rule.specs.Layout.{table_words}
use Rattle.share_rule.specs.Views.{only, IsWord, is_ready}
use Rattle.share_rule.proofs.Parts.{held_of}
use Rattle.share_rule.proofs.Loading.{loads}
use Rattle.share_rule.proofs.Rooms.{few_words}
use Rattle.ref_count.proofs.reads.read_head.Goals as goal

pub overflow_add-cell : goal.overflow_add-cell
overflow_add-cell g c =
    let h = held_of c.args.pass.now.me.0 c.requires.pass.3 c.args.cell.address c.requires.held in
    let e = h.ends in
    let size = ap table_words c.requires.pass.2 in
    let few = few_words c.args.table.now.layout c.args.table.now.rings c.args.table.now.vars c.args.table.now.words c.args.table.now.depth in
    omega arith

pub load-number-requires : goal.load-number-requires
load-number-requires g c =
    let pass = c.args.pass.now in
    let table = c.args.table.now in
    let h = held_of pass.me.0 c.requires.pass.3 c.args.cell.address c.requires.held in
    let e = h.ends in
    let size = ap table_words c.requires.pass.2 ∙ sym table.sized in
    (c.requires.pass.0, omega arith, loads (StandsFor g.B.Ledger.account g.B.Ledger.stands) table.table.shared.key table.table.shared.table_id.slots pass.id pass.me (c.args.cell.address + 1) c.requires.pass.1 c.requires.held.0)

pub overflow_add-cell-2 : goal.overflow_add-cell-2
overflow_add-cell-2 g c =
    let h = held_of c.args.pass.now.me.0 c.requires.pass.3 c.args.cell.address c.requires.held in
    let e = h.ends in
    let size = ap table_words c.requires.pass.2 in
    let few = few_words c.args.table.now.layout c.args.table.now.rings c.args.table.now.vars c.args.table.now.words c.args.table.now.depth in
    omega arith

pub load-head-requires : goal.load-head-requires
load-head-requires g c =
    let pass = c.args.pass.now in
    let table = c.args.table.now in
    let h = held_of pass.me.0 c.requires.pass.3 c.args.cell.address c.requires.held in
    let e = h.ends in
    let size = ap table_words c.requires.pass.2 ∙ sym table.sized in
    let l = c.load-number.ensures in
    let k = l.2.0 in
    let next = c.load-number.new.seat in (
      l.0 ∙ c.requires.pass.0,
      omega arith,
      loads (StandsFor g.B.Ledger.account g.B.Ledger.stands) table.table.shared.key table.table.shared.table_id.slots next.id next.me (c.args.cell.address + 2)
          (ap (λ (v : View). is_ready v.stage) k.1 ∙ c.requires.pass.1) (subst (λ (v : View). v.parts ≡ only v ∷ []) (sym k.1) c.requires.held.0),
    )

pub returns-clause-size : goal.returns-clause-size
returns-clause-size g c =
    let v : View = c.args.pass.now.me.0 in
    let a : ℕ = c.args.cell.address in
    let h = held_of v c.requires.pass.3 a c.requires.held in
    let e = h.ends in
    let size = ap table_words c.requires.pass.2 in
    let words = c.args.table.now.words in
    let b = h.begins in
    let lw = ap (λ (l : Layout). l.words) c.requires.pass.2 in
    let few = few_words c.args.table.now.layout c.args.table.now.rings c.args.table.now.vars c.args.table.now.words c.args.table.now.depth in
    let w = subst (λ (u : View). IsWord u (a + 2) c.load-head.result) c.load-number.ensures.2.0.1 c.load-head.ensures.2.1 in
    let is = w.head_is a c.requires.held.1 refl in
    let f = c.size_of.ensures in
    omega arith

pub returns-clause-glue : goal.returns-clause-glue
returns-clause-glue g c =
    let v : View = c.args.pass.now.me.0 in
    let a : ℕ = c.args.cell.address in
    let h = held_of v c.requires.pass.3 a c.requires.held in
    let e = h.ends in
    let size = ap table_words c.requires.pass.2 in
    let words = c.args.table.now.words in
    let b = h.begins in
    let lw = ap (λ (l : Layout). l.words) c.requires.pass.2 in
    let few = few_words c.args.table.now.layout c.args.table.now.rings c.args.table.now.vars c.args.table.now.words c.args.table.now.depth in
    let w = subst (λ (u : View). IsWord u (a + 2) c.load-head.result) c.load-number.ensures.2.0.1 c.load-head.ensures.2.1 in
    let is = w.head_is a c.requires.held.1 refl in
    let f = c.glue_of.ensures in
    omega arith
