use Rattle.std.proofs.Common.{◌∙◌, ◌+◌, ◌/◌, ◌≤◌, ◌^◌, sym, ap, refl, arith, subst}
use Rattle.share_rule.specs.Books.{StandsFor}
use Rattle.share_rule.specs.declared.Layout.{Layout}
use Rattle.share_rule.specs.Layout.{table_words}
use Rattle.share_rule.specs.Views.{clause_of}
use Rattle.share_rule.proofs.Parts.{held_of}
use Rattle.share_rule.proofs.Loading.{loads}
use Rattle.share_rule.proofs.Rooms.{few_words}
use Rattle.share_rule.proofs.Decoding.{decoded}
use Rattle.ref_count.proofs.reads.read_lit.Goals as goal

pub overflow_add-cell : goal.overflow_add-cell
overflow_add-cell g c =
    let h = held_of c.args.pass.now.me.0 c.requires.pass.3 c.args.cell.address c.requires.held in
    let e = h.ends in
    let size = ap table_words c.requires.pass.2 in
    let few = few_words c.args.table.now.layout c.args.table.now.rings c.args.table.now.vars c.args.table.now.words c.args.table.now.depth in
    omega arith

pub overflow_add-cell-2 : goal.overflow_add-cell-2
overflow_add-cell-2 g c =
    let h = held_of c.args.pass.now.me.0 c.requires.pass.3 c.args.cell.address c.requires.held in
    let e = h.ends in
    let lt = c.requires.place in
    let size = ap table_words c.requires.pass.2 in
    let few = few_words c.args.table.now.layout c.args.table.now.rings c.args.table.now.vars c.args.table.now.words c.args.table.now.depth in
    omega arith

pub load-word-requires : goal.load-word-requires
load-word-requires g c =
    let pass = c.args.pass.now in
    let table = c.args.table.now in
    let h = held_of pass.me.0 c.requires.pass.3 c.args.cell.address c.requires.held in
    let e = h.ends in
    let lt = c.requires.place in
    let size = ap table_words c.requires.pass.2 ∙ sym table.sized in
    (c.requires.pass.0, omega arith, loads (StandsFor g.B.Ledger.account g.B.Ledger.stands) table.table.shared.key table.table.shared.table_id.slots pass.id pass.me (c.args.cell.address + 3 + c.args.i / 2) c.requires.pass.1 c.requires.held.0)

pub new-requires-clause-low : goal.new-requires-clause-low
new-requires-clause-low g c =
    let p = c.requires.pass in
    let h = held_of c.args.pass.now.me.0 p.3 c.args.cell.address c.requires.held in
    let lt = c.requires.place in
    let few : c.args.pass.now.me.0.layout.vars ≤ 2 ^ 30 = subst (λ (l : Layout). l.vars ≤ 2 ^ 30) (sym p.2) c.args.table.now.vars in
    let word = c.load-word.ensures.2.1.lits_are c.args.cell.address (c.args.i / 2) c.requires.held.1 (omega arith) refl in
    (decoded c.args.pass.now.me.0.layout (clause_of c.args.cell.address c.args.pass.now.me.0).lits c.args.i c.load-word.result c.half-code.result few h.vars c.requires.place word c.half-code.ensures).low

pub new-requires-clause-high : goal.new-requires-clause-high
new-requires-clause-high g c =
    let p = c.requires.pass in
    let h = held_of c.args.pass.now.me.0 p.3 c.args.cell.address c.requires.held in
    let lt = c.requires.place in
    let few : c.args.pass.now.me.0.layout.vars ≤ 2 ^ 30 = subst (λ (l : Layout). l.vars ≤ 2 ^ 30) (sym p.2) c.args.table.now.vars in
    let word = c.load-word.ensures.2.1.lits_are c.args.cell.address (c.args.i / 2) c.requires.held.1 (omega arith) refl in
    (decoded c.args.pass.now.me.0.layout (clause_of c.args.cell.address c.args.pass.now.me.0).lits c.args.i c.load-word.result c.half-code.result few h.vars c.requires.place word c.half-code.ensures).high

pub returns-clause-literal : goal.returns-clause-literal
returns-clause-literal g c =
    let p = c.requires.pass in
    let h = held_of c.args.pass.now.me.0 p.3 c.args.cell.address c.requires.held in
    let lt = c.requires.place in
    let few : c.args.pass.now.me.0.layout.vars ≤ 2 ^ 30 = subst (λ (l : Layout). l.vars ≤ 2 ^ 30) (sym p.2) c.args.table.now.vars in
    let word = c.load-word.ensures.2.1.lits_are c.args.cell.address (c.args.i / 2) c.requires.held.1 (omega arith) refl in
    c.new.ensures ∙ (decoded c.args.pass.now.me.0.layout (clause_of c.args.cell.address c.args.pass.now.me.0).lits c.args.i c.load-word.result c.half-code.result few h.vars c.requires.place word c.half-code.ensures).literal
