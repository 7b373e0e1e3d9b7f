use Rattle.std.proofs.Common.{◌∙◌, ◌+◌, ◌<◌, ℕ, sym, ap, subst, refl, arith, length}
use Rattle.clause_cell.specs.Packing.{words_for}
use Rattle.share_core.specs.declared.stored.ClauseAt.{ClauseAt}
use Rattle.share_rule.specs.declared.view.View.{View}
use Rattle.share_rule.specs.Views.{only}
use Rattle.ring_pass.proofs.CellsHere.{HasWords, stored_none, stored_next, next_words, stored_building, stored_making, words_next, words_all}
use Rattle.ring_pass.proofs.cells.store_cell.Goals as goal

pub loop-i-init : goal.loop-i-init
loop-i-init g c = record {
  pass = c.requires.pass;
  same = (refl, refl);
  stored = stored_none c.args.pass.now.me.0 c.requires.building.0;
  words = λ k low high. absurd (omega arith);
}

pub store_word-requires-clause-building : goal.store_word-requires-clause-building
store_word-requires-clause-building g c = stored_building c.args.pass.now.me.0 c.loop-i.pass.me.0 c.args.cell.address c.loop-i.invariant.stored c.requires.building

pub store_word-requires-clause-place : goal.store_word-requires-clause-place
store_word-requires-clause-place g c =
    let size = ap (λ (h : ClauseAt). length h.lits) (stored_making c.args.pass.now.me.0 c.loop-i.pass.me.0 c.args.cell.address c.loop-i.invariant.stored) ∙ ap length c.requires.clause.1 in
    let all = c.words_for-i-end.ensures in
    let lt = c.loop-i-test.true in
    (omega arith, subst (λ (n : ℕ). c.loop-i.i < words_for n) (sym size) (omega arith))

pub loop-i-preserved : goal.loop-i-preserved
loop-i-preserved g c =
    let inv = c.loop-i.invariant in
    let e = c.store_word.ensures in
    let v : View = c.args.pass.now.me.0 in
    let u : View = c.loop-i.pass.me.0 in
    let w : View = c.store_word.new.pass.me.0 in
    let a : ℕ = c.args.cell.address in
    record {
      pass = e.pass.0;
      same = (e.pass.1.0 ∙ inv.same.0, e.pass.1.1 ∙ inv.same.1);
      stored = stored_next v u w (a + c.loop-i.i) c.word_of-word.result inv.stored e.part;
      words = subst (λ ss. HasWords ss a c.args.number c.args.glue c.args.lits.now (c.loop-i.i + 1)) (sym (next_words v u w (a + c.loop-i.i) c.word_of-word.result inv.stored e.part))
          (words_next (only u).stored a c.args.number c.args.glue c.args.lits.now c.loop-i.i c.word_of-word.result c.word_of-word.ensures inv.words);
    }

pub returns-clause-built : goal.returns-clause-built
returns-clause-built g c =
    let ge = c.loop-i-test.false in
    let all = c.words_for-i-end.ensures in
    words_all c.args.pass.now.me.0 c.loop-i.pass.me.0 c.args.cell.address c.args.number c.args.glue c.args.lits.now c.loop-i.invariant.stored c.requires.clause.0 c.requires.clause.1 c.requires.glue
    (λ k low high. c.loop-i.invariant.words k low (omega arith))
