use Rattle.std.proofs.Common.{◌∙◌, ◌+◌, ℕ, sym, subst, ap, arith}
use Rattle.sat_words.specs.declared.shared.Cref.{Cref}
use Rattle.share_rule.specs.declared.view.View.{View}
use Rattle.test_tables.specs.Samples.{IsHolder}
use Rattle.test_table.proofs.Trading.{shared_stays, dropped_stays}
use Rattle.test_table.proofs.trades.trade_once.Goals as goal

pub give_one_up-requires : goal.give_one_up-requires
give_one_up-requires g c =
    let h = c.requires.holder in
    let s = shared_stays c.args.ring.now.pass.me.0 c.share.new.pass.me.0 c.args.ring.now.cell.address c.share.ensures.part.0 h.is_ring.one h.holds c.share.ensures.part.1 in
    let t = s.0.times in
    let k = h.holds in
    let p = c.share.ensures.pass in (
      c.args._times + 1,
      record {
        is_ring = record { pass = p.0; slots = p.1.1 ∙ h.is_ring.slots; one = s.0.one; ring_is = s.0.ring ∙ h.is_ring.ring_is; free = s.0.turn ∙ h.is_ring.free };
        holds = omega arith;
        shared_is = s.1 ∙ ap (λ (n : ℕ). n + 1) h.shared_is;
      },
    )

pub returns-clause-holder : goal.returns-clause-holder
returns-clause-holder g c =
    let h = c.requires.holder in
    let a : ℕ = c.args.ring.now.cell.address in
    let v : View = c.args.ring.now.pass.me.0 in
    let w : View = c.share.new.pass.me.0 in
    let s = shared_stays v w a c.share.ensures.part.0 h.is_ring.one h.holds c.share.ensures.part.1 in
    let t = s.0.times in
    let k = h.holds in
    let r = c.give_one_up.new.ring in
    let gave = c.give_one_up.ensures.gave in
    let d = dropped_stays w r.pass.me.0 a gave.found s.0.one (omega arith) gave.part in
    let u = d.0.times in
    subst (λ (x : Cref). IsHolder c.args.table.now r.pass r.ring x.address (c.args._times + 1)) (sym gave.cell)
    (record { is_ring = c.give_one_up.ensures.ring; holds = omega arith; shared_is = d.1 ∙ s.1 ∙ ap (λ (n : ℕ). n + 1) h.shared_is })
