use Rattle.std.proofs.Common.{◌++◌, List, ◌∙◌, ap, sym, refl, inl, inr}
use Rattle.share_core.specs.declared.part.CoreOpening.{CoreOpening}
use Rattle.share_rule.specs.declared.view.RingPart.{RingPart}
use Rattle.ring_pass.specs.RingState.{home_of}
use Rattle.portfolio_run.specs.Seats.{all_parts}
use Rattle.portfolio_run.proofs.Gathering.{all_idle, ran_to_same}
use Rattle.portfolio_run.proofs.Making.{home_same}
use Rattle.portfolio_run.proofs.Rights.{same_both}
use Rattle.portfolio_run.proofs.search.search.Goals as goal

pub make_ports-requires-clause-hinted : goal.make_ports-requires-clause-hinted
make_ports-requires-clause-hinted g c = ap (λ (o : CoreOpening). o.hinted) c.hand_out.ensures.same.opening ∙ c.requires.hinted

pub returns-in-Ok-make_ports : goal.returns-in-Ok-make_ports
returns-in-Ok-make_ports g c =
    let first = c.args.first.now in
    let out = c.hand_out.new.first in
    let h = c.hand_out.ensures in
    let named = home_same c.args.table.now first out c.requires.first.pass h.first.pass in
    inl (ran_to_same c.args.table.now first.me.0 out.me.0 (home_of first) (home_of out) c.args.plan.now c.args.formula.now.vars c.args.stack.now c.run_rings.new.first c.run_rings.new.tally.items c.run_rings.result h.same named c.run_rings.ensures)

pub returns-in-Err : goal.returns-in-Err
returns-in-Err g c =
    let first = c.args.first.now in
    let out = c.hand_out.new.first in
    let h = c.hand_out.ensures in
    let e = c.gather.ensures in
    let passes = c.in-Err.refused.value.items in
    let back = c.in-Err.ensures.back in
    let rings = c.requires.rings in
    inr (record {
      rested = all_idle c.args.table.now first.me.0 c.gather.new.first passes e.first (same_both first.me.0 out.me.0 c.gather.new.first.me.0 h.same e.same)
          (e.parts ∙ ap (λ (ps : List RingPart). ps ++ all_parts passes) h.first.none) (back.0 ∙ h.many ∙ sym rings.0) back.1;
      tally_is = refl;
      is = refl;
    })
