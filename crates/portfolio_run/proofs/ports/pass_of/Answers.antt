use Rattle.std.proofs.Common.{◌∙◌, ap, sym, true≢false}
use Rattle.ring_port.specs.PortState.{PortState}
use Rattle.share_rule.specs.Views.{only}
use Rattle.portfolio_run.proofs.Making.{none_written, rings_there, not_true}
use Rattle.portfolio_run.proofs.ports.pass_of.Goals as goal

pub returns : goal.returns
returns g c =
    let e = c.into_pass.ensures in
    record {
      has = record {
        pass = e.pass;
        one = e.ring.0;
        ring_is = ap (λ (s : PortState). s.ring) e.state.1;
        free = e.ring.1;
        settled = (e.built, e.listed);
      };
      idle = none_written (only c.into_pass.result.me.0).core.wrote (ap (λ (s : PortState). s.mine) e.state.1 ∙ c.requires.idle);
      calm = λ one. not_true (only c.into_pass.result.me.0).failed (λ f. true≢false (sym c.requires.usable ∙ e.alone (rings_there c.args.table.now c.into_pass.result e.pass.0 ∙ one) f));
    }
