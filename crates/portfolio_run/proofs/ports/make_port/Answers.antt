use Rattle.std.proofs.Common.{◌∙◌, ap, arith, sym}
use Rattle.share_rule.specs.declared.Layout.{Layout}
use Rattle.ring_run.specs.declared.job.Job.{Job}
use Rattle.ring_pass.specs.RingState.{home_of}
use Rattle.portfolio_run.proofs.Readiness.{is_ready, rings_are}
use Rattle.portfolio_run.proofs.ports.make_port.Goals as goal

pub returns-clause-ready : goal.returns-clause-ready
returns-clause-ready g c =
    let pass = c.args.pass in
    let p = c.requires.pass.0.0 in
    let job : Job = c.in-Ok.job in
    let is = c.in-Ok.ensures in
    let e = c.in_ok-port.ensures in
    let small = c.args.table.now.vars in
    let lay = ap (λ (l : Layout). l.vars) p.2 in
    is_ready pass.me.0 c.args.ring (home_of pass) c.in_ok-port.port job c.requires.pass.1 e.made e.holds e.port (omega arith)
    (ap (λ (j : Job). j.vars) is ∙ ap (λ (l : Layout). l.vars) (sym p.2))
    (ap (λ (j : Job). j.ring) is) (ap (λ (j : Job). j.rings) is ∙ ap (λ (l : Layout). l.rings) (sym p.2) ∙ rings_are pass.me.0 p.3) (ap (λ (j : Job). j.start) is ∙ c.requires.start)
