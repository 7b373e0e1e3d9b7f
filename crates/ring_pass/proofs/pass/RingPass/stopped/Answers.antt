use Rattle.std.proofs.Common.{◌∙◌, refl, ap}
use Rattle.share_rule.specs.declared.view.View.{View}
use Rattle.share_rule.specs.Views.{only}
use Rattle.ring_pass.proofs.Stays.{port_steps}
use Rattle.ring_pass.proofs.StopsHere.{ring_looked}
use Rattle.ring_pass.proofs.pass.RingPass.stopped.Goals as goal

pub returns-clause-looked : goal.returns-clause-looked
returns-clause-looked g c =
    let e = c.look.ensures in
    ring_looked c.look.new.pass c.args.self.now e.part.0 c.look.result c.self.invariant.0 e.pass.0 c.self.view_is e.part.1 e.part.2 e.seen

pub returns-clause-port : goal.returns-clause-port
returns-clause-port g c =
    let e = c.look.ensures in
    port_steps c.look.new.pass (only c.self.inside.pass.me.0) c.self.invariant.0 e.pass.0 (ap (λ (u : View). u.parts) e.part.1 ∙ c.self.invariant.0.one) refl refl refl refl
