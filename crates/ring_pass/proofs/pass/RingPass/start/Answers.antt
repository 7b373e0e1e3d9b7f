use Rattle.std.proofs.Common.{◌∙◌, ap, map}
use Rattle.share_rule.specs.Views.{start_glues}
use Rattle.ring_port.specs.PortState.{Holding, PortState}
use Rattle.ring_pass.proofs.Beginning.{addresses_of}
use Rattle.ring_pass.proofs.pass.RingPass.start.Goals as goal

pub returns : goal.returns
returns g c =
    c.self.invariant.0.start ∙ addresses_of (start_glues c.self.inside.pass.me.0.opening.starts) c.self.inside.pass.me.0.opening.starts
    ∙ ap (λ (s : PortState). map (λ (h : Holding). record { address = h.address }) s.start) c.self.view_is
