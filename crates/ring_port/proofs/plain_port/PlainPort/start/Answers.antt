use Rattle.std.proofs.Common.{◌∙◌, ap, map}
use Rattle.std.proofs.lemmas.Result.{IfOk-weaker}
use Rattle.ring_port.specs.PortState.{Holding, PortState}
use Rattle.ring_port.proofs.PlainLemmas.{state_is}
use Rattle.ring_port.proofs.plain_port.PlainPort.start.Goals as goal

pub returns : goal.returns
returns g c =
    IfOk-weaker c.start.result _ _ (λ refs p. p ∙ ap (λ (s : PortState). map (λ (h : Holding). record { address = h.address }) s.start) (state_is c.self.view_is)) c.start.ensures
