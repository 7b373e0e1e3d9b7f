use Rattle.std.proofs.Common.{◌≡◌, ◌∙◌, sym, ap, map}
use Rattle.std.proofs.lemmas.Result.{IfOk-weaker}
use Rattle.ring_port.specs.PortState.{Holding}
use Rattle.ring_port.specs.Store.{StoreData}
use Rattle.ring_port.proofs.Stretches.{addresses_are}
use Rattle.ring_port.proofs.store.Store.start.Goals as goal

pub returns : goal.returns
returns c =
    let i = c.self.inside in
    let e : c.deref.result.now ≡ map (λ (h : Holding). record { address = h.address }) c.args.self.now.start =
    c.deref.ensures.value ∙ sym (addresses_are i.words.items i.start.items) ∙ ap (λ (s : StoreData). map (λ (h : Holding). record { address = h.address }) s.start) c.self.view_is in
    IfOk-weaker c.from_slice.result _ _ (λ refs p. p ∙ e) c.from_slice.ensures.items
