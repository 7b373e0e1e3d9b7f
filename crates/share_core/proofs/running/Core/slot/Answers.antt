use Rattle.std.proofs.Common.{◌<◌, ℕ, length, get_or, arith, ltb-true, sym, ap, ◌∙◌}
use Rattle.share_core.specs.State.{slot_of}
use Rattle.share_core.specs.Machine.{CoreData, data_of, state_of}
use Rattle.share_core.proofs.Lookups.{in_range}
use Rattle.share_core.proofs.Shown.{slot_room}
use Rattle.share_core.proofs.running.Core.slot.Goals as goal

pub index-requires : goal.index-requires
index-requires c =
    let d : CoreData = data_of c.self.inside.origin c.self.inside.progress in
    let from : c.args.from < length d.rings = ltb-true _ _ (sym c.is_ring.ensures ∙ c.if-not-is_ring.false) in
    let to : c.args.to < length d.rings = ltb-true _ _ (sym c.is_ring-else-not-is_ring.ensures ∙ c.if-not-is_ring-2.false) in
    let room = slot_room d c.args.from c.args.to c.args.class c.args.place c.self.invariant.wide from to c.if-class-ge4.false c.if-place-self.false in
    omega (arith, room, c.slot_of-slot.ensures)

pub returns-clause-there : goal.returns-clause-there
returns-clause-there c =
    let d : CoreData = data_of c.self.inside.origin c.self.inside.progress in
    let from : c.args.from < length d.rings = ltb-true _ _ (sym c.is_ring.ensures ∙ c.if-not-is_ring.false) in
    let to : c.args.to < length d.rings = ltb-true _ _ (sym c.is_ring-else-not-is_ring.ensures ∙ c.if-not-is_ring-2.false) in
    let room = slot_room d c.args.from c.args.to c.args.class c.args.place c.self.invariant.wide from to c.if-class-ge4.false c.if-place-self.false in
    λ _ _ _ _. c.index.ensures
    ∙ in_range d.slots c.slot_of-slot.result c.index.result.now 0 (omega (arith, room, c.slot_of-slot.ensures))
    ∙ ap (λ (k : ℕ). get_or d.slots k 0) c.slot_of-slot.ensures
    ∙ ap (λ (e : CoreData). get_or e.slots (slot_of (state_of e).opening c.args.from c.args.to c.args.class c.args.place) 0) c.self.view_is
