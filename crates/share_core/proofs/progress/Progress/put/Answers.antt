use Rattle.std.proofs.Common.{◌≡◌, ◌∙◌, ◌<◌, ℕ, length, get_or, set, ap}
use Rattle.share_core.specs.State.{clause_at, slot_of}
use Rattle.share_core.specs.Machine.{CoreData, data_of, state_of}
use Rattle.share_core.proofs.Shown.{slot_room}
use Rattle.share_core.specs.State.{with_cell}
use Rattle.share_core.proofs.Lookups.{put_shown}
use Rattle.share_core.proofs.progress.Progress.put.Goals as goal

pub returns-clause-after : goal.returns-clause-after
returns-clause-after c =
    let d : CoreData = data_of c.args.origin.now c.args.self.now in
    let s : ℕ = slot_of (state_of d).opening c.args.ring c.args.to c.args.class c.args.place in
    let is : c.slot_of-slot.result ≡ s = c.slot_of-slot.ensures in
    let room : s < length d.slots = slot_room d c.args.ring c.args.to c.args.class c.args.place c.requires.kept.wide c.requires.enabled.0 c.requires.enabled.1 c.requires.enabled.3 c.requires.enabled.4 in
    let found : c.in_ok-found.found ≡ clause_at (state_of d) (get_or d.slots s 0) = c.in_ok-found.ensures c.args.origin.now ∙ ap (λ (k : ℕ). clause_at (state_of d) (get_or d.slots k 0)) is in
    ap (λ (k : ℕ). state_of (record d { slots = set d.slots k c.args.address; rings = set d.rings c.args.ring (record c.index_mut-own.result.now { held = c.add_cell.new.list; puts = c.push.new.self }) })) is
    ∙ put_shown d c.args.ring c.index_mut-own.result.now c.requires.enabled.0 c.index_mut-own.ensures.value c.args.to c.args.class c.args.place c.args.address c.in_ok-found.found c.add_cell.new.list c.push.new.self room found
    (c.in_ok-add_cell.ensures ∙ ap (with_cell c.in_ok-found.found) c.remove_at.ensures) c.in_ok-push.ensures
