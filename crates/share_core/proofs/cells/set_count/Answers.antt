use Rattle.std.proofs.Common.{◌≡◌, ◌∙◌, ◌==◌, Some, position, sym, ap, set}
use Rattle.share_core.specs.declared.stored.StoredCell.{StoredCell}
use Rattle.share_core.specs.Machine.{opened_cell}
use Rattle.share_core.proofs.Places.{recounted_placed, found_missing}
use Rattle.share_core.proofs.cells.set_count.Goals as goal

pub returns-in-Some : goal.returns-in-Some
returns-in-Some c =
    let at : position (λ (x : StoredCell). x.address == c.args.address) c.args.cells.now.items ≡ Some c.in-Some.i = ap (position (λ (x : StoredCell). x.address == c.args.address)) (sym c.as_slice.ensures.value) ∙ sym c.place_of.ensures ∙ c.in-Some.is in
    ap (λ (x : StoredCell). set c.args.cells.now.items c.in-Some.i (opened_cell c.args.count x)) c.index_mut-stored.ensures.value
    ∙ recounted_placed c.args.address c.args.count c.args.cells.now.items c.in-Some.i c.index_mut-stored.result.now at

pub returns-in_default : goal.returns-in_default
returns-in_default c = sym (found_missing c.args.address c.args.count c.args.cells.now.items (ap (position (λ (x : StoredCell). x.address == c.args.address)) (sym c.as_slice.ensures.value) ∙ sym c.place_of.ensures ∙ c.in_default.is)).1
