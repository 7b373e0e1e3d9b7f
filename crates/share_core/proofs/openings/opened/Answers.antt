use Rattle.std.proofs.Common.{◌≡◌, ◌∙◌, None, map, ap}
use Rattle.share_core.specs.State.{CoreOpening, unit_lits, unit_numbers}
use Rattle.share_core.specs.Machine.{CoreData, start_stored}
use Rattle.share_core.proofs.Beginning.{new_data, new_shown, new_kept}
use Rattle.share_core.proofs.openings.opened.Goals as goal

-- the fields of the new core are those of a new machine
fields : (c : goal.In_ok-unit_numbers-2) → CoreData
fields c = record { formula = c.formula.inside.clauses.items; before = c.journal.inside.items.items; starts = c.starts.inside.items.items; first = c.in_ok-unit_lits-2.field-0; first_numbers = c.in_ok-unit_numbers-2.field-0; depth = c.args.depth; limit = c.args.limit; hinted = c.args.hinted; journal = c.in_ok-copied.field-0; lines = c.lines.inside.items.items; cells = c.in_ok-cells.cells.items; rings = c.in_ok-blank_rings.field-0.items; slots = c.in_ok-empty_slots.field-0.items; units = c.in_ok-unit_lits.field-0; numbers = c.in_ok-unit_numbers.field-0; turn = None; stop = None; drawn = 0 }

opening : (c : goal.In_ok-unit_numbers-2) → CoreOpening
opening c = record { formula = c.args.formula.clauses; rings = c.args.rings; depth = c.args.depth; journal = c.args.journal; starts = c.args.starts; units = unit_lits c.args.units.now; numbers = unit_numbers c.args.units.now; limit = c.args.limit; hinted = c.args.hinted }

fields_new : (c : goal.In_ok-unit_numbers-2) → fields c ≡ new_data (opening c) c.args.lines
unfolding fields opening
fields_new c =
    let cells : c.in_ok-cells.cells.items ≡ map (start_stored c.args.rings) c.args.starts = c.in_ok-cells.ensures ∙ ap (map (start_stored c.args.rings)) c.as_slice.ensures in
    λ j. record { formula = (c.formula.view_is j).clauses; before = c.journal.view_is j; starts = c.starts.view_is j; first = c.in_ok-unit_lits-2.ensures j; first_numbers = c.in_ok-unit_numbers-2.ensures j; depth = c.args.depth; limit = c.args.limit; hinted = c.args.hinted; journal = c.in_ok-copied.ensures j; lines = c.lines.view_is j; cells = cells j; rings = c.in_ok-blank_rings.ensures j; slots = c.in_ok-empty_slots.ensures j; units = c.in_ok-unit_lits.ensures j; numbers = c.in_ok-unit_numbers.ensures j; turn = None; stop = None; drawn = 0 }

pub invariant_of-result : goal.invariant_of-result
unfolding fields opening
invariant_of-result c = new_kept (opening c) c.args.lines (fields c) c.requires.opens c.requires.told (fields_new c)

pub returns : goal.returns
unfolding fields opening
returns c = new_shown (opening c) c.args.lines (fields c) (fields_new c)
