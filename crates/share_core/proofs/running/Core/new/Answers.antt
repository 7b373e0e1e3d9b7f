use Rattle.std.proofs.Common.{◌≡◌, ◌∙◌, List, IfOk, map, sym, ap, subst}
use Rattle.sat_words.specs.Literal.{Literal}
use Rattle.share_core.specs.State.{CoreOpening, IsCoreOpening, opened, unit_lits, unit_numbers}
use Rattle.share_core.specs.Machine.{state_of, start_at, core_opening}
use Rattle.share_core.proofs.running.Core.new.Goals as goal

pub opened-requires-clause-opens : goal.opened-requires-clause-opens
opened-requires-clause-opens c =
    let starts : c.in_ok-starts.starts ≡ map (start_at c.args.formula.clauses) c.args.start.now = c.in_ok-starts.ensures ∙ ap (λ (F : List (List Literal)). map (start_at F) c.args.start.now) c.clauses.ensures in
    let is : core_opening c.args.formula.clauses c.args.start.now c.args.units.now c.args.rings c.args.depth c.args.limit c.args.hinted
    ≡ record { formula = c.args.formula.clauses; rings = c.args.rings; depth = c.args.depth; journal = c.new.result; starts = c.in_ok-starts.starts; units = unit_lits c.args.units.now; numbers = unit_numbers c.args.units.now; limit = c.args.limit; hinted = c.args.hinted } =
    λ j. record { formula = c.args.formula.clauses; rings = c.args.rings; depth = c.args.depth; journal = sym c.new.ensures j; starts = sym starts j; units = unit_lits c.args.units.now; numbers = unit_numbers c.args.units.now; limit = c.args.limit; hinted = c.args.hinted } in
    subst IsCoreOpening is c.requires

pub returns : goal.returns
returns c =
    let starts : c.in_ok-starts.starts ≡ map (start_at c.args.formula.clauses) c.args.start.now = c.in_ok-starts.ensures ∙ ap (λ (F : List (List Literal)). map (start_at F) c.args.start.now) c.clauses.ensures in
    let is : record { formula = c.args.formula.clauses; rings = c.args.rings; depth = c.args.depth; journal = c.new.result; starts = c.in_ok-starts.starts; units = unit_lits c.args.units.now; numbers = unit_numbers c.args.units.now; limit = c.args.limit; hinted = c.args.hinted }
    ≡ core_opening c.args.formula.clauses c.args.start.now c.args.units.now c.args.rings c.args.depth c.args.limit c.args.hinted =
    λ j. record { formula = c.args.formula.clauses; rings = c.args.rings; depth = c.args.depth; journal = c.new.ensures j; starts = starts j; units = unit_lits c.args.units.now; numbers = unit_numbers c.args.units.now; limit = c.args.limit; hinted = c.args.hinted } in
    subst (λ (o : CoreOpening). IfOk c.opened.result (λ core. state_of core ≡ opened o)) is c.opened.ensures
