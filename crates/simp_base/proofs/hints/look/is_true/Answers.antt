use Rattle.std.proofs.Common.{◌≡◌, ◌∙◌, ◌||◌, false, sym, ap}
use Rattle.std.specs.List.{list_any}
use Rattle.std.proofs.lemmas.Bool.{or_left}
use Rattle.simp_base.specs.WorkState.{lists, is_only}
use Rattle.simp_base.specs.Search.{on_trail}
use Rattle.simp_base.proofs.TrueSet.{unit_stands, place_stands}
use Rattle.simp_base.proofs.hints.look.is_true.Goals as goal

pub returns-then-is_some : goal.returns-then-is_some
returns-then-is_some c =
    c.if-is_some.true ∙ sym (or_left _ _ (sym (unit_stands c.args.clauses.now.clauses c.args.lit c.unit_number.result c.unit_number.ensures) ∙ sym c.is_some.ensures ∙ c.if-is_some.true))

pub returns-else-is_some : goal.returns-else-is_some
returns-else-is_some c =
    let steps = c.args.trail.now.steps in
    let no_unit : list_any (is_only c.args.lit) (lists c.args.clauses.now.clauses) ≡ false =
    sym (unit_stands c.args.clauses.now.clauses c.args.lit c.unit_number.result c.unit_number.ensures) ∙ sym c.is_some.ensures ∙ c.if-is_some.false in
    c.is_some-else-is_some.ensures ∙ place_stands steps c.args.lit c.place_of.result c.place_of.ensures.some c.place_of.ensures.none ∙ sym (ap (λ b. b || on_trail steps c.args.lit) no_unit)
