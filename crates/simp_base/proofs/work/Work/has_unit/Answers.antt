use Rattle.std.proofs.Common.{◌≡◌, ◌∙◌, ◌||◌, false, true, sym, ap}
use Rattle.sat_words.specs.Literal.{Literal}
use Rattle.simp_base.specs.WorkState.{is_unit}
use Rattle.simp_base.proofs.work.Work.has_unit.Goals as goal

pub returns-else-is_unit : goal.returns-else-is_unit
returns-else-is_unit g c =
    let w = c.args.self.now in
    let pos : Literal = record { var = c.args.var; neg = false } in
    let neg : Literal = record { var = c.args.var; neg = true } in
    let no : is_unit w pos ≡ false = ap (is_unit w) (sym c.new.ensures) ∙ sym c.is_unit.ensures ∙ c.if-is_unit.false in
    c.is_unit-else-is_unit.ensures ∙ ap (is_unit w) c.new-else-is_unit.ensures ∙ sym (ap (λ b. b || is_unit w neg) no)
