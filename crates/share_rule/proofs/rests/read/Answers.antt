use Rattle.std.proofs.Common.{◌∙◌, Bool, sym, subst}
use Rattle.share_rule.specs.Rests.{TellsRests}
use Rattle.share_rule.proofs.rests.read.Goals as goal

pub returns-then-is_broken : goal.returns-then-is_broken
returns-then-is_broken g c = λ core glue at holes.
    subst (λ (b : Bool). TellsRests core glue b c.new.result.items c.new-then-is_broken.result.items) (sym c.if-is_broken.true ∙ c.is_broken.ensures) (c.new.ensures.items, c.new-then-is_broken.ensures.items)

pub returns : goal.returns
returns g c = λ core glue at holes.
    let whole = sym c.is_broken.ensures ∙ c.if-is_broken.false in
    subst (λ (b : Bool). TellsRests core glue b c.in_ok-rests.rests.items c.in_ok-units.units.items) (sym whole) (c.in_ok-rests.ensures core glue at (holes whole), c.in_ok-units.ensures core glue at)
