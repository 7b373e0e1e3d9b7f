use Rattle.std.proofs.Common.{ap, ◌∙◌, not, drop, arith}
use Rattle.std.specs.List.{position}
use Rattle.std.proofs.lemmas.List.{take_all, length-drop}
use Rattle.sat_words.specs.Literal.{Literal}
use Rattle.sat_words.specs.Clause.{has}
use Rattle.ring_port.proofs.opening_units.first_new_from.Goals as goal

pub returns : goal.returns
returns c =
    let e = length-drop c.args.from c.args.units.now in
    c.first_new.ensures ∙ ap (position (λ (l : Literal). not (has c.args.written.now l))) (take_all _ (drop c.args.from c.args.units.now) (omega arith))
