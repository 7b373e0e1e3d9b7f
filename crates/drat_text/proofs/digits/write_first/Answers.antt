use Rattle.std.proofs.Common.{◌∙◌, ◌++◌, ◌-◌, List, ℕ, take, ap, arith}
use Rattle.drat_text.proofs.Triples.{first_digits}
use Rattle.drat_text.proofs.digits.write_first.Goals as goal

pub returns-clause-written : goal.returns-clause-written
returns-clause-written c =
    let zeros = c.zeros_before-zeros in
    c.write_window.ensures (3 - zeros.result) (omega arith)
    ∙ ap (λ (xs : List ℕ). take c.args.at c.args.bytes.now ++ xs) (first_digits c.args.number zeros.result c.requires.few zeros.ensures.one zeros.ensures.two zeros.ensures.three)
