use Rattle.std.proofs.Common.{◌∙◌, ◌++◌, List, ℕ, take, ap, arith}
use Rattle.drat_text.proofs.Triples.{window_three}
use Rattle.drat_text.proofs.digits.write_three.Goals as goal

pub returns-clause-written : goal.returns-clause-written
returns-clause-written c = c.write_window.ensures 3 (omega arith) ∙ ap (λ (xs : List ℕ). take c.args.at c.args.bytes.now ++ xs) (window_three c.args.number)
