use Rattle.std.proofs.Common.{refl}
use Rattle.std.specs.Prelude.{Ok}
use Rattle.dimacs_read.specs.Grammar.{Outcome}
use Rattle.dimacs_read.proofs.OneOutcome.{gives_one, same_formula}
use Rattle.dimacs_read.proofs.laws.reads_one_formula.Goals as goal

pub returns : goal.returns
returns c = λ text f g first second.
    let a : Outcome = Ok f in
    let b : Outcome = Ok g in
    same_formula f g a b refl refl (gives_one text a b first second)
