use Rattle.std.proofs.Common.{refl}
use Rattle.std.specs.Prelude.{Ok, Err}
use Rattle.dimacs_read.specs.Grammar.{Outcome}
use Rattle.dimacs_read.proofs.OneOutcome.{gives_one, apart}
use Rattle.dimacs_read.proofs.laws.read_or_bad.Goals as goal

pub returns : goal.returns
returns c = λ text formula code line reads bad.
    let a : Outcome = Ok formula in
    let b : Outcome = Err (record { code = code; line = line }) in
    apart formula (record { code = code; line = line }) a b refl refl (gives_one text a b reads bad)
