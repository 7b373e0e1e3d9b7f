use Rattle.std.proofs.Common.{◌≡◌, refl}
use Rattle.std.specs.Prelude.{Err}
use Rattle.dimacs_read.specs.Grammar.{Outcome, Fault}
use Rattle.dimacs_read.proofs.OneOutcome.{gives_one, same_place}
use Rattle.dimacs_read.proofs.laws.has_one_first_bad_place.Goals as goal

pub returns : goal.returns
returns c = λ text code other line second first bad.
    let p : Fault = record { code = code; line = line } in
    let q : Fault = record { code = other; line = second } in
    let a : Outcome = Err p in
    let b : Outcome = Err q in
    let same : p ≡ q = same_place p q a b refl refl (gives_one text a b first bad) in
    ((λ i. (same i).code), (λ i. (same i).line))
