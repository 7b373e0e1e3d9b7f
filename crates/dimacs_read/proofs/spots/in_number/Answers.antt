use Rattle.std.proofs.lemmas.Result.{err_from_is_err_and}
use Rattle.dimacs_read.proofs.Numbers.{number_digit, number_newline, number_blank}
use Rattle.dimacs_read.proofs.spots.in_number.Goals as goal

pub returns-in_err-take_integer-in-Newline-clause-stops :
    goal.returns-in_err-take_integer-in-Newline-clause-stops
returns-in_err-take_integer-in-Newline-clause-stops c =
    let p = err_from_is_err_and c.from_residual.result c.from_residual.ensures.1 in
    rw (p.1, p.2) (number_newline c.args.body.now _ c.args.neg c.args.value c.args.byte _ (rw c.in-Newline.is at c.requires.kind) c.in_err-take_integer-in-Newline.ensures.bad)

pub returns-in_err-take_integer-in-Blank-clause-stops :
    goal.returns-in_err-take_integer-in-Blank-clause-stops
returns-in_err-take_integer-in-Blank-clause-stops c =
    let p = err_from_is_err_and c.from_residual-in_err-take_integer-in-Blank.result c.from_residual-in_err-take_integer-in-Blank.ensures.1 in
    rw (p.1, p.2) (number_blank c.args.body.now _ c.args.neg c.args.value c.args.byte _ (rw c.in-Blank.is at c.requires.kind) c.in_err-take_integer-in-Blank.ensures.bad)

pub returns-in-Digit-clause-leads : goal.returns-in-Digit-clause-leads
returns-in-Digit-clause-leads c =
    let kind = rw c.in-Digit.is at c.requires.kind in
    number_digit c.args.body.now c.args.neg c.args.value c.with_digit.result c.args.byte c.in-Digit.digit c.requires.lawful kind.0 kind.1 c.with_digit.ensures
