use Rattle.std.proofs.Common.{◌/◌, ◌%◌, take, sym, arith}
use Rattle.std.specs.Fmt.{decimal}
use Rattle.drat_text.specs.Digits.{three}
use Rattle.drat_text.proofs.Triples.{decimal_more}
use Rattle.drat_text.proofs.Words.{two_words}
use Rattle.drat_text.proofs.digits.write_six.Goals as goal

pub returns-clause-written : goal.returns-clause-written
returns-clause-written c =
    let n = c.args.number in
    two_words (take c.args.at c.args.bytes.now) (take c.write_first-middle.result c.write_first-middle.new.bytes) (take c.write_three.result c.write_three.new.bytes)
    (decimal (n / 1000)) (three (n % 1000)) (decimal n) c.write_first-middle.ensures.written c.write_three.ensures.written (sym (decimal_more n (omega arith) (omega arith)))
