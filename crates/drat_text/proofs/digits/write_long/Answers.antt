use Rattle.std.proofs.Common.{◌/◌, ◌%◌, take, sym, arith}
use Rattle.std.specs.Fmt.{decimal}
use Rattle.drat_text.specs.Digits.{three}
use Rattle.drat_text.proofs.Triples.{decimal_more}
use Rattle.drat_text.proofs.Words.{two_words}
use Rattle.drat_text.proofs.digits.write_long.Goals as goal

pub returns-clause-written : goal.returns-clause-written
returns-clause-written c =
    let n = c.args.number in
    let high = n / 1000 in
    let front = take c.args.at c.args.bytes.now in
    let middle = take c.write_three-middle.result c.write_three-middle.new.bytes in
    two_words front middle (take c.write_three.result c.write_three.new.bytes) (decimal high) (three (n % 1000)) (decimal n)
    (two_words front (take c.write_middle-first.result c.write_middle-first.new.bytes) middle (decimal (high / 1000)) (three (high % 1000)) (decimal high)
    c.write_middle-first.ensures.written c.write_three-middle.ensures.written (sym (decimal_more high (omega arith) (omega arith))))
    c.write_three.ensures.written (sym (decimal_more n (omega arith) (omega arith)))
