use Rattle.std.proofs.Common.{◌++◌, ◌+◌, take, set, codes, arith, refl}
use Rattle.drat_text.specs.Text.{lits_text}
use Rattle.drat_text.proofs.Triples.{two_set}
use Rattle.drat_text.proofs.Words.{two_words}
use Rattle.drat_text.proofs.literals.write_rest.Goals as goal

pub returns-clause-written : goal.returns-clause-written
returns-clause-written c =
    let at = c.write_lits-at.result in
    let bytes = c.write_lits-at.new.bytes in
    let text = lits_text c.args.lits.now in
    two_words (take c.args.start c.args.bytes.now) (take at bytes) (take (at + 2) (set (set bytes at 48) (at + 1) 10)) text (codes "0\n") (text ++ codes "0\n")
    c.write_lits-at.ensures.written (two_set at 48 10 bytes (omega arith)) refl
