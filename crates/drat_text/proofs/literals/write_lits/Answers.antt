use Rattle.std.proofs.Common.{◌++◌, ◌+◌, take, codes, sym, arith}
use Rattle.sat_words.specs.Literal.{lit_text}
use Rattle.drat_text.specs.Text.{lits_text}
use Rattle.drat_text.proofs.LineText.{words_more}
use Rattle.drat_text.proofs.Words.{two_words}
use Rattle.drat_text.proofs.literals.write_lits.Goals as goal

pub loop-lit-preserved : goal.loop-lit-preserved
loop-lit-preserved c =
    let l = c.loop-lit in
    let lits = c.args.lits.now in
    let lit = c.lit-item.result in
    record {
      written = two_words (take c.args.start c.args.bytes.now) (take l.at l.bytes) (take c.write_lit-at.result c.write_lit-at.new.bytes)
          (lits_text (take l.lit-index lits)) (lit_text lit ++ codes " ") (lits_text (take (l.lit-index + 1) lits))
          l.invariant.written c.write_lit-at.ensures.written (sym (words_more (λ x. lit_text x ++ codes " ") lits l.lit-index lit c.loop-lit-test.true c.lit-item.is));
      end = omega (arith, l.invariant.end, c.write_lit-at.ensures.end);
    }
