use Rattle.std.proofs.Common.{◌≡◌, ◌∙◌, ◌++◌, ◌+◌, List, ℕ, take, sym, ap, arith}
use Rattle.drat_text.specs.Binary.{groups, lit_bytes, lits_bytes}
use Rattle.drat_text.proofs.LineText.{words_more}
use Rattle.drat_text.proofs.Words.{two_words}
use Rattle.drat_text.proofs.groups.write_codes.Goals as goal

pub loop-lit-preserved : goal.loop-lit-preserved
loop-lit-preserved c =
    let l = c.loop-lit in
    let lits = c.args.lits.now in
    let lit = c.lit-item.result in
    let word : groups 5 c.code.result ≡ lit_bytes lit = ap (λ (n : ℕ). groups 5 n) c.code.ensures in
    record {
      written = two_words (take c.args.start c.args.bytes.now) (take l.at l.bytes) (take c.write_groups-at.result c.write_groups-at.new.bytes)
          (lits_bytes (take l.lit-index lits)) (groups 5 c.code.result) (lits_bytes (take (l.lit-index + 1) lits))
          l.invariant.written c.write_groups-at.ensures.written
          (ap (λ (bs : List ℕ). lits_bytes (take l.lit-index lits) ++ bs) word ∙ sym (words_more lit_bytes lits l.lit-index lit c.loop-lit-test.true c.lit-item.is));
      end = omega (arith, l.invariant.end, c.write_groups-at.ensures.end);
    }
