use Rattle.std.proofs.Common.{◌≡◌, ◌∙◌, ◌&&◌, List, length, sym, ap, not, arith}
use Rattle.sat_words.specs.Literal.{Literal}
use Rattle.sat_words.specs.Clause.{has_opposites}
use Rattle.simp_base.proofs.Long.{two_if_long}
use Rattle.simp_base.proofs.part.takes_part.Goals as goal

pub returns-then-lits-ge2-clause-is : goal.returns-then-lits-ge2-clause-is
returns-then-lits-ge2-clause-is c =
    let n : length c.lits.result.now ≡ length c.args.clause.now = ap (λ (x : List Literal). length x) c.lits.ensures.value in
    ap not c.is_tautology.ensures ∙ sym (ap (λ b. b && not (has_opposites c.args.clause.now)) (two_if_long c.args.clause.now c.lits.ensures.ordered (omega (arith, n, c.if-lits-ge2.true))))
