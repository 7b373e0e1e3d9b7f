use Rattle.std.proofs.Common.{◌≡◌, ◌∙◌, ◌-◌, ℕ, suc, List, IfOk, subst, arith}
use Rattle.sat_words.specs.Literal.{Literal}
use Rattle.sat_words.specs.Clause.{InOrder}
use Rattle.share_core.proofs.Beginning.{lits_under}
use Rattle.share_core.proofs.openings.lits_under.Goals as goal

pub returns : goal.returns
returns c =
    let k : ℕ = c.args.number - 1 in
    let e : c.args.number ≡ suc k = omega arith in
    let m : List Literal = c.index-clauses-index.result in
    subst (λ (ls : List Literal). IfOk c.from_slice-2.result (λ lits. lits ≡ ls))
    (c.lits.ensures.value ∙ c.index-clauses-index.is ∙ lits_under c.args.clauses.now c.args.number k m e (omega arith) (subst InOrder c.index-clauses-index.is c.lits.ensures.ordered)) c.from_slice-2.ensures
