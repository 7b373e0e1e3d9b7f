use Rattle.std.proofs.Common.{◌≡◌, ◌∙◌, ◌-◌, ℕ, suc, List, Some, subst, ap, arith}
use Rattle.sat_words.specs.Literal.{Literal}
use Rattle.sat_words.specs.Clause.{InOrder}
use Rattle.share_core.proofs.Rounding.{given_at}
use Rattle.share_core.proofs.rounds.given_under.Goals as goal

pub returns : goal.returns
returns c =
    let k : ℕ = c.args.number - 1 in
    let e : c.args.number ≡ suc k = omega arith in
    ap (λ (ls : List Literal). Some ls) (c.in_ok-from_slice.ensures ∙ c.lits.ensures.value ∙ c.index-clauses-index.is)
    ∙ given_at c.args.clauses.now c.args.number k c.index-clauses-index.result e (omega arith) (subst InOrder c.index-clauses-index.is c.lits.ensures.ordered)
