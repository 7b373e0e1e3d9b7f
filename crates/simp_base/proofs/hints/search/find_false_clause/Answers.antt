use Rattle.std.proofs.Common.{ℕ, length, map, subst, None}
use Rattle.sat_words.specs.Literal.{opposite}
use Rattle.sat_words.specs.Clause.{has}
use Rattle.simp_base.specs.Search.{WasSpread, WereScanned}
use Rattle.simp_base.proofs.Quietness.{nothing_follows}
use Rattle.simp_base.proofs.hints.search.find_false_clause.Goals as goal

pub unreachable-requires : goal.unreachable-requires
unreachable-requires c =
    let cells = c.args.clauses.now.clauses in let lits = c.args.lits.now in
    let a = c.assume.new.trail.steps in let b = c.spread.new.trail.steps in let d = c.scan.new.trail.steps in let e = c.spread-2.new.trail.steps in
    let first = c.in_ok-found.ensures.spread in
    let whole : WereScanned cells b d None = subst (WereScanned cells b d) c.in_default-2.is c.in_ok-found-2.ensures.scanned in
    let last : WasSpread cells d e (length b) None = subst (WasSpread cells d e (length b)) c.in-None.is (subst (λ (n : ℕ). WasSpread cells d e n c.in_ok-found-3.field-0) c.len-reached.ensures c.in_ok-found-3.ensures.spread) in
    nothing_follows cells lits e c.requires.rup c.requires.no_opposites c.requires.start
    (last.goes_on.trail (has (map opposite lits)) (whole.goes_on.trail (has (map opposite lits)) (first.goes_on.trail (has (map opposite lits)) (c.in_ok-assume.ensures.trail cells))))
    (λ n x h. last.ends n x h (whole.ends n x h))
