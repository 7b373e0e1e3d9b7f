use Rattle.std.proofs.Common.{sym, subst, false, get_or}
use Rattle.std.proofs.lemmas.List.{get_or_default}
use Rattle.sat_words.specs.Literal.{Literal}
use Rattle.simp_subsume.specs.Compared.{IsRelation}
use Rattle.simp_subsume.proofs.Walking.{all_relation, stopped_apart, walked_more, ended_apart}
use Rattle.simp_subsume.proofs.relation.relation_of.Goals as goal

pub returns-then-walk-clause : goal.returns-then-walk-clause
returns-then-walk-clause c =
    subst (IsRelation c.args.clause.now c.args.other.now) (sym c.all_found.ensures)
    (all_relation c.args.clause.now c.args.other.now c.requires.clause_ordered c.requires.other_ordered c.requires.no_opposites c.loop-lit.walk c.loop-lit.lit-index c.loop-lit.invariant c.if-walk-clause.true)

pub returns-in-None : goal.returns-in-None
returns-in-None c =
    stopped_apart c.args.clause.now c.args.other.now c.requires.clause_ordered c.requires.other_ordered c.requires.no_opposites c.loop-lit.walk c.if-walk-clause.false c.index-clause-walk.result c.index-clause-walk.is
    c.loop-lit.lit-index c.loop-lit-test.true c.lit-item.result c.lit-item.is c.loop-lit.invariant c.in-None.ensures

pub loop-lit-preserved : goal.loop-lit-preserved
loop-lit-preserved c =
    walked_more c.args.clause.now c.args.other.now c.requires.clause_ordered c.requires.other_ordered c.requires.no_opposites c.loop-lit.walk c.if-walk-clause.false c.index-clause-walk.result c.index-clause-walk.is
    c.loop-lit.lit-index c.loop-lit-test.true c.lit-item.result c.lit-item.is c.loop-lit.invariant c.in-Some.next c.in-Some.ensures

pub returns-then-walk-clause-2 : goal.returns-then-walk-clause-2
returns-then-walk-clause-2 c none =
    let xs = c.args.clause.now in let i = c.loop-lit.walk.found in
    let any : Literal = record { var = 0; neg = false } in
    let wanted : Literal = get_or xs i any in
    ended_apart xs c.args.other.now c.requires.clause_ordered c.requires.other_ordered c.requires.no_opposites c.loop-lit.walk c.if-walk-clause-2.true wanted (get_or_default xs i any wanted c.if-walk-clause-2.true)
    c.loop-lit.lit-index c.loop-lit-test.false c.loop-lit.invariant

pub returns-else-walk-clause-2 : goal.returns-else-walk-clause-2
returns-else-walk-clause-2 c =
    subst (IsRelation c.args.clause.now c.args.other.now) (sym c.all_found-else-walk-clause-2.ensures)
    (all_relation c.args.clause.now c.args.other.now c.requires.clause_ordered c.requires.other_ordered c.requires.no_opposites c.loop-lit.walk c.loop-lit.lit-index c.loop-lit.invariant c.if-walk-clause-2.false)
