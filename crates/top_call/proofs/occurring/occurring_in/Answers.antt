use Rattle.std.proofs.Common.{sym, subst, ℕ, List, [], Bool, All}
use Rattle.std.proofs.lemmas.List.{take_all}
use Rattle.sat_words.specs.Literal.{Literal}
use Rattle.sat_words.specs.Literal.{IsOn}
use Rattle.top_call.specs.Occurring.{Marks, IsOccurring}
use Rattle.top_call.proofs.Models.{occurring_start, occurring_next}
use Rattle.top_call.proofs.occurring.occurring_in.Goals as goal

pub loop-clause-init : goal.loop-clause-init
loop-clause-init c = subst (λ (m : List Bool). IsOccurring [] c.args.vars m) (sym c.in_ok-occurring.ensures) (occurring_start c.args.vars)

pub mark-requires : goal.mark-requires
mark-requires c =
    let on : All (IsOn c.args.vars) c.clause-item.result = subst (All (IsOn c.args.vars)) (sym c.clause-item.is) (c.requires c.loop-clause.clause-index c.clause-item.result c.loop-clause-test.true) in
    subst (λ (n : ℕ). All (IsOn n) c.lits.result.now) (sym c.loop-clause.invariant.long) (subst (All (IsOn c.args.vars)) (sym c.lits.ensures.value) on)

pub loop-clause-preserved : goal.loop-clause-preserved
loop-clause-preserved c =
    occurring_next c.args.clauses.now c.args.vars c.loop-clause.occurring c.mark.new.occurring c.loop-clause.clause-index c.clause-item.result c.loop-clause-test.true c.clause-item.is c.loop-clause.invariant
    (subst (λ (d : List Literal). Marks d c.loop-clause.occurring c.mark.new.occurring) c.lits.ensures.value c.mark.ensures)

pub returns : goal.returns
returns c = subst (λ (cs : List (List Literal)). IsOccurring cs c.args.vars c.loop-clause.occurring) (take_all c.loop-clause.clause-index c.args.clauses.now c.loop-clause-test.false) c.loop-clause.invariant
