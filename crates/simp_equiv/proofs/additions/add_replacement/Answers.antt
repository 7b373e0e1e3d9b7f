use Rattle.std.proofs.Common.{subst}
use Rattle.simp_base.proofs.Known.{known_alive}
use Rattle.simp_equiv.specs.Tables.{stand_in}
use Rattle.simp_equiv.specs.Rewritten.{IsReplacement}
use Rattle.simp_equiv.proofs.Adding.{replacement_follows, replacement_on, replacement_some, added_none, was_added}
use Rattle.simp_equiv.proofs.additions.add_replacement.Goals as goal

pub add_clause-requires-clause-rup : goal.add_clause-requires-clause-rup
add_clause-requires-clause-rup g c =
    let w = c.args.work.now in let sin = stand_in c.args.table.now in
    let t = subst (IsReplacement w sin c.args.number) c.in-Some.is c.in_ok-clause.ensures.is in
    replacement_follows w sin t.0 c.in-Some.clause c.requires.leads (known_alive w c.args.number t.0 t.1) t.3

pub add_clause-requires-clause-some : goal.add_clause-requires-clause-some
add_clause-requires-clause-some g c =
    let w = c.args.work.now in let sin = stand_in c.args.table.now in
    let t = subst (IsReplacement w sin c.args.number) c.in-Some.is c.in_ok-clause.ensures.is in
    replacement_some sin t.0 c.in-Some.clause t.2 t.3

pub add_clause-requires-clause-on : goal.add_clause-requires-clause-on
add_clause-requires-clause-on g c =
    let w = c.args.work.now in let sin = stand_in c.args.table.now in
    let t = subst (IsReplacement w sin c.args.number) c.in-Some.is c.in_ok-clause.ensures.is in
    replacement_on w c.args.table.now c.args.number t.0 c.in-Some.clause c.requires.work c.requires.places t.1 t.3

pub returns-in-Some-clause-added : goal.returns-in-Some-clause-added
returns-in-Some-clause-added g c =
    let w = c.args.work.now in let sin = stand_in c.args.table.now in
    let t = subst (IsReplacement w sin c.args.number) c.in-Some.is c.in_ok-clause.ensures.is in
    was_added w c.add_clause.new.work sin c.args.number t.0 c.in-Some.clause c.requires.work t.1 t.3 c.add_clause.result c.add_clause.ensures.grown

pub returns-in-None-clause-added : goal.returns-in-None-clause-added
returns-in-None-clause-added g c =
    let w = c.args.work.now in let sin = stand_in c.args.table.now in
    added_none w sin c.args.number (subst (IsReplacement w sin c.args.number) c.in-None.is c.in_ok-clause.ensures.is)

pub add_clause-requires-clause-no_opposites : goal.add_clause-requires-clause-no_opposites
add_clause-requires-clause-no_opposites g c =
    let w = c.args.work.now in let sin = stand_in c.args.table.now in
    let t = subst (IsReplacement w sin c.args.number) c.in-Some.is c.in_ok-clause.ensures.is in
    t.4
