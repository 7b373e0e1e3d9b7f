use Rattle.std.proofs.Common.{map, take}
use Rattle.rup_model.proofs.Items.{map_below, map_item, map_end}
use Rattle.rup_model.proofs.Scan.{item_In}
use Rattle.rup_model.proofs.Resolvents.{resolves_more, rat_on_fails, rat_on_holds}
use Rattle.rup_model.proofs.rup.is_rat_on.Goals as goal

pub returns-then-not-branch : goal.returns-then-not-branch
returns-then-not-branch g c =
    let f = g.C.Literals.lits in
    let xs = c.args.clauses.now in
    let i = c.loop-clause.clause-index in
    let there = item_In (map f xs) i (f c.clause-item.result) c.lits.result.now (map_below f xs i c.loop-clause-test.true) (map_item f xs i c.clause-item.result c.clause-item.is) c.lits.ensures in
    rat_on_fails (g.C.Literals.lists xs) (map f xs) c.args.on c.args.lits.now c.lits.result.now c.in_ok-is_resolvent_rup.field-0 (g.met.C.Literals.each xs) there c.in_ok-is_resolvent_rup.ensures c.if-not-branch.true

pub loop-clause-preserved : goal.loop-clause-preserved
loop-clause-preserved g c =
    let f = g.C.Literals.lits in
    let xs = c.args.clauses.now in
    let i = c.loop-clause.clause-index in
    resolves_more (g.C.Literals.lists xs) (map f xs) c.args.on c.args.lits.now i (f c.clause-item.result) c.lits.result.now c.in_ok-is_resolvent_rup.field-0
    (map_below f xs i c.loop-clause-test.true) (map_item f xs i c.clause-item.result c.clause-item.is) c.lits.ensures c.loop-clause.invariant c.in_ok-is_resolvent_rup.ensures c.if-not-branch.false

pub returns : goal.returns
returns g c =
    let f = g.C.Literals.lits in
    let xs = c.args.clauses.now in
    let i = c.loop-clause.clause-index in
    rat_on_holds (g.C.Literals.lists xs) (map f xs) (take i (map f xs)) c.args.on c.args.lits.now (g.met.C.Literals.each xs) (map_end f xs i c.loop-clause-test.false) c.loop-clause.invariant
