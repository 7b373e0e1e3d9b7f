use Rattle.std.proofs.Common.{List, subst}
use Rattle.sat_words.specs.Literal.{Literal}
use Rattle.simp_units.specs.Demand.{IsLook}
use Rattle.simp_units.proofs.Looking.{look_is}
use Rattle.simp_units.proofs.look.look_up.Goals as goal

pub returns-in-Some : goal.returns-in-Some
returns-in-Some g c = look_is c.args.work.now c.args.values.now c.args.number c.in-Some.clause.now c.in-Some.ensures.work c.in-Some.ensures.some c.demand_of.result
    (subst (λ (x : List Literal). IsLook c.args.values.now x c.demand_of.result) c.lits.ensures.value c.demand_of.ensures)

pub returns-in-None : goal.returns-in-None
returns-in-None g c d h = absurd (c.in-None.ensures.none d h)
