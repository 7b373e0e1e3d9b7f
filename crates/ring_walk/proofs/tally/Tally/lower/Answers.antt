use Rattle.std.proofs.Common.{◌∙◌, length, List, subst, sym, arith, ap}
use Rattle.std.proofs.lemmas.List.{length-set}
use Rattle.ring_walk.specs.Tally.{lowered, count_at, TallyData, CanLower}
use Rattle.ring_walk.specs.declared.tally.Count.{Count}
use Rattle.ring_walk.proofs.tally.Tally.lower.Goals as goal

pub invariant_of-self : goal.invariant_of-self
invariant_of-self c =
    let can : CanLower c.self.inside.vars (count_at c.self.inside.counts.items c.args.clause) c.args.var = subst (λ (t : TallyData). CanLower t.vars (count_at t.counts c.args.clause) c.args.var) (sym c.self.view_is) c.requires.can in
    let long = ap (λ (xs : List Count). length xs) c.lower_in.ensures.counts ∙ length-set c.self.inside.counts.items c.args.clause (lowered (count_at c.self.inside.counts.items c.args.clause) c.args.var) in
    let room = c.self.invariant.1 in
    let same = c.lower_in.ensures.room in
    (c.lower_in.ensures.tables c.self.inside.vars c.self.invariant.0 can, omega arith)
