use Rattle.std.proofs.Common.{◌≡◌, ◌∙◌, length, List, arith, ap}
use Rattle.std.proofs.lemmas.List.{length-set}
use Rattle.ring_walk.specs.Tally.{raised, count_at, TallyData}
use Rattle.ring_walk.specs.declared.tally.Count.{Count}
use Rattle.ring_walk.proofs.tally.Tally.raise.Goals as goal

pub invariant_of-self : goal.invariant_of-self
invariant_of-self c =
    let vars : c.self.inside.vars ≡ c.args.self.now.vars = ap (λ (t : TallyData). t.vars) c.self.view_is in
    let var = c.requires.var in
    let long = ap (λ (xs : List Count). length xs) c.raise_in.ensures.counts ∙ length-set c.self.inside.counts.items c.args.clause (raised (count_at c.self.inside.counts.items c.args.clause) c.args.var) in
    let room = c.self.invariant.1 in
    let same = c.raise_in.ensures.room in
    (c.raise_in.ensures.tables c.self.inside.vars c.self.invariant.0 (omega arith), omega arith)
