use Rattle.std.proofs.Common.{ap, ◌∙◌, arith}
use Rattle.ring_trail.specs.TrailData.{TrailData, value_of}
use Rattle.ring_trail.proofs.trail.Trail.value.Goals as goal

pub returns : goal.returns
returns c =
    let vars = ap (λ (t : TrailData). t.vars) c.self.view_is in
    c.value.ensures ∙ c.self.invariant.kept.told c.args.var (omega (arith, c.self.invariant.range, c.requires)) ∙ ap (λ (t : TrailData). value_of t.steps c.args.var) c.self.view_is
