use Rattle.std.proofs.Common.{◌≡◌, ◌<◌, ◌+◌, ◌-◌, ℕ, List, ap, ◌∙◌, sym, subst, arith, length}
use Rattle.std.proofs.lemmas.List.{get_or_default}
use Rattle.ring_trail.specs.declared.step.TrailStep.{TrailStep}
use Rattle.ring_trail.specs.TrailData.{TrailData, start_of}
use Rattle.ring_trail.specs.Inside.{Parts}
use Rattle.ring_trail.proofs.Levels.{start_of-Parts, start_of-zero}
use Rattle.ring_trail.proofs.Values.{Kept-room}
use Rattle.ring_trail.proofs.trail.Trail.start.Goals as goal

parts_at : (c : goal.After-row_known-1) → Parts c.self.inside.steps.items (c.args.level - 1) c.index.result.now
parts_at c =
    let level = ap (λ (t : TrailData). t.level) c.self.view_is in
    let lt : c.args.level - 1 < length c.self.inside.starts.items = omega (arith, c.requires, c.if-level-eq0.false) in
    subst (λ (s : ℕ). Parts c.self.inside.steps.items (c.args.level - 1) s)
    (sym (c.index.ensures ∙ get_or_default c.self.inside.starts.items (c.args.level - 1) c.index.result.now 0 lt))
    (c.self.invariant.parts (c.args.level - 1) lt)

pub returns-then-level-eq0-clause-start : goal.returns-then-level-eq0-clause-start
returns-then-level-eq0-clause-start c = sym (ap (λ (k : ℕ). start_of c.args.self.now.steps k) c.if-level-eq0.true ∙ start_of-zero c.args.self.now.steps)

pub overflow_cast-result : goal.overflow_cast-result
overflow_cast-result c =
    let i = c.self.inside in
    let h = c.self.invariant in
    omega (arith, (parts_at c).low, Kept-room i.steps.items i.values h.kept, h.range, h.small)

pub returns-clause-start : goal.returns-clause-start
returns-clause-start c =
    let pos : c.args.level - 1 + 1 ≡ c.args.level = omega (arith, c.if-level-eq0.false) in
    sym (ap (λ (k : ℕ). start_of c.args.self.now.steps k) (sym pos)
    ∙ ap (λ (s : List TrailStep). start_of s (c.args.level - 1 + 1)) (sym (ap (λ (t : TrailData). t.steps) c.self.view_is))
    ∙ start_of-Parts (c.args.level - 1) c.self.inside.steps.items c.index.result.now (parts_at c))
