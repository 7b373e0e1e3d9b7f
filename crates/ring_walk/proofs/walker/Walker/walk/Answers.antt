use Rattle.std.proofs.Common.{◌≡◌, ◌∙◌, ℕ, ◌+◌, sym, ap, subst, arith}
use Rattle.ring_walk.specs.WalkData.{WalkData, false_under}
use Rattle.ring_walk.specs.Walk.{MakesSteps}
use Rattle.ring_walk.proofs.Walking.{begun, kept, better}
use Rattle.ring_walk.proofs.walker.Walker.walk.Goals as goal
use Rattle.ring_walk.proofs.walker.Walker.walk.Goals.{then-count-least, else-count-least}

pub loop-step-init : goal.loop-step-init
loop-step-init c =
    let w = c.args.self.now in
    let g = c.args.generator.now in
    let same = c.keep.ensures in
    let count : c.false_count-least.result ≡ false_under w.clauses w.values = c.false_count-least.ensures.count ∙ ap (λ (d : WalkData). false_under d.clauses d.values) same in
    subst (λ (d : WalkData). MakesSteps w g 0 c.false_count-least.result d g) (sym same)
    (subst (λ (n : ℕ). MakesSteps w g 0 n (record w { best = w.values }) g) (sym count) (begun w g))

pub loop-step-preserved : goal.loop-step-preserved
loop-step-preserved c =
    let old = c.args.self.now in
    let g = c.args.generator.now in
    let w = c.loop-step.self in
    let v = c.step.new.self in
    let h = c.loop-step.generator in
    let n = c.step.new.generator in
    let made = c.loop-step._step in
    let count = c.loop-step.least in
    let met = c.false_count-count.ensures.count in
    elim c.if-count-least.branch [
      | then-count-least t ↦ (
          let less = t.if-count-least.true in
          subst (λ (d : WalkData). MakesSteps old g (made + 1) c.if-count-least.least d n) (sym (t.self-is ∙ t.keep-then-count-least.ensures))
          (subst (λ (m : ℕ). MakesSteps old g (made + 1) m (record v { best = v.values }) n) (sym (t.least-is ∙ met))
          (better old w v g h n made count c.loop-step.invariant c.step.ensures.step c.step.ensures.same (omega arith))))
      | else-count-least t ↦ (
          let more = t.if-count-least.false in
          subst (λ (d : WalkData). MakesSteps old g (made + 1) c.if-count-least.least d n) (sym t.self-is)
          (subst (λ (m : ℕ). MakesSteps old g (made + 1) m v n) (sym t.least-is)
          (kept old w v g h n made count c.loop-step.invariant c.step.ensures.step c.step.ensures.same (omega arith))))
    ]
