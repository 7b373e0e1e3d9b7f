use Rattle.std.proofs.Common.{arith, inl, inr, refl, ap}
use Rattle.simp_equiv.proofs.Moves.{step_finish, step_close}
use Rattle.simp_equiv.proofs.components.finish.Goals as goal
use Rattle.simp_equiv.proofs.components.finish.Goals.{then-frame-below, else-frame-below}

pub returns-in_ok-push : goal.returns-in_ok-push
returns-in_ok-push c =
    elim c.if-frame-below.branch [
      | then-frame-below w ↦ step_finish c.args.graph.now c.args.search.now _ c.args.frame c.in-Some.below c.pop.new.self.items c.if-frame-below.low c.requires.searching c.in-Some.ensures.items c.requires.over c.if-frame.true
          (omega arith) (omega arith) (inr w.low-is) refl refl c.in_ok-push.ensures.items refl
      | else-frame-below w ↦ step_finish c.args.graph.now c.args.search.now _ c.args.frame c.in-Some.below c.pop.new.self.items c.if-frame-below.low c.requires.searching c.in-Some.ensures.items c.requires.over c.if-frame.true
          (omega arith) (omega arith) (inl w.low-is) refl refl c.in_ok-push.ensures.items refl
    ]

pub returns-else-frame : goal.returns-else-frame
returns-else-frame c =
    step_close c.args.graph.now c.args.search.now c.close.new.search c.args.frame c.requires.searching c.requires.over c.if-frame.false
    c.close.ensures.marks c.close.ensures.stack (ap (λ v. v.items) c.close.ensures.frames) c.close.ensures.closed
