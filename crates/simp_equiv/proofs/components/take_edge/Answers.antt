use Rattle.std.proofs.Common.{◌≡◌, ◌<◌, ◌∙◌, length, List, [], ◌∷◌, ◌++◌, ap, arith, inl, inr, refl}
use Rattle.simp_equiv.specs.Searches.{mark_in, first_frame}
use Rattle.simp_equiv.specs.declared.components.Mark.TheVariants.{Open}
use Rattle.simp_equiv.specs.declared.components.StackFrame.{StackFrame}
use Rattle.simp_equiv.proofs.Moves.{target_in_range, mark_read, step_new, step_open, step_closed}
use Rattle.simp_equiv.proofs.components.take_edge.Goals as goal
use Rattle.simp_equiv.proofs.components.take_edge.Goals.{then-place-frame, else-place-frame}

pub index-requires : goal.index-requires
index-requires c = let lt : c.args.target < length c.args.search.now.marks.items = target_in_range c.args.graph.now c.args.search.now c.args.frame _ c.args.target c.requires.range c.requires.searching c.requires.more c.requires.here in omega arith

pub open-requires : goal.open-requires
open-requires c = target_in_range c.args.graph.now c.args.search.now c.args.frame _ c.args.target c.requires.range c.requires.searching c.requires.more c.requires.here

pub returns-in_ok-open-in-New : goal.returns-in_ok-open-in-New
returns-in_ok-open-in-New c =
    let lt : c.args.target < length c.args.search.now.marks.items = target_in_range c.args.graph.now c.args.search.now c.args.frame _ c.args.target c.requires.range c.requires.searching c.requires.more c.requires.here in
    let o = c.in_ok-open-in-New.ensures in
    step_new c.args.graph.now c.args.search.now c.open.new.search c.args.frame c.args.target c.requires.searching c.requires.more c.requires.here lt
    (mark_read c.args.search.now.marks.items c.args.target c.index.result.now lt c.index.ensures ∙ c.in-New.is)
    o.marks o.stack (o.frames ∙ ap (λ (x : List StackFrame). x ++ first_frame c.args.target (length c.args.search.now.stack.items) ∷ []) c.in_ok-push-in-New.ensures.items) o.closed

pub returns-in_ok-push-in-Open : goal.returns-in_ok-push-in-Open
returns-in_ok-push-in-Open c =
    let lt : c.args.target < length c.args.search.now.marks.items = target_in_range c.args.graph.now c.args.search.now c.args.frame _ c.args.target c.requires.range c.requires.searching c.requires.more c.requires.here in
    let marked : mark_in c.args.search.now.marks.items c.args.target ≡ Open c.in-Open.place = mark_read c.args.search.now.marks.items c.args.target c.index.result.now lt c.index.ensures ∙ c.in-Open.is in
    elim c.if-place-frame.branch [
      | then-place-frame w ↦ step_open c.args.graph.now c.args.search.now _ c.args.frame c.args.target c.in-Open.place c.if-place-frame.low c.requires.searching c.requires.more c.requires.here marked
          (omega arith) (omega arith) (inr w.low-is) refl refl c.in_ok-push-in-Open.ensures.items refl
      | else-place-frame w ↦ step_open c.args.graph.now c.args.search.now _ c.args.frame c.args.target c.in-Open.place c.if-place-frame.low c.requires.searching c.requires.more c.requires.here marked
          (omega arith) (omega arith) (inl w.low-is) refl refl c.in_ok-push-in-Open.ensures.items refl
    ]

pub returns-in_ok-push-in-Closed : goal.returns-in_ok-push-in-Closed
returns-in_ok-push-in-Closed c =
    let lt : c.args.target < length c.args.search.now.marks.items = target_in_range c.args.graph.now c.args.search.now c.args.frame _ c.args.target c.requires.range c.requires.searching c.requires.more c.requires.here in
    step_closed c.args.graph.now c.args.search.now _ c.args.frame c.args.target _ c.requires.searching c.requires.more c.requires.here
    (mark_read c.args.search.now.marks.items c.args.target c.index.result.now lt c.index.ensures ∙ c.in-Closed.is)
    refl refl c.in_ok-push-in-Closed.ensures.items refl
