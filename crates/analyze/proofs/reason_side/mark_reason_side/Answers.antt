use Rattle.std.proofs.Common.{◌∙◌}
use Rattle.analyze.proofs.ReasonSide.{HasMarkedReasons-more}
use Rattle.analyze.proofs.reason_side.mark_reason_side.Goals as goal

pub loop-place-preserved : goal.loop-place-preserved
loop-place-preserved g c =
    let i = c.loop-place.invariant in
    record {
      same = c.mark_reason-in-loop-place.ensures.same ∙ i.same;
      marking = c.mark_reason-in-loop-place.ensures.marking;
      marks = HasMarkedReasons-more _ _ _ _ _ _ _ _ c.loop-place-test.true i.marks (rw i.same at c.mark_reason-in-loop-place.ensures.marks);
    }
