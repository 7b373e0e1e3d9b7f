use Rattle.std.proofs.Common.{◌∙◌, ◌≤◌, sym, ap, arith}
use Rattle.ring_port.proofs.Holdings.{held_is_known}
use Rattle.analyze.specs.AnalysisData.{AnalysisData}
use Rattle.analyze.proofs.Refuting.{rup-none}
use Rattle.analyze.proofs.Starting.{CanTraceClause-zero}
use Rattle.analyze.proofs.Parts.{vars_of_trail, IsLemma-from, CanTraceClause-from, touched_in_range, touched_short, kept_in_range, kept_few}
use Rattle.analyze.proofs.ReasonSide.{point_up_to, kept_up_to, AreAnalyzed-from}
use Rattle.analyze.proofs.analysis.Analysis.analyze.Goals as goal

pub returns-then-level-eq0-clause-found : goal.returns-then-level-eq0-clause-found
returns-then-level-eq0-clause-found g c =
    let z = sym c.level_of_clause-level.ensures.level ∙ c.if-level-eq0.true in
    (z, rup-none _ _ _ c.level_of_clause-level.ensures.shape c.requires.reasoned (held_is_known _ _ c.requires.held) c.requires.conflict z)

pub write_kept_places-requires-clause-in_range : goal.write_kept_places-requires-clause-in_range
write_kept_places-requires-clause-in_range g c =
    rw c.touched.ensures (touched_in_range c.args.trail.now _ _ c.level_of_clause-level.ensures.shape c.find_first_uip-point.ensures.marking)

pub write_kept_places-requires-clause-room : goal.write_kept_places-requires-clause-room
write_kept_places-requires-clause-room g c =
    let few = touched_short c.args.trail.now _ _ c.level_of_clause-level.ensures.shape c.find_first_uip-point.ensures.marking in
    let s = c.level_of_clause-level.ensures.shape.short in
    let w = ap (λ (d : AnalysisData). d.vars) c.self.view_is in
    rw c.touched.ensures (omega (arith, c.self.invariant.kept_places_room, c.requires.vars))

pub write_lemma-requires-clause-in_range : goal.write_lemma-requires-clause-in_range
write_lemma-requires-clause-in_range g c =
    rw (c.as_slice-kept_places.ensures.value, c.write_kept_places.ensures.kept, c.touched.ensures)
    (kept_in_range c.args.trail.now _ _ c.level_of_clause-level.ensures.shape c.find_first_uip-point.ensures.marking _)

pub write_lemma-requires-clause-room : goal.write_lemma-requires-clause-room
write_lemma-requires-clause-room g c =
    let few = kept_few c.args.trail.now _ _ c.level_of_clause-level.ensures.shape c.find_first_uip-point.ensures.marking c.values.result.now in
    let s = c.level_of_clause-level.ensures.shape.short in
    let w = ap (λ (d : AnalysisData). d.vars) c.self.view_is in
    rw (c.as_slice-kept_places.ensures.value, c.write_kept_places.ensures.kept, c.touched.ensures) (omega (arith, c.self.invariant.lits_room, c.requires.vars))

pub backjump_level-back-requires : goal.backjump_level-back-requires
backjump_level-back-requires g c =
    rw (c.as_slice-kept_places.ensures.value, c.write_kept_places.ensures.kept, c.touched.ensures)
    (kept_in_range c.args.trail.now _ _ c.level_of_clause-level.ensures.shape c.find_first_uip-point.ensures.marking _)

pub glue_of-glue-requires-clause-in_range : goal.glue_of-glue-requires-clause-in_range
glue_of-glue-requires-clause-in_range g c =
    rw (c.as_slice-kept_places.ensures.value, c.write_kept_places.ensures.kept, c.touched.ensures)
    (kept_in_range c.args.trail.now _ _ c.level_of_clause-level.ensures.shape c.find_first_uip-point.ensures.marking _)

pub returns-clause-found : goal.returns-clause-found
returns-clause-found g c =
    let level = c.level_of_clause-level.ensures.level in
    let pos : 1 ≤ c.level_of_clause-level.result = omega (arith, c.if-level-eq0.false) in
    let same = c.find_first_uip-point.ensures.same ∙ c.level_of_clause-level.ensures.same in
    let judged = rw same at c.judge_all.ensures.judged in (
      omega arith,
      rw (c.write_lemma.ensures.lits, c.as_slice-kept_places.ensures.value, c.write_kept_places.ensures.kept, c.touched.ensures, c.values.ensures)
          (IsLemma-from _ c.args.trail.now _ _ _ _ _ c.level_of_clause-level.ensures.shape c.requires.reasoned (held_is_known _ _ c.requires.held) c.requires.conflict level pos
          c.find_first_uip-point.ensures.marking (rw c.level_of_clause-level.ensures.same at c.find_first_uip-point.ensures.walked) judged c.judge_all.ensures.found _ _
          (rw (c.as_slice-kept_places.ensures.value, c.write_kept_places.ensures.kept, c.touched.ensures, c.values.ensures) at c.backjump_level-back.ensures)
          (rw (c.as_slice-kept_places.ensures.value, c.write_kept_places.ensures.kept, c.touched.ensures, c.values.ensures) at c.glue_of-glue.ensures.count)),
    )

pub mark_reason_side-requires-clause-point : goal.mark_reason_side-requires-clause-point
mark_reason_side-requires-clause-point g c = point_up_to _ _ _ _ _ _ (omega (arith, c.if-level-eq0.false)) c.find_first_uip-point.ensures.walked

pub mark_reason_side-requires-clause-lower : goal.mark_reason_side-requires-clause-lower
mark_reason_side-requires-clause-lower g c =
    rw (c.as_slice.ensures.value, c.write_kept_places.ensures.kept, c.touched.ensures)
    (kept_up_to c.args.trail.now _ _ c.find_first_uip-point.ensures.marking _ c.level_of_clause-level.ensures.shape)

pub write_analyzed-requires-clause-in_range : goal.write_analyzed-requires-clause-in_range
write_analyzed-requires-clause-in_range g c =
    rw c.touched-2.ensures (touched_in_range c.args.trail.now _ _ c.level_of_clause-level.ensures.shape c.mark_reason_side.ensures.marking)

pub write_analyzed-requires-clause-room : goal.write_analyzed-requires-clause-room
write_analyzed-requires-clause-room g c =
    let few = touched_short c.args.trail.now _ _ c.level_of_clause-level.ensures.shape c.mark_reason_side.ensures.marking in
    let s = c.level_of_clause-level.ensures.shape.short in
    let w = ap (λ (d : AnalysisData). d.vars) c.self.view_is in
    rw c.touched-2.ensures (omega (arith, c.self.invariant.analyzed_room, c.requires.vars))

pub returns-clause-variables : goal.returns-clause-variables
returns-clause-variables g c =
    let w = ap (λ (d : AnalysisData). d.vars) c.self.view_is in
    rw (c.write_analyzed.ensures.analyzed, c.touched-2.ensures)
    (vars_of_trail c.args.trail.now c.self.inside.vars _ c.level_of_clause-level.ensures.shape (omega (arith, w, c.requires.vars)) (touched_in_range c.args.trail.now _ _ c.level_of_clause-level.ensures.shape c.mark_reason_side.ensures.marking))

pub returns-clause-analyzed : goal.returns-clause-analyzed
returns-clause-analyzed g c =
    let same = c.judge_all.ensures.same ∙ c.find_first_uip-point.ensures.same ∙ c.level_of_clause-level.ensures.same in
    λ _. rw (c.write_analyzed.ensures.analyzed, c.touched-2.ensures, c.write_lemma.ensures.lits, c.as_slice-kept_places.ensures.value, c.write_kept_places.ensures.kept, c.touched.ensures)
    (AreAnalyzed-from _ c.args.trail.now _ _ _ _ _ _ c.level_of_clause-level.ensures.shape c.level_of_clause-level.ensures.level
    (rw c.level_of_clause-level.ensures.same at c.find_first_uip-point.ensures.walked) c.mark_reason_side.ensures.marking
    (kept_up_to c.args.trail.now _ _ c.find_first_uip-point.ensures.marking _ c.level_of_clause-level.ensures.shape)
    (rw (same, c.as_slice.ensures.value, c.write_kept_places.ensures.kept, c.touched.ensures) at c.mark_reason_side.ensures.marks))

pub trace_clause-requires-clause-can : goal.trace_clause-requires-clause-can
trace_clause-requires-clause-can g c =
    rw c.level_of_clause-level.ensures.same
    (CanTraceClause-zero _ c.args.trail.now _ c.level_of_clause-level.ensures.shape c.requires.conflict (sym c.level_of_clause-level.ensures.level ∙ c.if-level-eq0.true))

pub trace_clause-requires-2-clause-can : goal.trace_clause-requires-2-clause-can
trace_clause-requires-2-clause-can g c =
    let before = c.find_first_uip-point.ensures.same ∙ c.level_of_clause-level.ensures.same in
    let same = c.mark_reason_side.ensures.same ∙ c.judge_all.ensures.same ∙ before in
    let judged = rw before at c.judge_all.ensures.judged in
    rw (same, c.as_slice-2.ensures.value, c.write_lemma.ensures.lits, c.as_slice-kept_places.ensures.value, c.write_kept_places.ensures.kept, c.touched.ensures, c.values.ensures)
    (CanTraceClause-from _ c.args.trail.now _ _ _ _ _ c.level_of_clause-level.ensures.shape c.requires.reasoned (held_is_known _ _ c.requires.held) c.requires.conflict c.level_of_clause-level.ensures.level
    (omega (arith, c.if-level-eq0.false)) c.find_first_uip-point.ensures.marking (rw c.level_of_clause-level.ensures.same at c.find_first_uip-point.ensures.walked) judged c.judge_all.ensures.found)
