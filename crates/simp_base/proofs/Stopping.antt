-- Why a run was stopped, from why a call was.
use Rattle.std.proofs.Common.{◌≡◌, List, false, ap, subst, sym, ◌∙◌}
use Rattle.io_edge.specs.Causes.{Rose}
use Rattle.sat_words.specs.Literal.{Literal}
use Rattle.rup_model.specs.NumberedLines.{NumberedLine}
use Rattle.drat_text.specs.LineState.{LineState}
use Rattle.drat_text.specs.declared.stop.LineStop.{LineStop}
use Rattle.drat_text.specs.declared.stop.LineStop.TheVariants.{ProofFault, Full, Memory}
use Rattle.simp_base.specs.WorkState.{WorkState}
use Rattle.drat_text.specs.LineOut.{added_line}
use Rattle.simp_base.specs.Calls.{NotPut, NotAdded}
use Rattle.simp_base.specs.Causes.{HasOutputCause, HasCause}
use Rattle.simp_base.proofs.Keeping.{not_put_at}

pub output_cause_after : (old mid new : LineState) (stop : LineStop) → mid.faults ≡ old.faults → HasOutputCause mid new stop → HasOutputCause old new stop
output_cause_after old mid new ProofFault same h = subst (λ n. Rose n new.faults) same h
output_cause_after old mid new Full same h = (h.0, h.1 ∙ same)
output_cause_after old mid new Memory same h = h ∙ same

pub not_put_cause : (old new : WorkState) (x : NumberedLine) (stop : LineStop) → old.ended ≡ false → NotPut old new x stop → HasCause old new stop
not_put_cause old new x ProofFault going h = (h.put.rose, ap (λ (w : WorkState). w.ended) h.state ∙ going)
not_put_cause old new x Full going h = ((ap (λ (w : WorkState). w.output.entries) h.1 ∙ h.0, ap (λ (w : WorkState). w.output.faults) h.1), ap (λ (w : WorkState). w.ended) h.1 ∙ going)
not_put_cause old new x Memory going h = (ap (λ (w : WorkState). w.output.faults) h, ap (λ (w : WorkState). w.ended) h ∙ going)

pub not_added_cause : (old new : WorkState) (lits : List Literal) (stop : LineStop) → old.ended ≡ false → NotAdded old new lits stop → HasCause old new stop
not_added_cause old new lits stop going h = let p = not_put_at old new lits stop h in not_put_cause old new (added_line old.output lits p.0) stop going p.1

pub cause_after : (old mid new : WorkState) (stop : LineStop) → mid.output.faults ≡ old.output.faults → HasCause mid new stop → HasCause old new stop
cause_after old mid new stop same h = (output_cause_after old.output mid.output new.output stop same h.0, h.1)

-- memory ran out
pub output_cause_of_memory : (old new : LineState) (stop : LineStop) → stop ≡ Memory → new.faults ≡ old.faults → HasOutputCause old new stop
output_cause_of_memory old new stop is same = subst (HasOutputCause old new) (sym is) same
