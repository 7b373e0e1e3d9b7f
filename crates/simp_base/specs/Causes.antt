-- Why a run was stopped.
use Rattle.std.specs.Prelude.{◌≡◌, false}
use Rattle.io_edge.specs.Causes.{Rose}
use Rattle.sat_words.specs.declared.shared.TheConstants.{MAX_ENTRIES}
use Rattle.drat_text.specs.declared.stop.LineStop.{LineStop}
use Rattle.drat_text.specs.declared.stop.LineStop.TheVariants.{ProofFault, Full, Memory}
use Rattle.drat_text.specs.LineState.{LineState}
use Rattle.simp_base.specs.WorkState.{WorkState}

-- the output's count of faults rose; as many lines stand as can; memory ran out. Only the first hides behind no other: where
-- it is not the cause, the count of faults is as it was
abbrev pub HasOutputCause : LineState → LineState → LineStop → Type 0
HasOutputCause old new ProofFault = Rose old.faults new.faults
HasOutputCause old new Full = (new.entries ≡ MAX_ENTRIES) × (new.faults ≡ old.faults)
HasOutputCause old new Memory = new.faults ≡ old.faults

-- so it is with the output of a work, to which the empty clause was not added
abbrev pub HasCause : WorkState → WorkState → LineStop → Type 0
HasCause old new stop = HasOutputCause old.output new.output stop × (new.ended ≡ false)
