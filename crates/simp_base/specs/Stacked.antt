-- Entries that come to the stack.
use Rattle.std.specs.Prelude.{◌≡◌, List, ◌++◌, Result, Ok, Err, ⊤}
use Rattle.model_stack.specs.declared.stack.Fix.{Fix}
use Rattle.drat_text.specs.declared.stop.LineStop.{LineStop}
use Rattle.simp_base.specs.WorkState.{WorkState, IsWork}
use Rattle.simp_base.specs.Log.{KeepsLog}
use Rattle.simp_base.specs.Causes.{HasOutputCause}

-- these entries came to the stack, and nothing else changed
pub record Stacked (old new : WorkState) (fixes : List Fix) : Type 0 where
  pub state : new ≡ record old { stack = old.stack ++ fixes }
  pub work : IsWork new
  pub log : KeepsLog old new

-- or a call was refused for its cause
abbrev pub WasStacked : WorkState → WorkState → List Fix → Result ⊤ LineStop → Type 0
WasStacked old new fixes (Ok done) = Stacked old new fixes
WasStacked old new fixes (Err stop) = HasOutputCause old.output new.output stop × (new.ended ≡ old.ended) × KeepsLog old new
