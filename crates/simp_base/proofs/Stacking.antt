-- Entries come to the stack.
use Rattle.std.proofs.Common.{◌++◌, List, [], sym, ap, ◌∙◌, append_assoc, append-nil}
use Rattle.std.specs.Prelude.{Result, Ok, Err}
use Rattle.model_stack.specs.declared.stack.Fix.{Fix}
use Rattle.drat_text.specs.declared.stop.LineStop.{LineStop}
use Rattle.simp_base.specs.WorkState.{WorkState, IsWork}
use Rattle.simp_base.specs.Stacked.{Stacked, WasStacked}
use Rattle.simp_base.proofs.Known.{nothing_logged}
use Rattle.simp_base.proofs.LiftSteps.{logs_along}
use Rattle.simp_base.proofs.Stopping.{output_cause_after}

pub stacked_none : (w : WorkState) → IsWork w → Stacked w w []
stacked_none w kept = record { state = λ i. record w { stack = sym (append-nil w.stack) i }; work = kept; log = nothing_logged w }

pub stacked_along : (a b c : WorkState) (S T : List Fix) → Stacked a b S → Stacked b c T → Stacked a c (S ++ T)
stacked_along a b c S T f g = record {
  state = g.state ∙ ap (λ (w : WorkState). record w { stack = w.stack ++ T }) f.state ∙ (λ i. record a { stack = append_assoc a.stack S T i });
  work = g.work;
  log = logs_along a b c f.log g.log;
}

pub was_stacked_after : (a b c : WorkState) (S T : List Fix) → Stacked a b S → (result : Result (Unit {0}) LineStop) → WasStacked b c T result → WasStacked a c (S ++ T) result
was_stacked_after a b c S T f (Ok done) h = stacked_along a b c S T f h
was_stacked_after a b c S T f (Err stop) h = (output_cause_after a.output b.output c.output stop (ap (λ (w : WorkState). w.output.faults) f.state) h.0, h.1 ∙ ap (λ (w : WorkState). w.ended) f.state, logs_along a b c f.log h.2)
