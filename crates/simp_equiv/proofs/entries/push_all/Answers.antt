use Rattle.std.proofs.Common.{◌∙◌, ◌+◌, ◌-◌, ap, subst, arith}
use Rattle.simp_base.specs.WorkState.{WorkState}
use Rattle.simp_base.proofs.LiftSteps.{logs_along}
use Rattle.simp_equiv.specs.Tables.{stand_in}
use Rattle.simp_equiv.specs.Replacements.{replacement_at, replacements, replaced_entries}
use Rattle.simp_base.specs.Stacked.{Stacked, WasStacked}
use Rattle.simp_base.proofs.Stopping.{output_cause_after}
use Rattle.simp_equiv.proofs.Stacking.{stacked_next}
use Rattle.simp_equiv.proofs.entries.push_all.Goals as goal

pub returns-in-Err-clause-stacked : goal.returns-in-Err-clause-stacked
returns-in-Err-clause-stacked g c =
    let old = c.args.work.now in let now = c.loop-var.work in let new = c.push_replacement.new.work in let sin = stand_in c.args.table.now in let v = c.loop-var.var in
    let one = subst (λ r. WasStacked now new (replaced_entries (replacement_at sin v)) r) c.in-Err.is c.push_replacement.ensures.stacked in
    (output_cause_after old.output now.output new.output c.in-Err.stop (ap (λ (w : WorkState). w.output.faults) c.loop-var.invariant.stacked.state) one.0, one.1 ∙ ap (λ (w : WorkState). w.ended) c.loop-var.invariant.stacked.state, logs_along old now new c.loop-var.invariant.stacked.log one.2)

pub loop-var-preserved : goal.loop-var-preserved
loop-var-preserved g c =
    let old = c.args.work.now in let now = c.loop-var.work in let new = c.push_replacement.new.work in let sin = stand_in c.args.table.now in let v = c.loop-var.var in
    let one = subst (λ r. WasStacked now new (replaced_entries (replacement_at sin v)) r) c.in-Ok.is c.push_replacement.ensures.stacked in
    record {
      low = (let a = c.loop-var.invariant.low in omega arith);
      high = (let e = c.vars-var-end.ensures in omega arith);
      vars = ap (λ (w : WorkState). w.vars) one.state ∙ c.loop-var.invariant.vars;
      stacked = stacked_next old now new sin v (v + 1 - 1) c.loop-var.invariant.low (omega arith) c.loop-var.invariant.stacked one;
    }

pub returns-clause-stacked : goal.returns-clause-stacked
returns-clause-stacked g c =
    let old = c.args.work.now in let now = c.loop-var.work in let sin = stand_in c.args.table.now in let v = c.loop-var.var in
    let lo = c.loop-var.invariant.low in let hi = c.loop-var.invariant.high in let e = c.vars-var-end.ensures in
    subst (λ n. Stacked old now (replaced_entries (replacements sin n))) (omega arith) c.loop-var.invariant.stacked

pub returns-in-Ok-clause-stacked : goal.returns-in-Ok-clause-stacked
returns-in-Ok-clause-stacked g c =
    let old = c.args.work.now in let now = c.loop-var.work in let new = c.push_replacement.new.work in let sin = stand_in c.args.table.now in let v = c.loop-var.var in
    let one = subst (λ r. WasStacked now new (replaced_entries (replacement_at sin v)) r) c.in-Ok.is c.push_replacement.ensures.stacked in
    let e = c.vars-var-end.ensures in
    stacked_next old now new sin v old.vars c.loop-var.invariant.low (omega arith) c.loop-var.invariant.stacked one
