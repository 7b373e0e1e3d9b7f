use Rattle.std.proofs.Common.{◌≡◌, ℕ, [], ◌∷◌, get_or, sym, ap, subst, ◌∙◌, Contains, ⊎_elim}
use Rattle.rup_model.proofs.Lists.{Contains_In}
use Rattle.simp_base.specs.WorkState.{WorkState}
use Rattle.simp_base.proofs.Known.{first_or_rest}
use Rattle.simp_base.proofs.LiftSteps.{logs_along}
use Rattle.simp_base.proofs.Stopping.{output_cause_after}
use Rattle.simp_elim.specs.Resolution.{fix_of}
use Rattle.simp_elim.specs.Occurring.{clause_at}
use Rattle.simp_base.specs.Stacked.{WasStacked}
use Rattle.simp_elim.proofs.Counting.{at_place}
use Rattle.simp_elim.proofs.Stacking.{stacked_next}
use Rattle.simp_elim.proofs.entries.push_each.Goals as goal

pub push_entry-requires-clause-alive : goal.push_entry-requires-clause-alive
push_entry-requires-clause-alive g c n h =
    let numbers = c.args.numbers.now in let m : ℕ = get_or numbers c.loop-number.number-index 0 in
    let there : Contains numbers n = ⊎_elim
    (λ (e : m ≡ n). subst (λ (k : ℕ). Contains numbers k) e (at_place numbers c.loop-number.number-index c.loop-number-test.true))
    (λ (z : Contains [] n). absurd (Contains_In [] n z))
    (first_or_rest m [] n h) in
    let s = c.requires.alive n there in
    (s.0, subst (λ (w : WorkState). Contains w.clauses (n, s.0)) (sym c.loop-number.invariant.state) s.1, s.2, s.3)

pub returns-in-Err-clause-stacked : goal.returns-in-Err-clause-stacked
returns-in-Err-clause-stacked g c =
    let now = c.loop-number.work in let new = c.push_entry.new.work in let m : ℕ = get_or c.args.numbers.now c.loop-number.number-index 0 in
    let one = subst (λ r. WasStacked now new (fix_of c.args.lit (clause_at now.clauses m) ∷ []) r) c.in-Err.is c.push_entry.ensures.stacked in
    (output_cause_after c.args.work.now.output now.output new.output c.in-Err.stop (ap (λ (w : WorkState). w.output.faults) c.loop-number.invariant.state) one.0, one.1 ∙ ap (λ (w : WorkState). w.ended) c.loop-number.invariant.state, logs_along c.args.work.now now new c.loop-number.invariant.log one.2)

pub loop-number-preserved : goal.loop-number-preserved
loop-number-preserved g c =
    let now = c.loop-number.work in let new = c.push_entry.new.work in let m : ℕ = get_or c.args.numbers.now c.loop-number.number-index 0 in
    stacked_next c.args.work.now now new c.args.lit c.args.numbers.now c.loop-number.number-index c.loop-number-test.true c.loop-number.invariant
    (subst (λ r. WasStacked now new (fix_of c.args.lit (clause_at now.clauses m) ∷ []) r) c.in-Ok.is c.push_entry.ensures.stacked)
