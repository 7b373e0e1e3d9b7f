use Rattle.std.proofs.Common.{◌≡◌, ◌<◌, ◌∙◌, ℕ, List, ap, sym, subst, get_or, length, Contains, arith, Ok}
use Rattle.sat_words.specs.Literal.{Literal, IsOn, opposite}
use Rattle.simp_base.specs.WorkState.{unit_lits}
use Rattle.simp_base.proofs.Held.{many_lits, lit_at_place}
use Rattle.simp_units.specs.Progress.{WasVisited}
use Rattle.simp_units.proofs.Queue.{spread_more, stuck_along, stopped_along}
use Rattle.simp_units.proofs.propagate.spread.Goals as goal

pub numbers_with-requires : goal.numbers_with-requires
numbers_with-requires g c =
    let now = c.loop-next.work in
    let u = c.index-units-next.result in
    let listed = c.units-in-loop-next.result.now in
    let same : unit_lits listed ≡ now.units = c.units-in-loop-next.ensures.lits in
    let first : length now.units ≡ length c.units.result.now = ap length (sym c.units.ensures.lits) ∙ many_lits c.units.result.now in
    let many : length now.units ≡ length listed = ap length (sym same) ∙ many_lits listed in
    let inside : c.loop-next.next < length now.units = omega (arith, first, c.if-next-units.false) in
    let lit : u.0 ≡ get_or now.units c.loop-next.next u.0 =
    lit_at_place listed c.loop-next.next u (omega (arith, many, inside)) c.index-units-next.is ∙ ap (λ us. get_or us c.loop-next.next u.0) same in
    let on : IsOn now.vars u.0 = subst (IsOn now.vars) (sym lit) (c.loop-next.invariant.set.work.units_on c.loop-next.next u.0 inside) in
    let back : IsOn now.vars (opposite u.0) = record { low = on.low; high = on.high } in
    record { on = subst (IsOn now.vars) (sym (c.not.ensures ∙ ap (λ (v : Literal × ℕ). opposite v.0) (sym c.index-units-next.is))) back }

pub loop-next-preserved : goal.loop-next-preserved
loop-next-preserved g c =
    let old = c.args.work.now in let a = c.args.values.now in let now = c.loop-next.work in let b = c.loop-next.values in
    let new = c.visit.new.work in let e = c.visit.new.values in
    let u = c.index-units-next.result in
    let listed = c.units-in-loop-next.result.now in
    let same : unit_lits listed ≡ now.units = c.units-in-loop-next.ensures.lits in
    let first : length now.units ≡ length c.units.result.now = ap length (sym c.units.ensures.lits) ∙ many_lits c.units.result.now in
    let many : length now.units ≡ length listed = ap length (sym same) ∙ many_lits listed in
    let inside : c.loop-next.next < length now.units = omega (arith, first, c.if-next-units.false) in
    spread_more old now new a b e c.loop-next.next c.loop-next.invariant inside u.0 c.not.result
    (lit_at_place listed c.loop-next.next u (omega (arith, many, inside)) c.index-units-next.is ∙ ap (λ us. get_or us c.loop-next.next u.0) same)
    (c.not.ensures ∙ ap (λ (v : Literal × ℕ). opposite v.0) (sym c.index-units-next.is)) c.as_slice.result.now
    (λ n d i h. subst (λ (xs : List ℕ). Contains xs n) (sym c.as_slice.ensures.value) (c.in-Ok.ensures.every n d i h))
    (subst (λ r. WasVisited now b new e c.as_slice.result.now r) (c.in-Ok-Quiet.is ∙ ap Ok c.in-Ok-Quiet.field-0-is) c.visit.ensures.visited)

pub returns-in-Ok-Conflict-clause-spread : goal.returns-in-Ok-Conflict-clause-spread
returns-in-Ok-Conflict-clause-spread g c =
    let now = c.loop-next.work in let b = c.loop-next.values in let new = c.visit.new.work in let e = c.visit.new.values in
    stuck_along c.args.work.now now new c.args.values.now b e c.loop-next.next c.loop-next.invariant
    (subst (λ r. WasVisited now b new e c.as_slice.result.now r) (c.in-Ok-Conflict.is ∙ ap Ok c.in-Ok-Conflict.field-0-is) c.visit.ensures.visited)

pub returns-in-Err-visit-clause-spread : goal.returns-in-Err-visit-clause-spread
returns-in-Err-visit-clause-spread g c =
    let now = c.loop-next.work in let b = c.loop-next.values in let new = c.visit.new.work in let e = c.visit.new.values in
    stopped_along c.args.work.now now new c.args.values.now b e c.loop-next.next c.loop-next.invariant c.in-Err-visit.stop
    (subst (λ r. WasVisited now b new e c.as_slice.result.now r) c.in-Err-visit.is c.visit.ensures.visited)
