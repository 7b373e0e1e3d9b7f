use Rattle.std.proofs.Common.{◌≡◌, ◌<◌, ◌+◌, ◌∙◌, ℕ, subst, refl, sym, ap, length, arith, List}
use Rattle.sat_words.specs.Literal.{Literal, opposite}
use Rattle.sat_words.proofs.Members.{opposite-opposite}
use Rattle.ring_port.specs.PortState.{PortState, lits_at}
use Rattle.ring_trail.specs.declared.step.TrailStep.{TrailStep}
use Rattle.ring_trail.specs.TrailData.{TrailData, IsNext, lit_at}
use Rattle.watch_prop.specs.declared.propagated.Propagated.{Propagated}
use Rattle.watch_prop.specs.Advancing.{HasAdvanced}
use Rattle.watch_prop.specs.Aside.{but, PassesOver}
use Rattle.watch_prop.proofs.Asides.{passes-refl, passes-trans}
use Rattle.watch_prop.specs.Visiting.{IsWalked, IsVisiting}
use Rattle.watch_prop.proofs.Growing.{HasGrown-advance_head, HasGrown-longer, step_grown}
use Rattle.watch_prop.proofs.Advancing.{advanced_none, advanced_reasons, advanced_trans}
use Rattle.watch_prop.proofs.Visits.{Watched-advance_head}
use Rattle.watch_prop.proofs.watches.Watches.run.Given.{Over}
use Rattle.watch_prop.proofs.watches.Watches.run.Goals.{After-walk}
use Rattle.watch_prop.proofs.watches.Watches.run.Goals as goal

-- the literal at the head is false once negated
false_next : (t : TrailData) (l m : Literal) → IsNext t l → m ≡ opposite l → lit_at t.steps t.done ≡ opposite m
false_next t l m next e = next.lit ∙ sym (ap opposite e ∙ opposite-opposite l)

pub walk-requires-clause-in_range : goal.walk-requires-clause-in_range
walk-requires-clause-in_range g c =
    let next = c.in-Some.ensures.next in
    let r = c.next.ensures.trail.high c.loop-lit.trail.done next.open_yet in
    omega (arith, r, ap (λ (l : Literal). l.var) next.lit, ap (λ (l : Literal). l.var) c.not.ensures, c.loop-lit.invariant.kept.watched.vars)

pub walk-requires-clause-now_false : goal.walk-requires-clause-now_false
walk-requires-clause-now_false g c =
    let next = c.in-Some.ensures.next in
    record { place = c.loop-lit.trail.done; before = next.open_yet; false_there = false_next c.loop-lit.trail c.in-Some.lit c.not.result next c.not.ensures }

-- what is kept up to here
so_far : (g : Over) (c : After-walk g) → HasAdvanced (g.P.Port.state c.args.port.now) (but c.args.aside c.args.self.now) (but c.args.aside c.walk.new.self) c.args.trail.now c.walk.new.trail
so_far g c = advanced_trans _ _ _ _ _ _ c.loop-lit.invariant.same c.loop-lit.invariant.kept _ _ c.walk.ensures.kept

-- the clause set aside was passed over up to here
passed_far : (g : Over) (c : After-walk g) → PassesOver c.args.aside (lits_at (g.P.Port.state c.args.port.now)) c.args.self.now c.walk.new.self
passed_far g c = passes-trans c.args.aside _ _ _ _ _ (ap lits_at c.loop-lit.invariant.same) c.loop-lit.invariant.passed c.walk.ensures.passed

pub returns-in_err-walk-clause-passed : goal.returns-in_err-walk-clause-passed
returns-in_err-walk-clause-passed g c = passed_far g (goal.at.returns-in_err-walk-clause-passed g c).After-walk

pub returns-in-Conflict-clause-passed : goal.returns-in-Conflict-clause-passed
returns-in-Conflict-clause-passed g c = passed_far g (goal.at.returns-in-Conflict-clause-passed g c).After-walk

pub loop-lit-init : goal.loop-lit-init
loop-lit-init g c = record {
  same = refl;
  kept = advanced_none (g.P.Port.state c.args.port.now) (but c.args.aside c.args.self.now) c.args.trail.now c.requires.reasons c.requires.watched;
  passed = passes-refl c.args.aside _ _ _ refl;
  settled = refl;
  len = refl;
}

pub walk-requires-clause-reasons : goal.walk-requires-clause-reasons
walk-requires-clause-reasons g c = advanced_reasons _ _ _ _ _ _ c.loop-lit.invariant.same c.loop-lit.invariant.kept

pub returns-in_err-walk-clause-kept : goal.returns-in_err-walk-clause-kept
returns-in_err-walk-clause-kept g c = so_far g (goal.at.returns-in_err-walk-clause-kept g c).After-walk

pub returns-in-Conflict-clause-kept : goal.returns-in-Conflict-clause-kept
returns-in-Conflict-clause-kept g c = so_far g (goal.at.returns-in-Conflict-clause-kept g c).After-walk

pub advance_head-requires : goal.advance_head-requires
advance_head-requires g c =
    let next = c.in-Some.ensures.next in
    let n = HasGrown-longer c.loop-lit.trail c.walk.new.trail c.walk.ensures.kept.grown in
    omega (arith, next.open_yet, n, c.walk.ensures.done)

pub loop-lit-smaller : goal.loop-lit-smaller
loop-lit-smaller g c =
    let next = c.in-Some.ensures.next in
    let s = c.next.ensures.trail.short in
    let e = c.advance_head.ensures.done in
    omega (arith, next.open_yet, s, c.walk.ensures.done, c.walk.ensures.kept.grown.vars, ap (λ (t : TrailData). t.done) e, ap (λ (t : TrailData). t.vars) e)

pub loop-lit-preserved : goal.loop-lit-preserved
loop-lit-preserved g c =
    let i = c.loop-lit.invariant in
    let t = c.loop-lit.trail in
    let u = c.walk.new.trail in
    let lits = lits_at (g.P.Port.state c.args.port.now) in
    let next = c.in-Some.ensures.next in
    let grown = c.walk.ensures.kept.grown in
    let n = HasGrown-longer t u grown in
    let open_yet : u.done < length u.steps = omega (arith, next.open_yet, n, c.walk.ensures.done) in
    let here : lit_at u.steps u.done ≡ opposite c.not.result
    = ap (λ (k : ℕ). lit_at u.steps k) c.walk.ensures.done ∙ ap (λ (xs : List TrailStep). lit_at xs t.done) grown.steps ∙ ap (λ (s : TrailStep). s.lit) (step_grown t.steps grown.more t.done next.open_yet)
    ∙ false_next t c.in-Some.lit c.not.result next c.not.ensures in
    let walked = subst (λ (s : PortState). IsWalked (but c.args.aside c.walk.new.self) (lits_at s) u c.not.result c.in_ok-walk.field-0) i.same c.in_ok-walk.ensures.walked in
    let visiting : IsVisiting (but c.args.aside c.walk.new.self) lits u c.not.result 0 = subst (λ (o : Propagated). IsWalked (but c.args.aside c.walk.new.self) lits u c.not.result o) c.in-Quiet.is walked in
    let now = so_far g (goal.at.loop-lit-preserved g c).After-walk in
    record {
      same = c.walk.ensures.same ∙ i.same;
      kept = rw c.advance_head.ensures.done record {
        clauses = now.clauses;
        vars = now.vars;
        grown = HasGrown-advance_head c.args.trail.now u (u.done + 1) now.grown;
        reasons = now.reasons;
        rooms = now.rooms;
        still = λ quiet. absurd (
            let e = now.still quiet in
            let d : u.done ≡ length u.steps = ap (λ (x : TrailData). x.done) e ∙ quiet.done ∙ sym (ap (λ (x : TrailData). length x.steps) e) in
            omega (arith, d, open_yet));
        watched = Watched-advance_head (but c.args.aside c.walk.new.self) lits u c.not.result open_yet here visiting;
      };
      passed = passed_far g (goal.at.loop-lit-preserved g c).After-walk;
      settled = c.walk.ensures.settled ∙ i.settled;
      len = c.walk.ensures.len ∙ i.len;
    }
