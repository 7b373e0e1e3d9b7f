use Rattle.std.proofs.Common.{◌≡◌, ◌+◌, ℕ, length, ap, sym, subst, ◌∙◌, arith}
use Rattle.std.specs.Vec.Iter.{into_iter_items}
use Rattle.ring_port.specs.PortState.{PortState}
use Rattle.ring_pass.specs.RingState.{home_of}
use Rattle.portfolio_run.specs.declared.jobs.RingJob.{RingJob}
use Rattle.portfolio_run.specs.Ports.{IsAt}
use Rattle.portfolio_run.specs.Seats.{HasIdle}
use Rattle.portfolio_run.proofs.Each.{EachFrom, each_of, index_of, each_last, one_longer}
use Rattle.portfolio_run.proofs.ports.add_passes.Goals as goal

pub loop-one-init : goal.loop-one-init
loop-one-init g c =
    let gives = c.into_iter-one-iterator.ensures.into_iter_gives in
    let P : ℕ → RingJob PortState → Type 0 = λ ring one. IsAt (home_of c.args.first.now) ring one.port in
    let none : length c.args.into.now.items ≡ 0 = ap length c.requires.none in (
      subst (EachFrom (HasIdle c.args.table.now) 0) (sym c.requires.none) tt,
      subst (λ (n : ℕ). EachFrom P n (into_iter_items c.into_iter-one-iterator.result)) (sym none) (subst (EachFrom P 0) (sym gives.0) (each_of P c.args.made.items c.requires.made)),
      (let all = ap length gives.0 in omega arith),
      omega arith,
      gives.1 ∙ c.args.made.ok.0 ∙ ap length (sym gives.0),
    )

pub pass_of-requires-clause-home : goal.pass_of-requires-clause-home
pass_of-requires-clause-home g c =
    let P : ℕ → RingJob PortState → Type 0 = λ ring one. IsAt (home_of c.args.first.now) ring one.port in
    let h = subst (EachFrom P (length c.loop-one.into.items)) c.in-Some.ensures.steps.0 c.loop-one.invariant.1 in
    h.0.home_is

pub pass_of-requires-clause-idle : goal.pass_of-requires-clause-idle
pass_of-requires-clause-idle g c =
    let P : ℕ → RingJob PortState → Type 0 = λ ring one. IsAt (home_of c.args.first.now) ring one.port in
    let h = subst (EachFrom P (length c.loop-one.into.items)) c.in-Some.ensures.steps.0 c.loop-one.invariant.1 in
    h.0.idle

pub pass_of-requires-clause-usable : goal.pass_of-requires-clause-usable
pass_of-requires-clause-usable g c =
    let P : ℕ → RingJob PortState → Type 0 = λ ring one. IsAt (home_of c.args.first.now) ring one.port in
    let h = subst (EachFrom P (length c.loop-one.into.items)) c.in-Some.ensures.steps.0 c.loop-one.invariant.1 in
    h.0.usable

pub loop-one-preserved : goal.loop-one-preserved
loop-one-preserved g c =
    let at = c.loop-one.invariant in
    let P : ℕ → RingJob PortState → Type 0 = λ ring one. IsAt (home_of c.args.first.now) ring one.port in
    let t = c.args.table.now in
    let before = c.loop-one.into.items in
    let steps = c.in-Some.ensures.steps in
    let items = c.push_reserved.ensures.items in
    let h = subst (EachFrom P (length before)) steps.0 at.1 in
    let has : HasIdle t (length before) c.pass_of.result = subst (λ (n : ℕ). HasIdle t n c.pass_of.result) h.0.ring_is c.pass_of.ensures in
    let rest = into_iter_items c.next.new.self in
    let long : length c.push_reserved.new.self.items ≡ length before + 1 = ap length items ∙ one_longer before c.pass_of.result in (
      subst (EachFrom (HasIdle t) 0) (sym items) (each_last (HasIdle t) 0 (length before) before c.pass_of.result (omega arith) at.0 has),
      subst (λ (n : ℕ). EachFrom P n rest) (sym long) h.1,
      (let all = at.2 in let less = ap length steps.0 in omega arith),
      (let was = at.3 in let same = c.push_reserved.ensures.capacity in omega arith),
      (let was = at.4 in let gone = steps.1 in let short = ap length steps.0 in omega arith),
    )

pub returns-clause-rings : goal.returns-clause-rings
returns-clause-rings g c = index_of (HasIdle c.args.table.now) c.loop-one.into.items c.loop-one.invariant.0
