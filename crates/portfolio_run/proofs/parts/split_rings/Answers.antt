use Rattle.std.proofs.Common.{◌≡◌, ◌+◌, ℕ, [], ◌∷◌, ◌++◌, length, ap, sym, subst, ◌∙◌, arith}
use Rattle.std.specs.Vec.Iter.{into_iter_items}
use Rattle.ring_pass.specs.RingState.{home_of}
use Rattle.ring_port.specs.PortState.{PortState}
use Rattle.portfolio_run.specs.declared.jobs.RingJob.{RingJob}
use Rattle.portfolio_run.specs.Jobs.{HasRun}
use Rattle.portfolio_run.specs.Ports.{begun_at, job_at}
use Rattle.portfolio_run.specs.Runs.{IsRun}
use Rattle.portfolio_run.proofs.Each.{EachFrom, each_of, BothFrom, both_none, both_last, both_many, both_of, one_longer}
use Rattle.portfolio_run.proofs.Running.{run_of, run_home, run_some}
use Rattle.portfolio_run.proofs.parts.split_rings.Goals as goal

pub loop-ring-init : goal.loop-ring-init
loop-ring-init g c =
    let gives = c.into_iter-ring-iterator.ensures.into_iter_gives in
    let first = c.args.first.now in
    let plan = c.args._plan.now in
    let P : ℕ → RingJob PortState → Type 0 = λ ring one. HasRun (begun_at first.me.0 (home_of first) ring) (job_at first.me.0 plan ring) one.port one.end in
    let none = c.requires.none in
    let zero_is : length c.args.passes.now.items ≡ 0 = ap length none.0 in
    let all : length (into_iter_items c.into_iter-ring-iterator.result) ≡ length c.args.rings.items = ap length gives.0 in (
      both_none (IsRun c.args.table.now first.me.0 (home_of first) plan) 0 c.args.passes.now.items c.args.ends.now.items none.0 none.1,
      subst (λ (n : ℕ). EachFrom P n (into_iter_items c.into_iter-ring-iterator.result)) (sym zero_is) (subst (EachFrom P 0) (sym gives.0) (each_of P c.args.rings.items c.requires.run)),
      omega arith,
      c.requires.room.0,
      c.requires.room.1,
      gives.1 ∙ c.args.rings.ok.0 ∙ sym all,
    )

pub open_ring-pass-requires-clause-home : goal.open_ring-pass-requires-clause-home
open_ring-pass-requires-clause-home g c =
    let first = c.args.first.now in
    let plan = c.args._plan.now in
    let n = length c.loop-ring.passes.items in
    let P : ℕ → RingJob PortState → Type 0 = λ ring one. HasRun (begun_at first.me.0 (home_of first) ring) (job_at first.me.0 plan ring) one.port one.end in
    let h = subst (EachFrom P n) c.in-Some.ensures.steps.0 c.loop-ring.invariant.1 in
    run_home (begun_at first.me.0 (home_of first) n) (job_at first.me.0 plan n) c.in-Some.ring.port c.in-Some.ring.end h.0

pub open_ring-pass-requires-clause-ended : goal.open_ring-pass-requires-clause-ended
open_ring-pass-requires-clause-ended g c =
    let first = c.args.first.now in
    let plan = c.args._plan.now in
    let n = length c.loop-ring.passes.items in
    let P : ℕ → RingJob PortState → Type 0 = λ ring one. HasRun (begun_at first.me.0 (home_of first) ring) (job_at first.me.0 plan ring) one.port one.end in
    let h = subst (EachFrom P n) c.in-Some.ensures.steps.0 c.loop-ring.invariant.1 in
    run_some (begun_at first.me.0 (home_of first) n) (job_at first.me.0 plan n) c.in-Some.ring.port c.in-Some.ring.end h.0

pub push_reserved-requires : goal.push_reserved-requires
push_reserved-requires g c =
    let at = c.loop-ring.invariant in
    let ok = c.loop-ring.passes.ok.0 in
    let all = at.2 in
    let room = at.3 in
    let less = ap length c.in-Some.ensures.steps.0 in
    omega arith

pub push_reserved-requires-in-loop-ring : goal.push_reserved-requires-in-loop-ring
push_reserved-requires-in-loop-ring g c =
    let at = c.loop-ring.invariant in
    let ok = c.loop-ring.ends.ok.0 in
    let same = both_many (IsRun c.args.table.now c.args.first.now.me.0 (home_of c.args.first.now) c.args._plan.now) 0 c.loop-ring.passes.items c.loop-ring.ends.items at.0 in
    let all = at.2 in
    let room = at.4 in
    let less = ap length c.in-Some.ensures.steps.0 in
    omega arith

pub loop-ring-preserved : goal.loop-ring-preserved
loop-ring-preserved g c =
    let at = c.loop-ring.invariant in
    let t = c.args.table.now in
    let first = c.args.first.now in
    let plan = c.args._plan.now in
    let passes = c.loop-ring.passes.items in
    let ends = c.loop-ring.ends.items in
    let n : ℕ = length passes in
    let P : ℕ → RingJob PortState → Type 0 = λ ring one. HasRun (begun_at first.me.0 (home_of first) ring) (job_at first.me.0 plan ring) one.port one.end in
    let steps = c.in-Some.ensures.steps in
    let one = c.in-Some.ring in
    let rest = into_iter_items c.next.new.self in
    let h = subst (EachFrom P n) steps.0 at.1 in
    let p = c.open_ring-pass.result.0 in
    let e = c.open_ring-pass.result.1 in
    let run = run_of t first p plan n one.port one.end e c.requires.first h.0 c.open_ring-pass.ensures in
    let items = c.push_reserved.ensures.items in
    let items' = c.push_reserved-in-loop-ring.ensures.items in
    let long : length c.push_reserved.new.self.items ≡ n + 1 = ap length items ∙ one_longer passes p in
    let less : length (into_iter_items c.loop-ring.ring-iterator) ≡ length rest + 1 = ap length steps.0 ∙ (let k : length (one ∷ rest) ≡ length rest + 1 = omega arith in k) in
    let same = c.push_reserved.ensures.capacity in
    let same' = c.push_reserved-in-loop-ring.ensures.capacity in
    let all = at.2 in
    let room = at.3 in
    let room' = at.4 in
    let left = at.5 in
    let gone = steps.1 in (
      subst (λ ps. BothFrom (IsRun t first.me.0 (home_of first) plan) 0 ps c.push_reserved-in-loop-ring.new.self.items) (sym items) (subst (BothFrom (IsRun t first.me.0 (home_of first) plan) 0 (passes ++ p ∷ [])) (sym items') (both_last (IsRun t first.me.0 (home_of first) plan) 0 n passes ends p e (omega arith) at.0 run)),
      subst (λ (m : ℕ). EachFrom P m rest) (sym long) h.1,
      omega arith,
      omega arith,
      omega arith,
      omega arith,
    )

pub returns-clause-many : goal.returns-clause-many
returns-clause-many g c =
    let at = c.loop-ring.invariant in
    let none = c.in-None.ensures.steps in
    let left : length (into_iter_items c.loop-ring.ring-iterator) ≡ 0 = sym at.5 ∙ none.0 in
    let same = both_many (IsRun c.args.table.now c.args.first.now.me.0 (home_of c.args.first.now) c.args._plan.now) 0 c.loop-ring.passes.items c.loop-ring.ends.items at.0 in
    let all = at.2 in
    (omega arith, omega arith)

pub returns-clause-run : goal.returns-clause-run
returns-clause-run g c = both_of (IsRun c.args.table.now c.args.first.now.me.0 (home_of c.args.first.now) c.args._plan.now) c.loop-ring.passes.items c.loop-ring.ends.items c.loop-ring.invariant.0
