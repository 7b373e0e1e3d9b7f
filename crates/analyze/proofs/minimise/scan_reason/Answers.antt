use Rattle.std.proofs.Common.{◌∙◌, ◌<◌, inr, arith, length}
use Rattle.ring_port.specs.PortState.{clause_at}
use Rattle.analyze.proofs.Chains.{clause_held, lit_read, IsRead}
use Rattle.analyze.proofs.Walking.{HasReason, forced_by}
use Rattle.analyze.proofs.Judging.{forced_above, IsBlockedBy-one, IsScanned-more, IsCleared-scanned}
use Rattle.analyze.proofs.minimise.scan_reason.Given.{Over}
use Rattle.analyze.proofs.minimise.scan_reason.Goals.{After-read_lit-lit}
use Rattle.analyze.proofs.minimise.scan_reason.Goals as goal

-- the place's reason
reason : (g : Over) (c : After-read_lit-lit g) → HasReason (clause_at (g.P.Port.state c.args.port.now)) c.args.trail.now.steps c.args.frame.place c.args.reason
reason g c = forced_by _ _ _ c.args.reason (forced_above _ _ _ _ c.args.reason c.requires.can.reasoned c.requires.can.in_range c.requires.can.above c.requires.reason) c.requires.reason

read : (g : Over) (c : After-read_lit-lit g) → IsRead (reason g c).lits c.loop-i.i c.read_lit-lit.result
read g c =
    let lits = (clause_held (g.P.Port.state c.args.port.now) c.args.reason.address (reason g c).lits (reason g c).held_is).1 in
    lit_read (reason g c).lits c.loop-i.i c.read_lit-lit.result (rw lits at (rw c.loop-i.invariant.same at c.read_lit-lit.ensures.value))

pub look_at-requires-clause-can : goal.look_at-requires-clause-can
look_at-requires-clause-can g c =
    let a = (goal.at.look_at-requires-clause-can g c).After-read_lit-lit in
    (reason g a).unit.others c.read_lit-lit.result (read g a).has_lit

pub returns-in-Blocked-clause-scan : goal.returns-in-Blocked-clause-scan
returns-in-Blocked-clause-scan g c =
    let a = (goal.at.returns-in-Blocked-clause-scan g c).After-read_lit-lit in
    let r = reason g a in
    inr (
      r.lits,
      record { reason = c.args.reason; reason_is = c.requires.reason; held_is = r.held_is },
      IsBlockedBy-one c.args.trail.now.steps c.args.marks.now c.args.table.now c.args.frame.place r.lits c.read_lit-lit.result (read g a).has_lit c.in-Blocked.ensures,
    )

pub loop-i-preserved : goal.loop-i-preserved
loop-i-preserved g c =
    let a = (goal.at.loop-i-preserved g c).After-read_lit-lit in
    let i = c.loop-i.invariant in
    let r = reason g a in
    let lits = (clause_held (g.P.Port.state c.args.port.now) c.args.reason.address r.lits r.held_is).1 in
    let lt : c.loop-i.i < length r.lits = rw (← lits) (omega (arith, i.size)) in
    record {
      same = c.read_lit-lit.ensures.same ∙ i.same;
      size = i.size;
      scanned = IsScanned-more _ c.args.trail.now.steps c.args.marks.now c.args.table.now c.args.frame.place c.args.reason r.lits c.loop-i.i c.read_lit-lit.result c.requires.reason r.held_is lt
          ((read g a).at c.read_lit-lit.result) i.scanned c.in-Settled.ensures;
    }

pub returns-clause-scan : goal.returns-clause-scan
returns-clause-scan g c =
    let i = c.loop-i.invariant in
    let r = forced_by _ _ _ c.args.reason (forced_above _ _ _ _ c.args.reason c.requires.can.reasoned c.requires.can.in_range c.requires.can.above c.requires.reason) c.requires.reason in
    let lits = (clause_held (g.P.Port.state c.args.port.now) c.args.reason.address r.lits r.held_is).1 in
    IsCleared-scanned _ c.args.trail.now.steps c.args.marks.now c.args.table.now c.args.frame.place c.args.reason r.lits c.loop-i.i c.requires.reason r.held_is
    (rw (← lits) (omega (arith, i.size))) i.scanned
