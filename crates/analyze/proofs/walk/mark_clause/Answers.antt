use Rattle.std.proofs.Common.{◌≡◌, ◌∙◌, ◌+◌, ℕ, subst, ap, arith, cond, length, take, ◌<◌, ◌≤◌, Bool}
use Rattle.ring_port.specs.PortState.{lits_at}
use Rattle.analyze.specs.Marks.{HasMarked}
use Rattle.analyze.proofs.Chains.{lit_read}
use Rattle.analyze.proofs.Marking.{HasMarked-more}
use Rattle.analyze.proofs.walk.mark_clause.Goals as goal
use Rattle.analyze.proofs.walk.mark_clause.Goals.{then-mark, else-mark}

pub mark-requires-clause-can : goal.mark-requires-clause-can
mark-requires-clause-can g c =
    c.requires.can c.read_lit-lit.result
    (lit_read (lits_at (g.P.Port.state c.args.port.now) c.args.c.address) c.loop-i.i c.read_lit-lit.result (rw c.loop-i.invariant.same at c.read_lit-lit.ensures.value)).has_lit

pub loop-i-preserved : goal.loop-i-preserved
loop-i-preserved g c =
    let i = c.loop-i.invariant in
    let lits = lits_at (g.P.Port.state c.args.port.now) c.args.c.address in
    let read = lit_read lits c.loop-i.i c.read_lit-lit.result (rw i.same at c.read_lit-lit.ensures.value) in
    let lt : c.loop-i.i < length lits = omega (arith, i.size) in
    let marks = HasMarked-more c.args.trail.now.steps c.args.level c.args.marks.now.values c.loop-i.marks.values c.mark.new.marks.values c.args.bound lits c.loop-i.i c.loop-i.count (cond c.mark.result 1 0) c.read_lit-lit.result lt
    i.marks (rw (read.at c.read_lit-lit.result) c.mark.ensures.marks) in
    let count : c.loop-i.count + cond c.mark.result 1 0 ≡ c.if-mark.count = (elim c.if-mark.branch as (λ _. c.loop-i.count + cond c.mark.result 1 0 ≡ c.if-mark.count) [
      | then-mark w ↦ (let z = ap {B = ℕ} (λ (b : Bool). cond b 1 0) w.if-mark.true in omega (arith, z))
      | else-mark w ↦ (let z = ap {B = ℕ} (λ (b : Bool). cond b 1 0) w.if-mark.false in omega (arith, z))
    ]) in
    let small : c.if-mark.count ≤ c.loop-i.count + 1 = (elim c.if-mark.branch as (λ _. c.if-mark.count ≤ c.loop-i.count + 1) [ then-mark w ↦ omega arith | else-mark w ↦ omega arith ]) in
    record {
      same = c.read_lit-lit.ensures.same ∙ i.same;
      size = i.size;
      counted = omega (arith, small);
      marking = c.mark.ensures.marking;
      marks = subst (λ (n : ℕ). HasMarked c.args.trail.now.steps c.args.level c.args.marks.now.values c.mark.new.marks.values c.args.bound (take (c.loop-i.i + 1) lits) n) count marks;
    }
