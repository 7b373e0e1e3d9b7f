use Rattle.std.proofs.Common.{◌≡◌, ◌<◌, ◌+◌, ℕ, List, length, get_or, ◌∙◌, sym, ap, subst, arith}
use Rattle.atomic_table.specs.declared.shared.Seat.{Seat}
use Rattle.share_core.specs.declared.part.CoreOpening.{CoreOpening}
use Rattle.share_rule.specs.declared.view.View.{View}
use Rattle.std.specs.declared.option.Option.{Option}
use Rattle.portfolio_run.specs.Seats.{HasRightsFrom, IsBegun}
use Rattle.portfolio_run.proofs.Rights.{same_still, same_both, same_split, rights_next, begun_more, begun_same, one_longer}
use Rattle.portfolio_run.proofs.seats.hand_out.Goals as goal

pub loop-ring-init : goal.loop-ring-init
loop-ring-init g c =
    let v : View = c.args.first.now.me.0 in
    let empty : length c.args.passes.now.items ≡ 0 = ap length c.requires.none in
    (c.requires.first, same_still v, empty, c.requires.room, λ i d lt. absurd (omega arith))

pub begin-pass-requires-clause-first : goal.begin-pass-requires-clause-first
begin-pass-requires-clause-first g c = c.loop-ring.invariant.0.pass

pub begin-pass-requires-clause-right : goal.begin-pass-requires-clause-right
begin-pass-requires-clause-right g c =
    let at = c.loop-ring.invariant.0 in
    let lt : c.loop-ring.ring < c.args.rings = c.loop-ring-test.true in
    let is = ap (λ (o : CoreOpening). o.rings) (c.loop-ring.invariant.1).opening in
    let all = c.requires.rings in
    (omega arith, at.rights c.loop-ring.ring (omega arith) (omega arith))

pub push_reserved-requires : goal.push_reserved-requires
push_reserved-requires g c = let many = c.loop-ring.invariant.2 in let room = c.loop-ring.invariant.3 in let lt : c.loop-ring.ring < c.args.rings = c.loop-ring-test.true in omega arith

pub loop-ring-preserved : goal.loop-ring-preserved
loop-ring-preserved g c =
    let before = c.loop-ring.invariant in
    let e = c.begin-pass.ensures in
    let v : View = c.args.first.now.me.0 in
    let u : View = c.loop-ring.first.me.0 in
    let w : View = c.begin-pass.new.first.me.0 in
    let ring = c.loop-ring.ring in
    let table = c.args.table.now in
    let pass = c.begin-pass.result in
    let items = c.push_reserved.ensures.items in
    let lt : ring < c.args.rings = c.loop-ring-test.true in
    let is = ap (λ (o : CoreOpening). o.rings) (before.1).opening in
    let all = c.requires.rings in (
      rights_next table c.loop-ring.first c.begin-pass.new.first ring e.old.0 before.0 (omega arith) e.first.0 e.first.1 e.old.1,
      same_both v u w before.1 (same_split u w ring e.old.0 e.old.1),
      ap length items ∙ one_longer c.loop-ring.passes.items pass ∙ ap (λ (n : ℕ). n + 1) before.2,
      (let room = before.3 in let same = c.push_reserved.ensures.capacity in omega arith),
      λ i d. subst (λ (ps : List (Seat (Option g.row.B.Denot) View)). i < length ps → IsBegun table v i (get_or ps i d)) (sym items)
          (begun_more table v c.loop-ring.passes.items ring pass before.2 before.4 (begun_same table v u ring pass before.1 e.begun) i d),
    )

pub returns-clause-first : goal.returns-clause-first
returns-clause-first g c =
    let le = c.loop-ring.auto.ring-end in
    let ge = c.loop-ring-test.false in
    subst (λ (n : ℕ). HasRightsFrom c.args.table.now c.loop-ring.first n) (omega arith) c.loop-ring.invariant.0

pub returns-clause-same : goal.returns-clause-same
returns-clause-same g c = c.loop-ring.invariant.1

pub returns-clause-many : goal.returns-clause-many
returns-clause-many g c =
    let le = c.loop-ring.auto.ring-end in
    let ge = c.loop-ring-test.false in
    let many = c.loop-ring.invariant.2 in
    omega arith

pub returns-clause-begun : goal.returns-clause-begun
returns-clause-begun g c = c.loop-ring.invariant.4
