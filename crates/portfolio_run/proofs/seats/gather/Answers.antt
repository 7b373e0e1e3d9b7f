use Rattle.std.proofs.Common.{◌≡◌, ◌++◌, [], List, All, ◌∙◌, sym, ap, subst, arith, append-nil, length, Option}
use Rattle.std.specs.Vec.Iter.{into_iter_items}
use Rattle.std.proofs.lemmas.List.{nil_from_length}
use Rattle.std.proofs.lemmas.List.Elements.{All-head, All-tail}
use Rattle.atomic_table.specs.declared.shared.Seat.{Seat}
use Rattle.share_core.specs.declared.event.Stop.{Stop}
use Rattle.share_rule.specs.declared.view.View.{View}
use Rattle.portfolio_run.specs.Seats.{IsAtRest, all_parts, stop_among}
use Rattle.portfolio_run.proofs.Rights.{same_still, same_both, parts_more}
use Rattle.portfolio_run.proofs.seats.gather.Goals as goal

pub loop-pass-init : goal.loop-pass-init
loop-pass-init g c =
    let gives = c.into_iter-pass-iterator.ensures.into_iter_gives in
    let v : View = c.args.first.now.me.0 in (
      c.requires.first,
      same_still v,
      subst (All (IsAtRest c.args.table.now)) (sym gives.0) c.requires.passes,
      ap (λ (ps : List (Seat (Option g.row.B.Denot) View)). v.parts ++ all_parts ps) gives.0,
      ap (stop_among v.stop) gives.0,
      gives.1 ∙ c.args.passes.ok.0 ∙ ap length (sym gives.0),
    )

pub join-requires-clause-pass : goal.join-requires-clause-pass
join-requires-clause-pass g c = c.loop-pass.invariant.0.0

pub join-requires-clause-other : goal.join-requires-clause-other
join-requires-clause-other g c =
    All-head (IsAtRest c.args.table.now) c.in-Some.pass (into_iter_items c.next.new.self) (subst (All (IsAtRest c.args.table.now)) c.in-Some.ensures.steps.0 c.loop-pass.invariant.2)

pub loop-pass-preserved : goal.loop-pass-preserved
loop-pass-preserved g c =
    let at = c.loop-pass.invariant in
    let j = c.join.ensures in
    let x = c.in-Some.pass in
    let rest = into_iter_items c.next.new.self in
    let steps = c.in-Some.ensures.steps in
    let v : View = c.loop-pass.first.me.0 in
    let w : View = c.join.new.pass.me.0 in
    let is = j.both.1 in (
      (j.pass.0, j.pass.1.1 ∙ at.0.1),
      same_both c.args.first.now.me.0 v w at.1 (record { layout = ap (λ (u : View). u.layout) is; opening = ap (λ (u : View). u.opening) is; origin = ap (λ (u : View). u.origin) is }),
      All-tail (IsAtRest c.args.table.now) x rest (subst (All (IsAtRest c.args.table.now)) steps.0 at.2),
      parts_more v.parts w.parts x.me.0.parts (all_parts rest) (all_parts (into_iter_items c.loop-pass.pass-iterator)) (ap (λ (u : View). u.parts) is) (ap all_parts steps.0) ∙ at.3,
      ap (λ (o : Option Stop). stop_among o rest) (ap (λ (u : View). u.stop) is) ∙ sym (ap (stop_among v.stop) steps.0) ∙ at.4,
      (let was = at.5 in
          let gone = steps.1 in
          let short = ap length steps.0 in
          omega arith),
    )

pub returns-clause-first : goal.returns-clause-first
returns-clause-first g c = c.loop-pass.invariant.0

pub returns-clause-same : goal.returns-clause-same
returns-clause-same g c = c.loop-pass.invariant.1

pub returns-clause-parts : goal.returns-clause-parts
returns-clause-parts g c =
    let at = c.loop-pass.invariant in
    let v : View = c.loop-pass.first.me.0 in
    let none = c.in-None.ensures.steps in
    let empty : into_iter_items c.loop-pass.pass-iterator ≡ [] = nil_from_length (into_iter_items c.loop-pass.pass-iterator) (sym at.5 ∙ none.0) in
    sym (append-nil v.parts) ∙ sym (ap (λ (ps : List (Seat (Option g.row.B.Denot) View)). v.parts ++ all_parts ps) empty) ∙ at.3

pub returns-clause-stop : goal.returns-clause-stop
returns-clause-stop g c =
    let at = c.loop-pass.invariant in
    let v : View = c.loop-pass.first.me.0 in
    let none = c.in-None.ensures.steps in
    let empty : into_iter_items c.loop-pass.pass-iterator ≡ [] = nil_from_length (into_iter_items c.loop-pass.pass-iterator) (sym at.5 ∙ none.0) in
    sym (ap (stop_among v.stop) empty) ∙ at.4
