use Rattle.std.proofs.Common.{◌≡◌, ◌+◌, [], ◌∷◌, length, length-append, ap, sym, ◌∙◌, arith, eqb-true, refl}
use Rattle.std.specs.Vec.Iter.{into_iter_items}
use Rattle.std.proofs.lemmas.List.{nil_from_length}
use Rattle.share_core.specs.declared.part.CoreOpening.{CoreOpening}
use Rattle.share_rule.specs.FirstWords.{addresses}
use Rattle.share_rule.specs.Steps.{new_part}
use Rattle.ring_pass.specs.RingState.{home_of}
use Rattle.portfolio_run.proofs.Each.{one_longer}
use Rattle.portfolio_run.proofs.Making.{placed_none, placed_next, placed_made, placed_port, placed_pass, made_all, ready_all, at_all, rings_all}
use Rattle.portfolio_run.proofs.ports.make_ports.Goals as goal

pub loop-pass-init : goal.loop-pass-init
loop-pass-init g c =
    let gives = c.into_iter-pass-iterator.ensures.into_iter_gives in
    let first = c.args.first.now in
    let none_made = c.in-Ok.ensures.items in
    let none_rest = c.in-Ok-with_capacity.ensures.items in
    let rings = c.len-rings.ensures in
    let ok = c.args.passes.ok.0 in
    let a : length c.in-Ok.made.items ≡ 0 = ap length none_made in
    let b : length c.in-Ok-with_capacity.rest.items ≡ 0 = ap length none_rest in
    let all : length (into_iter_items c.into_iter-pass-iterator.result) ≡ length c.args.passes.items = ap length gives.0 in
    let room = c.in-Ok.ensures.capacity in
    let room' = c.in-Ok-with_capacity.ensures.capacity in (
      placed_none c.args.table.now first.me.0 (home_of first) c.args.plan.now c.in-Ok.made.items c.in-Ok-with_capacity.rest.items (into_iter_items c.into_iter-pass-iterator.result) c.args.passes.items none_made none_rest gives.0 c.requires.passes,
      omega arith,
      omega arith,
      omega arith,
      gives.1 ∙ ok ∙ sym all,
      sym a,
    )

pub make_port-requires-clause-pass : goal.make_port-requires-clause-pass
make_port-requires-clause-pass g c =
    let at = c.loop-pass.invariant in
    let first = c.args.first.now in
    let none : length c.loop-pass.rest.items ≡ 0 = sym c.loop-pass.rest.ok.0 ∙ eqb-true _ _ (sym c.is_empty.ensures ∙ c.if-is_empty.true) in
    let b = placed_next c.args.table.now first.me.0 (home_of first) c.args.plan.now c.loop-pass.ring c.loop-pass.made.items c.loop-pass.rest.items (into_iter_items c.loop-pass.pass-iterator) (into_iter_items c.next.new.self) c.in-Some.pass at.0 c.in-Some.ensures.steps.0 none at.5 in
    (b.pass, b.unstopped, b.unlooked)

pub make_port-requires-clause-granted : goal.make_port-requires-clause-granted
make_port-requires-clause-granted g c =
    let at = c.loop-pass.invariant in
    let first = c.args.first.now in
    let none : length c.loop-pass.rest.items ≡ 0 = sym c.loop-pass.rest.ok.0 ∙ eqb-true _ _ (sym c.is_empty.ensures ∙ c.if-is_empty.true) in
    let b = placed_next c.args.table.now first.me.0 (home_of first) c.args.plan.now c.loop-pass.ring c.loop-pass.made.items c.loop-pass.rest.items (into_iter_items c.loop-pass.pass-iterator) (into_iter_items c.next.new.self) c.in-Some.pass at.0 c.in-Some.ensures.steps.0 none at.5 in
    b.ring_is ∙ ap (λ (o : CoreOpening). new_part o c.loop-pass.ring ∷ []) (sym b.same.opening)

pub make_port-requires-clause-hinted : goal.make_port-requires-clause-hinted
make_port-requires-clause-hinted g c =
    let at = c.loop-pass.invariant in
    let first = c.args.first.now in
    let none : length c.loop-pass.rest.items ≡ 0 = sym c.loop-pass.rest.ok.0 ∙ eqb-true _ _ (sym c.is_empty.ensures ∙ c.if-is_empty.true) in
    let b = placed_next c.args.table.now first.me.0 (home_of first) c.args.plan.now c.loop-pass.ring c.loop-pass.made.items c.loop-pass.rest.items (into_iter_items c.loop-pass.pass-iterator) (into_iter_items c.next.new.self) c.in-Some.pass at.0 c.in-Some.ensures.steps.0 none at.5 in
    ap (λ (o : CoreOpening). o.hinted) b.same.opening ∙ c.requires.hinted

pub make_port-requires-clause-start : goal.make_port-requires-clause-start
make_port-requires-clause-start g c =
    let at = c.loop-pass.invariant in
    let first = c.args.first.now in
    let none : length c.loop-pass.rest.items ≡ 0 = sym c.loop-pass.rest.ok.0 ∙ eqb-true _ _ (sym c.is_empty.ensures ∙ c.if-is_empty.true) in
    let b = placed_next c.args.table.now first.me.0 (home_of first) c.args.plan.now c.loop-pass.ring c.loop-pass.made.items c.loop-pass.rest.items (into_iter_items c.loop-pass.pass-iterator) (into_iter_items c.next.new.self) c.in-Some.pass at.0 c.in-Some.ensures.steps.0 none at.5 in
    c.requires.start ∙ ap (λ (o : CoreOpening). addresses o.starts) (sym b.same.opening)

pub loop-pass-preserved-in-Ok-make_port : goal.loop-pass-preserved-in-Ok-make_port
loop-pass-preserved-in-Ok-make_port g c =
    let at = c.loop-pass.invariant in
    let t = c.args.table.now in
    let first = c.args.first.now in
    let plan = c.args.plan.now in
    let made = c.loop-pass.made.items in
    let rest = c.loop-pass.rest.items in
    let more = into_iter_items c.loop-pass.pass-iterator in
    let more' = into_iter_items c.next.new.self in
    let p = c.in-Some.pass in
    let one = c.in-Ok-make_port.one in
    let e = c.in-Ok-make_port.ensures in
    let steps = c.in-Some.ensures.steps in
    let none : length rest ≡ 0 = sym c.loop-pass.rest.ok.0 ∙ eqb-true _ _ (sym c.is_empty.ensures ∙ c.if-is_empty.true) in
    let b = placed_next t first.me.0 (home_of first) plan c.loop-pass.ring made rest more more' p at.0 steps.0 none at.5 in
    let placed = placed_made t first p plan c.loop-pass.ring (length made) one c.requires.first b at.5 e.made e.ready in
    let long : length c.push_reserved.new.self.items ≡ length made + 1 = ap length c.push_reserved.ensures.items ∙ one_longer made one in
    let less : length more ≡ length more' + 1 = ap length steps.0 ∙ (let k : length (p ∷ more') ≡ length more' + 1 = omega arith in k) in
    let same = c.push_reserved.ensures.capacity in
    let all = at.1 in
    let room = at.2 in
    let room' = at.3 in
    let left = at.4 in
    let gone = steps.1 in
    let count = at.5 in (
      placed_port t first.me.0 (home_of first) plan made c.push_reserved.new.self.items rest more more' p one at.0 steps.0 (nil_from_length rest none) c.push_reserved.ensures.items placed,
      omega arith,
      omega arith,
      omega arith,
      omega arith,
      omega arith,
    )

pub loop-pass-preserved : goal.loop-pass-preserved
loop-pass-preserved g c =
    let at = c.loop-pass.invariant in
    let t = c.args.table.now in
    let first = c.args.first.now in
    let plan = c.args.plan.now in
    let made = c.loop-pass.made.items in
    let rest = c.loop-pass.rest.items in
    let rest' = c.push_reserved-else-is_empty.new.self.items in
    let more = into_iter_items c.loop-pass.pass-iterator in
    let more' = into_iter_items c.next.new.self in
    let p = c.in-Some.pass in
    let steps = c.in-Some.ensures.steps in
    let long : length rest' ≡ length rest + 1 = ap length c.push_reserved-else-is_empty.ensures.items ∙ one_longer rest p in
    let less : length more ≡ length more' + 1 = ap length steps.0 ∙ (let k : length (p ∷ more') ≡ length more' + 1 = omega arith in k) in
    let same = c.push_reserved-else-is_empty.ensures.capacity in
    let all = at.1 in
    let room = at.2 in
    let room' = at.3 in
    let left = at.4 in
    let gone = steps.1 in (
      placed_pass t first.me.0 (home_of first) plan made rest rest' more more' p p at.0 steps.0 c.push_reserved-else-is_empty.ensures.items refl,
      omega arith,
      omega arith,
      omega arith,
      omega arith,
      at.5,
    )

pub returns-then-is_empty-2-clause-made : goal.returns-then-is_empty-2-clause-made
returns-then-is_empty-2-clause-made g c = made_all c.args.first.now.me.0 (home_of c.args.first.now) c.args.plan.now c.loop-pass.made.items c.loop-pass.invariant.0.ports

pub returns-then-is_empty-2-clause-ready : goal.returns-then-is_empty-2-clause-ready
returns-then-is_empty-2-clause-ready g c = ready_all c.args.first.now.me.0 (home_of c.args.first.now) c.args.plan.now c.loop-pass.made.items c.loop-pass.invariant.0.ports

pub add_passes-requires-clause-made : goal.add_passes-requires-clause-made
add_passes-requires-clause-made g c = at_all c.args.first.now.me.0 (home_of c.args.first.now) c.args.plan.now c.loop-pass.made.items c.loop-pass.invariant.0.ports

pub returns-clause-back : goal.returns-clause-back
returns-clause-back g c =
    let at = c.loop-pass.invariant in
    let e = c.add_passes.ensures in
    let added = c.add_all.ensures.added in
    let all = c.add_passes.new.into.items in
    let none = c.in-None.ensures.steps in
    let left : length (into_iter_items c.loop-pass.pass-iterator) ≡ 0 = sym at.4 ∙ none.0 in
    let many = e.many in
    let sum = at.1 in
    let long : length c.add_all.new.into.items ≡ length all + length c.loop-pass.rest.items = ap length added ∙ length-append all c.loop-pass.rest.items in (
      omega arith,
      rings_all c.args.table.now c.args.first.now.me.0 (length c.loop-pass.made.items) all c.add_all.new.into.items c.loop-pass.rest.items many added e.rings at.0.aside,
    )
