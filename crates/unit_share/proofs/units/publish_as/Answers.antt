use Rattle.share_rule.specs.Books.{StandsFor}
use Rattle.share_rule.specs.Views.{is_ready}
use Rattle.std.proofs.Common.{◌≡◌, ◌∙◌, ◌+◌, ℕ, length, Some, sym, ap, arith, subst}
use Rattle.sat_words.specs.Literal.{Literal, code_of}
use Rattle.share_rule.specs.declared.Layout.{Layout}
use Rattle.share_rule.specs.declared.view.RingPart.{RingPart}
use Rattle.share_rule.specs.declared.view.View.{View}
use Rattle.share_rule.specs.Layout.{number_at}
use Rattle.share_rule.specs.Views.{only}
use Rattle.share_rule.specs.Units.{MayPublish, after_unit, after_number, next_number_at}
use Rattle.share_rule.proofs.Listing.{units_it, numbers_it, lists_it, seen_room, publish_room, still, number_still}
use Rattle.unit_share.proofs.units.publish_as.Goals as goal

pub unit-word-requires-clause-place : goal.unit-word-requires-clause-place
unit-word-requires-clause-place g c =
    let p = c.requires.pass in
    let u = c.requires.unit in
    let few = (seen_room c.args.pass.now.me.0 p.3 (u.2).writing.0).0 in
    let e = u.3 in
    let vars = c.args.table.now.vars in
    let same = ap (λ (l : Layout). l.vars) p.2 in
    let rings = c.args.table.now.rings in
    omega arith

pub number-requires-clause-place : goal.number-requires-clause-place
number-requires-clause-place g c =
    let p = c.requires.pass in
    let u = c.requires.unit in
    let few = (seen_room c.args.pass.now.me.0 p.3 (u.2).writing.0).0 in
    let e = u.3 in
    let vars = c.args.table.now.vars in
    let same = ap (λ (l : Layout). l.vars) p.2 in
    omega arith

pub overflow_add-seen : goal.overflow_add-seen
overflow_add-seen g c =
    let p = c.requires.pass in
    let u = c.requires.unit in
    let few = (seen_room c.args.pass.now.me.0 p.3 (u.2).writing.0).0 in
    let e = u.3 in
    let vars = c.args.table.now.vars in
    let same = ap (λ (l : Layout). l.vars) p.2 in
    omega arith

pub store-requires : goal.store-requires
store-requires g c =
    let table = c.args.table.now in
    let size = table.sized in
    let p = c.requires.pass in
    let u = c.requires.unit in
    let v : View = c.args.pass.now.me.0 in
    let few = publish_room c.args.lit c.args.number v p.3 u.2 in
    let e = u.3 in
    let same = ap (λ (l : Layout). l.vars) p.2 in
    let rings = ap (λ (l : Layout). l.rings) p.2 in
    let vars = c.args.table.now.vars in
    (p.0, rw c.unit-word.ensures (omega arith), rw c.unit-word.ensures (units_it (StandsFor g.B.Ledger.account g.B.Ledger.stands) table.table.shared.key table.table.shared.table_id.slots c.args.pass.now.id c.args.pass.now.me c.args.lit c.args.number (3 + table.layout.rings + c.args.seen) c.code.result p.1 u.2 (omega arith)))

pub store-requires-2 : goal.store-requires-2
store-requires-2 g c =
    let table = c.args.table.now in
    let size = table.sized in
    let p = c.requires.pass in
    let u = c.requires.unit in
    let v : View = c.args.pass.now.me.0 in
    let few = publish_room c.args.lit c.args.number v p.3 u.2 in
    let e = u.3 in
    let same = ap (λ (l : Layout). l.vars) p.2 in
    let x = c.store.ensures in
    let w : View = after_unit c.code.result v in
    let is : c.store.new.seat.me.0 ≡ w = x.2.1 in
    let s = still c.args.lit c.args.number c.code.result v u.2 in
    let n_is : c.args.seen ≡ length (only w).core.seen = u.3 ∙ ap (λ (q : RingPart). length q.core.seen) (sym s.0) in
    let w_is : number_at table.layout c.args.seen ≡ next_number_at w = λ i. number_at (sym p.2 i) (n_is i) in (
      x.0 ∙ p.0,
      rw c.number.ensures (omega arith),
      rw c.number.ensures (numbers_it (StandsFor g.B.Ledger.account g.B.Ledger.stands) table.table.shared.key table.table.shared.table_id.slots c.store.new.seat.id c.store.new.seat.me c.args.lit c.args.number (number_at table.layout c.args.seen) c.args.number
          (ap (λ (z : View). is_ready z.stage) is ∙ p.1) (subst (MayPublish c.args.lit c.args.number) (sym is) s.1) (w_is ∙ ap next_number_at (sym is))),
    )

pub store-requires-3 : goal.store-requires-3
store-requires-3 g c =
    let table = c.args.table.now in
    let size = table.sized in
    let p = c.requires.pass in
    let u = c.requires.unit in
    let v : View = c.args.pass.now.me.0 in
    let number : ℕ = c.args.number in
    let x = c.store.ensures in
    let y = c.store-2.ensures in
    let w : View = after_unit c.code.result v in
    let w' : View = after_number number w in
    let code : c.code.result ≡ code_of c.args.lit = c.code.ensures in
    let is : c.store-2.new.seat.me.0 ≡ w' = y.2.1 ∙ ap (after_number number) x.2.1 in
    let s = still c.args.lit number c.code.result v u.2 in
    let t = number_still c.args.lit number number w s.1 in
    let there : (only w').unit ≡ Some (code_of c.args.lit) = ap (λ (q : RingPart). q.unit) t.0 ∙ ap (λ (q : RingPart). q.unit) s.0 ∙ ap (λ (n : ℕ). Some n) code in
    let numbered : (only w').number ≡ Some number = ap (λ (q : RingPart). q.number) t.0 in
    let n_is : c.args.seen + 1 ≡ length (only w').core.seen + 1 = ap (λ (n : ℕ). n + 1) u.3 ∙ ap (λ (q : RingPart). length q.core.seen + 1) (sym s.0) ∙ ap (λ (q : RingPart). length q.core.seen + 1) (sym t.0) in
    let lit_is : g.U.Unit.lit ≡ c.args.lit = u.0 in
    let number_is : g.U.Unit.number ≡ number = u.1 in (
      y.0 ∙ x.0 ∙ p.0,
      omega arith,
      lists_it (StandsFor g.B.Ledger.account g.B.Ledger.stands) table.table.shared.key table.table.shared.table_id.slots c.store-2.new.seat.id c.store-2.new.seat.me g.U.Unit.lit g.U.Unit.number (c.args.seen + 1) (ap (λ (z : View). is_ready z.stage) is ∙ p.1)
          (subst (λ (y : Literal × ℕ × View). MayPublish y.0 y.1 y.2) (λ i. (sym lit_is i, sym number_is i, sym is i)) t.1)
          (subst (λ (z : View). (only z).unit ≡ Some (code_of g.U.Unit.lit)) (sym is) (there ∙ ap (λ (y : Literal). Some (code_of y)) (sym lit_is)))
          (subst (λ (z : View). (only z).number ≡ Some g.U.Unit.number) (sym is) (numbered ∙ ap (λ (n : ℕ). Some n) (sym number_is)))
          (subst (λ (z : View). c.args.seen + 1 ≡ length (only z).core.seen + 1) (sym is) n_is),
    )
