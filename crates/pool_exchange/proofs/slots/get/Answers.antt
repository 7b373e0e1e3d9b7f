use Rattle.std.proofs.Common.{◌∙◌, ◌+◌, ◌*◌, ℕ, sym, ap, arith, subst}
use mathlib.Core.Option as maybe
use Rattle.atomic_table.specs.Table.{step, Allows}
use Rattle.share_rule.specs.declared.Layout.{Layout}
use Rattle.share_rule.specs.declared.view.View.{View}
use Rattle.share_rule.specs.Books.{StandsFor}
use Rattle.share_rule.specs.Layout.{slot_at}
use Rattle.share_rule.specs.Seen.{Seen}
use Rattle.share_rule.specs.Shown.{Shown}
use Rattle.share_rule.specs.Views.{only, is_ready}
use Rattle.share_rule.specs.ExchangesTold.{did_get}
use Rattle.share_rule.proofs.Exchanging.{gets}
use Rattle.pool_exchange.specs.Found.{IsFound}
use Rattle.pool_exchange.proofs.Places.{ring_fits, slot_lies, get_holds, found_held}
use Rattle.pool_exchange.proofs.slots.get.Goals as goal

pub slot-slot-requires-clause-rings : goal.slot-slot-requires-clause-rings
slot-slot-requires-clause-rings g c =
    let v : View = c.args.pass.now.me.0 in
    let p = c.requires.pass in
    let t = ring_fits v p.3 c.requires.ring.0 in
    let l = ap (λ (y : Layout). y.rings) p.2 in
    let m = c.requires.ring.1 in
    let o = c.requires.from.1 in
    let few = c.args.table.now.rings in
    (omega arith, omega arith, few)

pub swap-found-requires : goal.swap-found-requires
swap-found-requires g c =
    let pass = c.args.pass.now in
    let table = c.args.table.now in
    let l : Layout = table.layout in
    let v : View = pass.me.0 in
    let p = c.requires.pass in
    let one = c.requires.ring.0 in
    let m = c.requires.ring.1 in
    let t = ring_fits v p.3 one in
    let at = slot_lies v p.3 one l c.args.from (only v).core.ring c.args.class c.args.place c.slot-slot.result p.2 c.requires.from.1 t.0 c.requires.class c.requires.place
    (c.slot-slot.ensures ∙ (λ i. slot_at l ((4 * (c.args.from * l.rings + m i) + c.args.class) * l.depth + c.args.place))) in
    let sized = table.sized in (
      p.0,
      omega arith,
      subst (λ (n : ℕ). Allows (Shown (StandsFor g.B.Ledger.account g.B.Ledger.stands) table.table.shared.key) table.table.shared.table_id.slots pass.id pass.me n (λ _. 0) (did_get (step table.table.shared.table_id.slots n 0 0 maybe.none) pass.me))
          at.0 (gets (StandsFor g.B.Ledger.account g.B.Ledger.stands) table.table.shared.key table.table.shared.table_id.slots pass.id pass.me c.args.from c.args.class c.args.place p.1 c.requires.from t.0 c.requires.class at.2),
    )

pub returns-clause-pass : goal.returns-clause-pass
returns-clause-pass g c =
    let e = c.swap-found.ensures in
    let l : Layout = c.args.table.now.layout in
    let v : View = c.args.pass.now.me.0 in
    let p = c.requires.pass in
    let one = c.requires.ring.0 in
    let m = c.requires.ring.1 in
    let t = ring_fits v p.3 one in
    let at = slot_lies v p.3 one l c.args.from (only v).core.ring c.args.class c.args.place c.slot-slot.result p.2 c.requires.from.1 t.0 c.requires.class c.requires.place
    (c.slot-slot.ensures ∙ (λ i. slot_at l ((4 * (c.args.from * l.rings + m i) + c.args.class) * l.depth + c.args.place))) in
    let told = e.2 c.args.from c.args.class c.args.place c.requires.from.1 c.requires.class at.2 (sym at.0) in
    let k = told.2 in (
      (e.0 ∙ p.0, ap (λ (u : View). is_ready u.stage) k.1 ∙ p.1, ap (λ (u : View). u.layout) k.1 ∙ p.2, subst Seen (sym k.1) k.2),
      (e.1, k.0),
    )

pub returns-clause-part : goal.returns-clause-part
returns-clause-part g c =
    let e = c.swap-found.ensures in
    let l : Layout = c.args.table.now.layout in
    let v : View = c.args.pass.now.me.0 in
    let p = c.requires.pass in
    let one = c.requires.ring.0 in
    let m = c.requires.ring.1 in
    let t = ring_fits v p.3 one in
    let at = slot_lies v p.3 one l c.args.from (only v).core.ring c.args.class c.args.place c.slot-slot.result p.2 c.requires.from.1 t.0 c.requires.class c.requires.place
    (c.slot-slot.ensures ∙ (λ i. slot_at l ((4 * (c.args.from * l.rings + m i) + c.args.class) * l.depth + c.args.place))) in
    let told = e.2 c.args.from c.args.class c.args.place c.requires.from.1 c.requires.class at.2 (sym at.0) in
    (told.0, told.1, told.2.1, subst (λ (n : ℕ). IsFound n c.cell_at.result) (sym told.3) c.cell_at.ensures, told.4)

pub returns-clause-held : goal.returns-clause-held
returns-clause-held g c =
    let e = c.swap-found.ensures in
    let l : Layout = c.args.table.now.layout in
    let v : View = c.args.pass.now.me.0 in
    let p = c.requires.pass in
    let one = c.requires.ring.0 in
    let m = c.requires.ring.1 in
    let t = ring_fits v p.3 one in
    let at = slot_lies v p.3 one l c.args.from (only v).core.ring c.args.class c.args.place c.slot-slot.result p.2 c.requires.from.1 t.0 c.requires.class c.requires.place
    (c.slot-slot.ensures ∙ (λ i. slot_at l ((4 * (c.args.from * l.rings + m i) + c.args.class) * l.depth + c.args.place))) in
    let told = e.2 c.args.from c.args.class c.args.place c.requires.from.1 c.requires.class at.2 (sym at.0) in
    found_held told.0.address c.cell_at.result c.swap-found.new.seat.me.0 (subst (λ (n : ℕ). IsFound n c.cell_at.result) (sym told.3) c.cell_at.ensures)
    (get_holds c.args.from c.args.class c.args.place told.0 told.1 v c.swap-found.new.seat.me.0 one told.2.1)
