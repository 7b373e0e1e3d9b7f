use Rattle.std.proofs.Common.{◌≡◌, ◌∙◌, [], ◌∷◌, Option, Some, sym, ap, arith}
use Rattle.atomic_table.specs.Table.{Me, rest}
use Rattle.share_rule.specs.Books.{StandsFor}
use Rattle.share_rule.specs.declared.view.View.{View}
use Rattle.share_rule.specs.Views.{closed_view, taken_view}
use Rattle.share_rule.proofs.Openings.{begins, opens}
use Rattle.share_rule.proofs.making.open_table.Goals as goal

pub load-requires : goal.load-requires
load-requires g c =
    let table = c.args.table.now in
    let pass = c.args.pass.now in
    let size = table.sized in
    let p = c.requires.pass in
    (p.0, omega arith, begins (StandsFor g.B.Ledger.account g.B.Ledger.stands) table.table.shared.key table.table.shared.table_id.slots pass.id pass.me (p.1 ∙ (λ i. (closed_view (sym table.keyed i), []))))

pub store-requires : goal.store-requires
store-requires g c =
    let table = c.args.table.now in
    let size = table.sized in
    let p = c.requires.pass in
    let l = c.load.ensures in
    let x = c.exchange.ensures in
    let lay_out : c.args.pass.now.me.0.layout ≡ table.table.shared.key.layout = ap (λ (m : Me (Option g.row.B.Denot) View). m.0.layout) p.1 ∙ sym table.keyed in
    let view : c.load.new.seat.me.0 ≡ taken_view table.table.shared.key.layout = l.2.0 ∙ ap taken_view lay_out in
    let slots = ap rest l.2.1 ∙ ap (λ (m : Me (Option g.row.B.Denot) View). m.1) p.1 in (
      x.0 ∙ l.0 ∙ p.0,
      omega arith,
      opens (StandsFor g.B.Ledger.account g.B.Ledger.stands) table.table.shared.key table.table.shared.table_id.slots c.exchange.new.seat.id c.exchange.new.seat.me g.O.OpenedWith.opening g.O.OpenedWith.origin c.args.book c.args.entries table.slots
          (x.3 ∙ (λ i. (view i, (0, Some c.args.book) ∷ slots i))) c.requires.opens,
    )
