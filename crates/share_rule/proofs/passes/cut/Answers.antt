use Rattle.share_rule.specs.Views.{is_ready}
use Rattle.std.proofs.Common.{◌∙◌, ℕ, Option, sym, ap, arith, subst}
use Rattle.atomic_table.specs.Table.{Me}
use Rattle.share_rule.specs.Books.{StandsFor}
use Rattle.share_rule.specs.declared.view.View.{View}
use Rattle.share_rule.specs.Seen.{Seen}
use Rattle.share_rule.specs.Steps.{without_right}
use Rattle.share_rule.proofs.Seats.{splits}
use Rattle.share_rule.proofs.passes.cut.Goals as goal

pub split_seat-requires : goal.split_seat-requires
split_seat-requires g c =
    let pass = c.args.pass.now in
    let table = c.args.table.now in
    let size = table.sized in
    (c.requires.pass.0, omega arith, splits (StandsFor g.B.Ledger.account g.B.Ledger.stands) table.table.shared.key pass.id pass.me.0 g.R.Ring.ring c.requires.pass.1 c.requires.right)

pub returns-clause-old : goal.returns-clause-old
returns-clause-old g c =
    let p = c.requires.pass in
    let e = c.split_seat.ensures in
    let v : View = c.args.pass.now.me.0 in
    let r : ℕ = g.R.Ring.ring in
    let is = ap (λ (m : Me (Option g.row.B.Denot) View). m.0) e.2 in
    let s : Seen v = p.3 in
    let cut : Seen (without_right r v) = record { core = s.core; left = s.left; standing = s.standing; small = s.small; places = s.places; glue = s.glue; opening = s.opening; stops = s.stops; parts = s.parts } in
    let slots = ap (λ (m : Me (Option g.row.B.Denot) View). m.1) e.2 in (
      (e.0 ∙ p.0, ap (λ (u : View). is_ready u.stage) is ∙ p.1, ap (λ (u : View). u.layout) is ∙ p.2, subst Seen (sym is) cut),
      (e.1, slots),
      is,
    )
