use Rattle.std.proofs.Common.{◌≡◌, ◌∙◌, ◌+◌, ◌%◌, ◌^◌, ℕ, sym, ap, arith, subst}
use mathlib.Core.Option as maybe
use Rattle.atomic_table.specs.Table.{step, Allows}
use Rattle.share_rule.specs.declared.view.View.{View}
use Rattle.share_rule.specs.Books.{StandsFor}
use Rattle.share_rule.specs.Layout.{ticket_at}
use Rattle.share_rule.specs.Shown.{Shown}
use Rattle.share_rule.specs.TicketsTold.{did_draw}
use Rattle.share_rule.proofs.Drawing.{draws}
use Rattle.ticket_word.proofs.tickets.draw.Goals as goal

pub fetch_add-found-requires : goal.fetch_add-found-requires
fetch_add-found-requires g c =
    let pass = c.args.pass.now in
    let table = c.args.table.now in
    let v : View = pass.me.0 in
    let p = c.requires.pass in
    let word : ticket_at v.layout ≡ c.ticket-ticket.result = ap ticket_at p.2 ∙ sym c.ticket-ticket.ensures in
    let sized = table.sized in
    let last = c.ticket-ticket.ensures in (
      p.0,
      omega arith,
      subst (λ (n : ℕ). Allows (Shown (StandsFor g.B.Ledger.account g.B.Ledger.stands) table.table.shared.key) table.table.shared.table_id.slots pass.id pass.me n (λ k. (k + 1) % 2 ^ 64) (did_draw (step table.table.shared.table_id.slots n 1 0 maybe.none) pass.me))
          word (draws (StandsFor g.B.Ledger.account g.B.Ledger.stands) table.table.shared.key table.table.shared.table_id.slots pass.id pass.me p.1 c.requires.may),
    )
