use Rattle.std.proofs.Common.{◌∙◌, sym, ap, arith}
use Rattle.share_rule.specs.Books.{StandsFor}
use Rattle.share_rule.specs.Layout.{table_words}
use Rattle.share_rule.proofs.Parts.{held_of}
use Rattle.share_rule.proofs.Steps.{drops}
use Rattle.ref_count.proofs.Waiting.{last_waits}
use Rattle.ref_count.proofs.counts.drop_count.Goals as goal

pub fetch_sub-found-requires : goal.fetch_sub-found-requires
fetch_sub-found-requires g c =
    let pass = c.args.pass.now in
    let table = c.args.table.now in
    let h = held_of pass.me.0 c.requires.pass.3 c.args.cell.address c.requires.held in
    let e = h.ends in
    let size = ap table_words c.requires.pass.2 ∙ sym table.sized in
    (c.requires.pass.0, omega arith, drops (StandsFor g.B.Ledger.account g.B.Ledger.stands) table.table.shared.key table.table.shared.table_id.slots pass.id pass.me c.args.cell.address c.requires.pass.1 c.requires.held)

pub returns-then-found-eq1-clause-alone : goal.returns-then-found-eq1-clause-alone
returns-then-found-eq1-clause-alone g c = λ _. last_waits c.args.pass.now.me.0 c.fetch_sub-found.new.seat.me.0 c.args.cell.address c.fetch_sub-found.result c.requires.held c.fetch_sub-found.ensures.2.0.1 c.if-found-eq1.true
