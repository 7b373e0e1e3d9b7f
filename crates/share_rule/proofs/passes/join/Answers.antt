use Rattle.share_rule.specs.Views.{is_ready}
use Rattle.share_rule.specs.Books.{StandsFor}
use Rattle.std.proofs.Common.{◌∙◌, ap, arith}
use Rattle.share_rule.specs.declared.view.View.{View}
use Rattle.share_rule.proofs.Loading.{looks}
use Rattle.share_rule.proofs.passes.join.Goals as goal

pub load-requires : goal.load-requires
load-requires g c =
    let table = c.args.table.now in
    let size = table.sized in
    let pass = c.unite.new.pass in
    (c.unite.ensures.pass.0 ∙ c.requires.pass.0, omega arith, looks (StandsFor g.B.Ledger.account g.B.Ledger.stands) table.table.shared.key table.table.shared.table_id.slots pass.id pass.me 0 (ap (λ (v : View). is_ready v.stage) c.unite.ensures.both ∙ c.requires.pass.1))
