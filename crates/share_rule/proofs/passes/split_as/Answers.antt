use Rattle.std.proofs.Common.{ℕ, arith, subst}
use Rattle.share_rule.specs.Books.{StandsFor}
use Rattle.share_rule.specs.Views.{IsRight}
use Rattle.share_rule.proofs.Loading.{looks}
use Rattle.share_rule.proofs.passes.split_as.Goals as goal

pub cut-new-requires-clause-right : goal.cut-new-requires-clause-right
cut-new-requires-clause-right g c = let r = c.requires.right in subst (λ (n : ℕ). IsRight n c.args.pass.now.me.0) r.0 r.1

pub load-requires : goal.load-requires
load-requires g c =
    let table = c.args.table.now in
    let size = table.sized in
    let pass = c.cut-new.new.pass in
    let p = c.cut-new.ensures.old.0 in
    (p.0, omega arith, looks (StandsFor g.B.Ledger.account g.B.Ledger.stands) table.table.shared.key table.table.shared.table_id.slots pass.id pass.me 0 p.1)
