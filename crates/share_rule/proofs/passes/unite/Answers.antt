use Rattle.share_rule.specs.Books.{StandsFor}
use Rattle.std.proofs.Common.{arith}
use Rattle.share_rule.proofs.Seats.{joins}
use Rattle.share_rule.proofs.passes.unite.Goals as goal

pub join_seat-requires : goal.join_seat-requires
join_seat-requires g c =
    let pass = c.args.pass.now in
    let table = c.args.table.now in
    let size = table.sized in (
      c.requires.pass.0,
      c.requires.other.0.0,
      c.requires.other.1,
      omega arith,
      joins (StandsFor g.B.Ledger.account g.B.Ledger.stands) table.table.shared.key pass.id pass.me.0 c.args.other.id c.args.other.me.0 c.requires.pass.1 c.requires.other.0.1,
    )
