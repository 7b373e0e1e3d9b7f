use Rattle.std.proofs.Common.{◌∙◌, sym, subst, refl}
use Rattle.std.specs.Prelude.{IsSome}
use Rattle.share_core.proofs.Counting.{some_same}
use Rattle.share_rule.specs.Books.{StandsFor}
use Rattle.share_rule.proofs.Ends.{closes}
use Rattle.share_rule.proofs.closing.close.Goals as goal

pub returns : goal.returns
returns g c =
    let e = c.close_with-closed.ensures.values in
    let stands = StandsFor g.B.Ledger.account g.B.Ledger.stands in
    let t = closes stands c.args.table.table.shared.key c.args.pass.id c.args.pass.me.0 _ _ c.take-slot.result c.requires.pass.0.1 c.requires.whole c.requires.free e.2 c.take-slot.ensures.value in
    let same = some_same t.1 c.unwrap.result (sym t.2 ∙ c.unwrap.ensures) in
    (t.0, t.3.0, subst (λ b. stands b c.args.pass.me.0.origin c.args.pass.me.0.layout c.args.pass.me.0.opening t.0.core.journal t.3.0) same t.3.1, t.3.2)

pub unwrap-requires : goal.unwrap-requires
unwrap-requires g c =
    let e = c.close_with-closed.ensures.values in
    let t = closes (StandsFor g.B.Ledger.account g.B.Ledger.stands) c.args.table.table.shared.key c.args.pass.id c.args.pass.me.0 _ _ c.take-slot.result c.requires.pass.0.1 c.requires.whole c.requires.free e.2 c.take-slot.ensures.value in
    subst IsSome (sym t.2) refl
