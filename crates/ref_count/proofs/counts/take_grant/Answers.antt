use Rattle.share_rule.specs.Views.{is_ready}
use Rattle.std.proofs.Common.{◌∙◌, sym, ap, arith, subst}
use Rattle.share_core.specs.declared.part.CoreOpening.{CoreOpening}
use Rattle.share_rule.specs.Books.{StandsFor}
use Rattle.share_rule.specs.declared.view.View.{View}
use Rattle.share_rule.specs.Seen.{Seen}
use Rattle.share_rule.specs.Layout.{table_words}
use Rattle.share_rule.proofs.Granting.{grants}
use Rattle.ref_count.proofs.counts.take_grant.Goals as goal

pub swap-requires : goal.swap-requires
swap-requires g c =
    let pass = c.args.pass.now in
    let table = c.args.table.now in
    let seen = c.requires.pass.3 in
    let lt = c.requires.right.0 in
    let same = ap (λ (o : CoreOpening). o.rings) seen.opening in
    let rings = seen.standing.rings in
    let size = ap table_words c.requires.pass.2 ∙ sym table.sized in
    (c.requires.pass.0, rw c.grant-grant.ensures (omega arith), rw c.grant-grant.ensures (grants (StandsFor g.B.Ledger.account g.B.Ledger.stands) table.table.shared.key table.table.shared.table_id.slots pass.id pass.me c.args.ring c.requires.pass.1 c.requires.right))

pub returns-clause-pass : goal.returns-clause-pass
returns-clause-pass g c =
    let e = c.swap.ensures in
    let t = (e.2 c.args.ring c.grant-grant.ensures).0 in
    let p = c.requires.pass in (
      (e.0 ∙ p.0, ap (λ (v : View). is_ready v.stage) t.1 ∙ p.1, ap (λ (v : View). v.layout) t.1 ∙ p.2, subst Seen (sym t.1) t.2),
      (e.1, t.0),
    )
