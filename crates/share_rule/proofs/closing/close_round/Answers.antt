use Rattle.std.proofs.Common.{◌∙◌, sym, subst, refl}
use Rattle.std.specs.Prelude.{Bool, IsSome}
use Rattle.std.specs.Mem.Slots.{slots_items}
use Rattle.share_core.proofs.Counting.{some_same}
use Rattle.share_rule.specs.Books.{StandsFor}
use Rattle.share_rule.specs.Rests.{TellsRests, IsAtEnd}
use Rattle.share_rule.proofs.Ends.{closes, ends_so, holes_so}
use Rattle.share_rule.proofs.closing.close_round.Goals as goal

pub unwrap-book-requires : goal.unwrap-book-requires
unwrap-book-requires g c =
    let e = c.close_with-closed.ensures.values in
    let t = closes (StandsFor g.B.Ledger.account g.B.Ledger.stands) c.args.table.table.shared.key c.args.pass.id c.args.pass.me.0 _ _ c.take-slot.result c.requires.pass.0.1 c.requires.whole c.requires.free e.2 c.take-slot.ensures.value in
    subst IsSome (sym t.2) refl

pub read-told-requires-clause-end : goal.read-told-requires-clause-end
read-told-requires-clause-end g c =
    let e = c.close_with-closed.ensures.values in
    let v = c.args.pass.me.0 in
    let stands = StandsFor g.B.Ledger.account g.B.Ledger.stands in
    let t = closes stands c.args.table.table.shared.key c.args.pass.id v _ _ c.take-slot.result c.requires.pass.0.1 c.requires.whole c.requires.free e.2 c.take-slot.ensures.value in
    let same = some_same t.1 c.unwrap-book.result (sym t.2 ∙ c.unwrap-book.ensures) in
    let book = subst (λ b. stands b v.origin v.layout v.opening t.0.core.journal t.3.0) same t.3.1 in (
      t.0.core,
      t.0.glue,
      subst (λ words. IsAtEnd c.args.table.layout t.0.core t.0.glue (slots_items words)) (sym c.take-slot.ensures.others.3) (ends_so c.args.table.layout v t.0 _ c.requires.pass.0.2 c.requires.whole c.requires.built t.3.3),
      λ whole. holes_so g.B.Ledger.account g.B.Ledger.stands c.args.table.layout v t.0 c.unwrap-book.result t.3.0 c.requires.pass.0.2 book whole,
    )

pub returns-in-Ok-clause-closed : goal.returns-in-Ok-clause-closed
returns-in-Ok-clause-closed g c =
    let e = c.close_with-closed.ensures.values in
    let v = c.args.pass.me.0 in
    let stands = StandsFor g.B.Ledger.account g.B.Ledger.stands in
    let t = closes stands c.args.table.table.shared.key c.args.pass.id v _ _ c.take-slot.result c.requires.pass.0.1 c.requires.whole c.requires.free e.2 c.take-slot.ensures.value in
    let same = some_same t.1 c.unwrap-book.result (sym t.2 ∙ c.unwrap-book.ensures) in
    let book = subst (λ b. stands b v.origin v.layout v.opening t.0.core.journal t.3.0) same t.3.1 in
    let at = subst (λ words. IsAtEnd c.args.table.layout t.0.core t.0.glue (slots_items words)) (sym c.take-slot.ensures.others.3) (ends_so c.args.table.layout v t.0 _ c.requires.pass.0.2 c.requires.whole c.requires.built t.3.3) in
    let told = c.in-Ok.ensures t.0.core t.0.glue at (λ whole. holes_so g.B.Ledger.account g.B.Ledger.stands c.args.table.layout v t.0 c.unwrap-book.result t.3.0 c.requires.pass.0.2 book whole) in (
      t.0,
      t.3.0,
      book,
      t.3.2,
      subst (λ (b : Bool). TellsRests t.0.core t.0.glue b c.in-Ok.rests.items c.in-Ok.units.items) book.faulty told,
    )

pub returns-in-Err-clause-back : goal.returns-in-Err-clause-back
returns-in-Err-clause-back g c =
    let e = c.close_with-closed.ensures.values in
    let v = c.args.pass.me.0 in
    let stands = StandsFor g.B.Ledger.account g.B.Ledger.stands in
    let t = closes stands c.args.table.table.shared.key c.args.pass.id v _ _ c.take-slot.result c.requires.pass.0.1 c.requires.whole c.requires.free e.2 c.take-slot.ensures.value in
    let same = some_same t.1 c.unwrap-book.result (sym t.2 ∙ c.unwrap-book.ensures) in
    (t.0, t.3.0, subst (λ b. stands b v.origin v.layout v.opening t.0.core.journal t.3.0) same t.3.1, t.3.2)
