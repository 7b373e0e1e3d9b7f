use Rattle.std.proofs.Common.{◌∙◌, ◌+◌, ◌∷◌, Some, sym, ap, arith}
use Rattle.atomic_table.specs.Table.{rest}
use Rattle.share_rule.specs.Books.{StandsFor}
use Rattle.share_rule.proofs.Turning.{takes_it}
use Rattle.share_rule.proofs.Written.{ring_few}
use Rattle.log_book.specs.Books.{account_of, IsLogOf}
use Rattle.log_book.proofs.turns.try_take.Goals as goal

pub overflow_add-seen : goal.overflow_add-seen
overflow_add-seen g c =
    let p = c.requires.pass in
    let r = c.requires.ring in
    let few = ring_few c.args.pass.now.me.0 p.0.3 r.0.0 in
    let is = r.1 in
    let low = c.if-seen-ne0.false in
    omega arith

pub overflow_add-seen-2 : goal.overflow_add-seen-2
overflow_add-seen-2 g c =
    let p = c.requires.pass in
    let r = c.requires.ring in
    let few = ring_few c.args.pass.now.me.0 p.0.3 r.0.0 in
    let is = r.1 in
    let low = c.if-seen-ne0.false in
    omega arith

pub compare_exchange-found-requires : goal.compare_exchange-found-requires
compare_exchange-found-requires g c =
    let table = c.args.table.now in
    let size = table.sized in
    let p = c.requires.pass in
    let r = c.requires.ring in
    let is = r.1 in
    (p.0.0, omega arith, takes_it (StandsFor account_of (IsLogOf g.S.Sink.written g.S.Sink.flushed g.S.Sink.target g.S.Sink.faults)) table.table.shared.key table.table.shared.table_id.slots c.args.pass.now.id c.args.pass.now.me c.peek-seen.result (c.peek-seen.result + c.args.ring + 1) p.0.1 r.0 c.if-seen-ne0.false (omega arith))

pub exchange-requires : goal.exchange-requires
exchange-requires g c =
    let p = c.requires.pass in
    let e = c.compare_exchange-found.ensures in
    let took = e.2.0 c.if-found-seen.false in
    (e.0 ∙ p.0.0, (Some took.book, took.out ∙ (λ i. (0, Some took.book) ∷ sym (ap rest took.out) i)))
