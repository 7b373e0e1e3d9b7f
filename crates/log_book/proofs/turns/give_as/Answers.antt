use Rattle.std.proofs.Common.{◌≡◌, ◌∙◌, ◌*◌, ℕ, [], ◌∷◌, length, Some, sym, ap, arith, subst}
use Rattle.atomic_table.specs.Table.{rest}
use Rattle.share_rule.specs.declared.view.View.{View}
use Rattle.share_rule.specs.Books.{StandsFor}
use Rattle.share_rule.specs.Turns.{IsWriting, MayWrite, WasRefused, written_of}
use Rattle.share_rule.specs.Views.{is_ready}
use Rattle.share_rule.proofs.Turning.{gives_it}
use Rattle.log_book.specs.Books.{account_of, IsLogOf}
use Rattle.log_book.proofs.turns.give_as.Goals as goal

pub store-requires : goal.store-requires
store-requires g c =
    let table = c.args.table.now in
    let size = table.sized in
    let p = c.requires.pass in
    let t = c.requires.turn in
    let x = c.exchange.ensures in
    let v : View = c.args.pass.now.me.0 in
    let me = c.exchange.new.seat.me in
    let same : me.0 ≡ v = ap (λ m. m.0) x.3 in
    let out : me.1 ≡ (0, Some c.args.book) ∷ [] = ap (λ m. m.1) x.3 ∙ (λ i. (0, Some c.args.book) ∷ rest (p.1 i)) in
    let e = ap (λ (n : ℕ). 256 * n) c.requires.book.log.entries in (
      x.0 ∙ p.0.0,
      omega arith,
      gives_it (StandsFor account_of (IsLogOf g.S.Sink.written g.S.Sink.flushed g.S.Sink.target g.S.Sink.faults)) table.table.shared.key table.table.shared.table_id.slots c.exchange.new.seat.id me c.args.book g.N.Notes.notes g.N.Notes.refused g.N.Notes.failed (256 * c.args.book.entries)
          table.slots (ap (λ (u : View). is_ready u.stage) same ∙ p.0.1) out (subst IsWriting (sym same) t.0) (subst (λ (u : View). MayWrite u g.N.Notes.notes) (sym same) t.1) (subst (λ (u : View). WasRefused u g.N.Notes.notes g.N.Notes.refused g.N.Notes.failed) (sym same) t.2)
          (subst (λ (u : View). StandsFor account_of (IsLogOf g.S.Sink.written g.S.Sink.flushed g.S.Sink.target g.S.Sink.faults) c.args.book u.origin u.layout u.opening (written_of u g.N.Notes.notes).journal g.N.Notes.failed) (sym same) c.requires.book)
          (subst (λ (u : View). 256 * c.args.book.entries ≡ 256 * length (written_of u g.N.Notes.notes).journal) (sym same) e),
    )
