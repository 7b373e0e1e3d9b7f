use Rattle.std.proofs.Common.{◌≡◌, ◌∙◌, ◌+◌, ◌++◌, ◌∷◌, [], ℕ, List, length, sym, ap, subst, arith}
use Rattle.std.specs.Mem.Slots.{slots_items}
use Rattle.clause_cell.specs.Packing.{words_for}
use Rattle.share_rule.specs.declared.rests.Rest.{Rest}
use Rattle.share_rule.specs.Rests.{rest_of}
use Rattle.share_rule.proofs.CellWords.{few_lits}
use Rattle.share_rule.proofs.Reading.{ReadTo, reading_begins, read_past, cell_here, read_one, all_read}
use Rattle.share_rule.proofs.rests.read_cells.Goals as goal

pub loop-at-init : goal.loop-at-init
loop-at-init g c = λ core glue at holes.
    subst (λ (y : ℕ × List Rest). ReadTo c.args.layout core glue (g.B.Ledger.account c.args.book.now).holes y.0 y.1) (λ i. (sym c.first_cell-at.ensures i, sym c.new-rests.ensures.items i))
    (reading_begins c.args.layout core glue (slots_items c.args.table.now.words) at (g.B.Ledger.account c.args.book.now).holes holes)

pub overflow_add-at : goal.overflow_add-at
overflow_add-at g c =
    let t = c.requires.end in
    let past = (read_past c.args.layout t.0 t.1 (slots_items c.args.table.now.words) t.2 (g.B.Ledger.account c.args.book.now).holes t.3 c.loop-at.at c.in-Some.len c.loop-at.rests.items (c.loop-at.invariant t.0 t.1 t.2 t.3) (sym c.hole_from.ensures ∙ c.in-Some.is)).2 in
    omega arith

pub loop-at-smaller-in-Some : goal.loop-at-smaller-in-Some
loop-at-smaller-in-Some g c =
    let t = c.requires.end in
    let some = (read_past c.args.layout t.0 t.1 (slots_items c.args.table.now.words) t.2 (g.B.Ledger.account c.args.book.now).holes t.3 c.loop-at.at c.in-Some.len c.loop-at.rests.items (c.loop-at.invariant t.0 t.1 t.2 t.3) (sym c.hole_from.ensures ∙ c.in-Some.is)).1 in
    let test = c.loop-at-test.true in
    omega arith

pub loop-at-preserved-in-Some : goal.loop-at-preserved-in-Some
loop-at-preserved-in-Some g c = λ core glue at holes.
    (read_past c.args.layout core glue (slots_items c.args.table.now.words) at (g.B.Ledger.account c.args.book.now).holes holes c.loop-at.at c.in-Some.len c.loop-at.rests.items (c.loop-at.invariant core glue at holes) (sym c.hole_from.ensures ∙ c.in-Some.is)).0

pub read_cell-requires-clause-cell : goal.read_cell-requires-clause-cell
read_cell-requires-clause-cell g c =
    let t = c.requires.end in
    let test = c.loop-at-test.true in
    let first = c.first_cell.ensures in
    (t.0, t.1, t.2, cell_here c.args.layout t.0 t.1 (slots_items c.args.table.now.words) t.2 (g.B.Ledger.account c.args.book.now).holes t.3 c.loop-at.at c.loop-at.rests.items (c.loop-at.invariant t.0 t.1 t.2 t.3) (omega arith) (sym c.hole_from.ensures ∙ c.in-None.is))

pub overflow_cast-len : goal.overflow_cast-len
overflow_cast-len g c =
    let t = c.requires.end in
    let test = c.loop-at-test.true in
    let first = c.first_cell.ensures in
    let ws = slots_items c.args.table.now.words in
    let x = cell_here c.args.layout t.0 t.1 ws t.2 (g.B.Ledger.account c.args.book.now).holes t.3 c.loop-at.at c.loop-at.rests.items (c.loop-at.invariant t.0 t.1 t.2 t.3) (omega arith) (sym c.hole_from.ensures ∙ c.in-None.is) in
    let same = (c.in_ok-read_cell-in-None.ensures t.0 t.1 x.0 t.2 x.1).1 in
    let few = few_lits c.args.layout t.0 t.1 ws c.loop-at.at x.0 t.2 x.1 in
    let len = c.len.ensures in
    omega arith

pub loop-at-preserved : goal.loop-at-preserved
loop-at-preserved g c = λ core glue at holes.
    let test = c.loop-at-test.true in
    let first = c.first_cell.ensures in
    let ws = slots_items c.args.table.now.words in
    let hs = (g.B.Ledger.account c.args.book.now).holes in
    let r = c.loop-at.invariant core glue at holes in
    let x = cell_here c.args.layout core glue ws at hs holes c.loop-at.at c.loop-at.rests.items r (omega arith) (sym c.hole_from.ensures ∙ c.in-None.is) in
    let read = c.in_ok-read_cell-in-None.ensures core glue x.0 at x.1 in
    let count : c.len.result ≡ length x.0.lits = (let len = c.len.ensures in let same = read.1 in omega arith) in
    let size : c.words_for.result ≡ words_for (length x.0.lits) = c.words_for.ensures ∙ ap words_for count in
    let items : c.push.new.self.items ≡ c.loop-at.rests.items ++ rest_of glue x.0 ∷ [] = c.in_ok-push-in-None.ensures.items ∙ ap (λ (q : Rest). c.loop-at.rests.items ++ q ∷ []) read.0 in
    subst (λ (y : ℕ × List Rest). ReadTo c.args.layout core glue hs (c.loop-at.at + y.0) y.1) (λ i. (sym size i, sym items i))
    (read_one c.args.layout core glue ws at hs holes c.loop-at.at c.loop-at.rests.items x.0 r x.1)

pub returns : goal.returns
returns g c = λ core glue at holes.
    let test = c.loop-at-test.false in
    let first = c.first_cell.ensures in
    all_read c.args.layout core glue (slots_items c.args.table.now.words) at (g.B.Ledger.account c.args.book.now).holes holes c.loop-at.at c.loop-at.rests.items (c.loop-at.invariant core glue at holes) (omega arith)
