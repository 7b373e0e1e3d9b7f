use Rattle.std.proofs.Common.{◌∙◌, ◌≡◌, ◌/◌, ◌%◌, ◌^◌, ℕ, length, sym, ap, subst, arith}
use Rattle.std.specs.Mem.Slots.{slots_items, slots_counts, slots_small}
use Rattle.sat_words.specs.Clause.{clause_of}
use Rattle.share_core.specs.declared.stored.Cell.{Cell}
use Rattle.share_rule.specs.Rests.{HasLits}
use Rattle.share_rule.proofs.CellWords.{cell_read, same_rest}
use Rattle.share_rule.proofs.rests.read_cell.Goals as goal

pub overflow_add-cell : goal.overflow_add-cell
overflow_add-cell g c =
    let t = c.requires.cell in
    let k = cell_read c.args.layout t.0 t.1 (slots_items c.args.table.now.words) c.args.cell t.3.0 t.2 t.3.1 in
    let ends = k.ends in
    let counts = (slots_counts c.args.table.now.words).0 in
    let small = slots_small c.args.table.now.words in
    omega arith

pub word-number-requires-clause-inside : goal.word-number-requires-clause-inside
word-number-requires-clause-inside g c =
    let t = c.requires.cell in
    let k = cell_read c.args.layout t.0 t.1 (slots_items c.args.table.now.words) c.args.cell t.3.0 t.2 t.3.1 in
    let ends = k.ends in
    omega arith

pub overflow_add-cell-2 : goal.overflow_add-cell-2
overflow_add-cell-2 g c =
    let t = c.requires.cell in
    let k = cell_read c.args.layout t.0 t.1 (slots_items c.args.table.now.words) c.args.cell t.3.0 t.2 t.3.1 in
    let ends = k.ends in
    let counts = (slots_counts c.args.table.now.words).0 in
    let small = slots_small c.args.table.now.words in
    omega arith

pub word-head-requires-clause-inside : goal.word-head-requires-clause-inside
word-head-requires-clause-inside g c =
    let t = c.requires.cell in
    let k = cell_read c.args.layout t.0 t.1 (slots_items c.args.table.now.words) c.args.cell t.3.0 t.2 t.3.1 in
    let ends = k.ends in
    omega arith

pub read_lits-requires-clause-lits : goal.read_lits-requires-clause-lits
read_lits-requires-clause-lits g c =
    let t = c.requires.cell in
    let x : Cell = t.3.0 in
    let k = cell_read c.args.layout t.0 t.1 (slots_items c.args.table.now.words) c.args.cell x t.2 t.3.1 in
    let size : c.size_of.result ≡ length x.lits = c.size_of.ensures ∙ ap (λ (n : ℕ). n % 2 ^ 32) c.word-head.ensures ∙ k.size_is in
    (x.lits, subst (λ (n : ℕ). HasLits (slots_items c.args.table.now.words) c.args.cell n x.lits) (sym size) k.lits)

pub returns : goal.returns
returns g c = λ core glue x at there.
    let k = cell_read c.args.layout core glue (slots_items c.args.table.now.words) c.args.cell x at there in
    let size : c.size_of.result ≡ length x.lits = c.size_of.ensures ∙ ap (λ (n : ℕ). n % 2 ^ 32) c.word-head.ensures ∙ k.size_is in
    let read = c.in_ok-read_lits.ensures x.lits (subst (λ (n : ℕ). HasLits (slots_items c.args.table.now.words) c.args.cell n x.lits) (sym size) k.lits) in (
      same_rest c.word-number.result c.glue_of.result c.in_ok-from_lits.field-0 glue x
          (c.word-number.ensures ∙ k.number_is)
          (c.in_ok-from_lits.ensures.value ∙ ap clause_of (c.as_slice.ensures.value ∙ read))
          (c.glue_of.ensures ∙ ap (λ (n : ℕ). n / 2 ^ 32) c.word-head.ensures ∙ k.glue_is),
      ap length read,
    )
