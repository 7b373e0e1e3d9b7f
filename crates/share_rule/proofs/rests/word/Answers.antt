use Rattle.std.proofs.Common.{sym, arith}
use Rattle.std.specs.Mem.Slots.{slots_counts}
use Rattle.share_rule.proofs.CellWords.{item_is}
use Rattle.share_rule.proofs.rests.word.Goals as goal

pub word-requires : goal.word-requires
word-requires g c =
    let counts = (slots_counts c.args.table.now.words).0 in
    let lt = c.requires.inside in
    (omega arith, c.requires.full)

pub returns : goal.returns
returns g c = sym (item_is _ c.args.place c.word.result c.word.ensures)
