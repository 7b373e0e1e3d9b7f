use Rattle.std.proofs.Common.{◌∙◌, ◌++◌, ◌∷◌, [], List, take, sym, ap, false, arith}
use Rattle.std.proofs.lemmas.List.{take_more}
use Rattle.std.specs.Mem.Slots.{slots_items}
use Rattle.sat_words.specs.Literal.{Literal}
use Rattle.share_rule.proofs.CellWords.{lit_read}
use Rattle.share_rule.proofs.rests.read_lits.Goals as goal

pub lit_of-requires-clause-low : goal.lit_of-requires-clause-low
lit_of-requires-clause-low g c = (lit_read (slots_items c.args.table.now.words) c.args.cell c.args.size c.loop-place.place c.word-word.result c.half.result c.requires.lits.0 c.requires.lits.1 c.loop-place-test.true c.word-word.ensures c.half.ensures).low

pub lit_of-requires-clause-high : goal.lit_of-requires-clause-high
lit_of-requires-clause-high g c = (lit_read (slots_items c.args.table.now.words) c.args.cell c.args.size c.loop-place.place c.word-word.result c.half.result c.requires.lits.0 c.requires.lits.1 c.loop-place-test.true c.word-word.ensures c.half.ensures).high

pub loop-place-preserved : goal.loop-place-preserved
loop-place-preserved g c = λ spelled h.
    let d = lit_read (slots_items c.args.table.now.words) c.args.cell c.args.size c.loop-place.place c.word-word.result c.half.result spelled h c.loop-place-test.true c.word-word.ensures c.half.ensures in
    let lt = c.loop-place-test.true in
    let size = h.size_is in
    c.in_ok-push.ensures.items
    ∙ ap (λ (xs : List Literal). xs ++ c.lit_of.result ∷ []) (c.loop-place.invariant spelled h)
    ∙ ap (λ (k : Literal). take c.loop-place.place spelled ++ k ∷ []) (c.lit_of.ensures ∙ d.literal)
    ∙ sym (take_more spelled c.loop-place.place (record { var = 0; neg = false }) (omega arith))
