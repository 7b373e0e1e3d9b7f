use Rattle.std.proofs.Common.{◌∙◌, ◌++◌, ◌∷◌, [], ℕ, List, slice_index, take, false, sym, ap, arith}
use Rattle.std.specs.Mem.Slots.{slots_items}
use Rattle.std.proofs.lemmas.List.{take_more, take_all, map-append}
use Rattle.sat_words.specs.Literal.{Literal}
use Rattle.share_core.specs.State.{unit_lits, unit_numbers}
use Rattle.share_rule.proofs.CellWords.{unit_read, number_read, numbers_long}
use Rattle.share_rule.proofs.rests.read_units.Goals as goal

pub overflow_cast-code : goal.overflow_cast-code
overflow_cast-code g c =
    let t = c.requires.end in
    let ws = slots_items c.args.table.now.words in
    let d = unit_read c.args.layout t.0 t.1 ws c.loop-place.place c.word-place-end.result c.word-code.result t.2 c.word-place-end.ensures c.loop-place-test.true (c.word-code.ensures ∙ ap (slice_index ws) c.unit.ensures) in
    let high = d.high in
    omega arith

pub lit_of-requires-clause-low : goal.lit_of-requires-clause-low
lit_of-requires-clause-low g c =
    let t = c.requires.end in
    let ws = slots_items c.args.table.now.words in
    (unit_read c.args.layout t.0 t.1 ws c.loop-place.place c.word-place-end.result c.word-code.result t.2 c.word-place-end.ensures c.loop-place-test.true (c.word-code.ensures ∙ ap (slice_index ws) c.unit.ensures)).low

pub lit_of-requires-clause-high : goal.lit_of-requires-clause-high
lit_of-requires-clause-high g c =
    let t = c.requires.end in
    let ws = slots_items c.args.table.now.words in
    (unit_read c.args.layout t.0 t.1 ws c.loop-place.place c.word-place-end.result c.word-code.result t.2 c.word-place-end.ensures c.loop-place-test.true (c.word-code.ensures ∙ ap (slice_index ws) c.unit.ensures)).high

pub loop-place-preserved : goal.loop-place-preserved
loop-place-preserved g c = λ core glue at.
    let ws = slots_items c.args.table.now.words in
    let d = unit_read c.args.layout core glue ws c.loop-place.place c.word-place-end.result c.word-code.result at c.word-place-end.ensures c.loop-place-test.true (c.word-code.ensures ∙ ap (slice_index ws) c.unit.ensures) in
    let n = number_read c.args.layout core glue ws c.loop-place.place c.word-place-end.result c.word-number.result at c.word-place-end.ensures c.loop-place-test.true (c.word-number.ensures ∙ ap (slice_index ws) c.number.ensures) in
    let lt = c.loop-place-test.true in
    let listed = c.word-place-end.ensures ∙ at.words.listed_is in
    let long = numbers_long c.args.layout core glue ws at in
    let told = c.loop-place.invariant core glue at in
    let us = c.loop-place.units.items in
    let new : List (Literal × ℕ) = (c.lit_of.result, c.word-number.result) ∷ [] in (
      ap unit_lits c.in_ok-push.ensures.items
          ∙ map-append (λ (u : Literal × ℕ). u.0) us new
          ∙ ap (λ (xs : List Literal). xs ++ c.lit_of.result ∷ []) told.0
          ∙ ap (λ (k : Literal). take c.loop-place.place core.units ++ k ∷ []) (c.lit_of.ensures ∙ d.literal)
          ∙ sym (take_more core.units c.loop-place.place (record { var = 0; neg = false }) (omega arith)),
      ap unit_numbers c.in_ok-push.ensures.items
          ∙ map-append (λ (u : Literal × ℕ). u.1) us new
          ∙ ap (λ (xs : List ℕ). xs ++ c.word-number.result ∷ []) told.1
          ∙ ap (λ (k : ℕ). take c.loop-place.place core.numbers ++ k ∷ []) n
          ∙ sym (take_more core.numbers c.loop-place.place 0 (omega arith)),
    )

pub returns : goal.returns
returns g c = λ core glue at.
    let done = c.loop-place-test.false in
    let listed = c.word-place-end.ensures ∙ at.words.listed_is in
    let long = numbers_long c.args.layout core glue (slots_items c.args.table.now.words) at in
    let told = c.loop-place.invariant core glue at in
    record { units = told.0 ∙ take_all c.loop-place.place core.units (omega arith); numbers = told.1 ∙ take_all c.loop-place.place core.numbers (omega arith) }
