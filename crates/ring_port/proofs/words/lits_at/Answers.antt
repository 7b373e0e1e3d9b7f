use Rattle.std.proofs.Common.{◌≡◌, ◌∙◌, ◌++◌, ◌∷◌, [], List, ap, sym, arith}
use Rattle.std.proofs.lemmas.List.FromFn.{map-range_with_len_more}
use Rattle.sat_words.specs.Literal.{Literal}
use Rattle.ring_port.specs.Store.{size_at, lit_at}
use Rattle.ring_port.proofs.Stretches.{lit_on}
use Rattle.ring_port.proofs.words.lits_at.Goals as goal

pub lit_at-requires-clause-on : goal.lit_at-requires-clause-on
lit_at-requires-clause-on c =
    let size : c.head_at-size.result.size ≡ size_at c.args.words.now c.args.first = ap (λ h. h.size) c.head_at-size.ensures in
    let lt = c.loop-i-test.true in
    lit_on c.args.words.now c.args.first c.loop-i.i c.requires.on (omega arith)

pub loop-i-preserved : goal.loop-i-preserved
loop-i-preserved c =
    c.in_ok-push.ensures.items
    ∙ ap (λ (x : Literal). c.loop-i.lits.items ++ x ∷ []) c.lit_at.ensures
    ∙ ap (λ (xs : List Literal). xs ++ lit_at c.args.words.now c.args.first c.loop-i.i ∷ []) c.loop-i.invariant
    ∙ sym (map-range_with_len_more (λ k. lit_at c.args.words.now c.args.first k) 0 c.loop-i.i c.loop-i.i (omega arith))
