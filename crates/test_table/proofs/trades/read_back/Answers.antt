use Rattle.std.proofs.Common.{◌≡◌, ◌∙◌, ◌++◌, ◌∷◌, [], ◌<◌, ℕ, List, get_or, length, sym, ap, subst}
use Rattle.std.specs.Prelude.{slice_index_or, false}
use Rattle.std.proofs.lemmas.List.{take_more}
use Rattle.sat_words.specs.Literal.{Literal}
use Rattle.share_rule.specs.declared.view.View.{View}
use Rattle.share_rule.specs.Views.{clause_in, clause_of, lit_in, no_part}
use Rattle.test_table.proofs.trades.read_back.Goals as goal

pub loop-place-preserved : goal.loop-place-preserved
loop-place-preserved g c =
    let i = c.loop-place.invariant in
    let e = c.read_lit.ensures in
    let place : ℕ = c.loop-place.place in
    let lits : List Literal = (clause_of c.args.ring.now.cell.address c.args.ring.now.pass.me.0).lits in
    let same : (clause_of c.loop-place.ring.cell.address c.loop-place.ring.pass.me.0).lits ≡ lits = λ j. (clause_in (i.2 j).address (slice_index_or (i.1 j) 0 no_part).core.held).lits in
    let lt : place < length lits = subst (λ (n : ℕ). place < n) c.read_head-head.ensures.size c.loop-place-test.true in
    let lit : c.read_lit.result ≡ get_or lits place (record { var = 0; neg = false }) = e.literal ∙ ap (λ (ls : List Literal). lit_in ls place) same in (
      e.pass.0,
      ap (λ (v : View). v.parts) e.part.1 ∙ i.1,
      i.2,
      c.in_ok-push.ensures.items ∙ (λ j. i.3 j ++ lit j ∷ []) ∙ sym (take_more lits place _ lt),
    )
