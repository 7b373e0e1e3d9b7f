use Rattle.std.proofs.Common.{◌≡◌, ◌∙◌, ◌+◌, ◌<◌, ◌≤◌, ℕ, List, length, get_or, ap, subst, arith, length-set}
use Rattle.sat_words.specs.Literal.{Literal}
use Rattle.simp_subsume.specs.Signed.{signature_of}
use Rattle.simp_subsume.proofs.Signing.{signed_more}
use Rattle.simp_subsume.proofs.signature.signatures_of.Goals as goal

pub loop-cell-preserved : goal.loop-cell-preserved
loop-cell-preserved g c =
    let w = c.args.work.now in let cells = w.clauses in let i = c.loop-cell.cell-index in let words = c.loop-cell.words.items in
    let cell : ℕ × List Literal = c.cell-item.result in
    let same = c.clauses-cell-items.ensures.clauses in
    let within : i < length cells = subst (λ (xs : List (ℕ × List Literal)). i < length xs) same c.loop-cell-test.true in
    let is : cell ≡ get_or cells i cell = c.cell-item.is ∙ ap (λ (xs : List (ℕ × List Literal)). get_or xs i cell) same in
    let low : (get_or cells i cell).0 ≤ w.output.last = c.clauses-cell-items.ensures.work.given i cell within in
    let number : cell.0 ≡ (get_or cells i cell).0 = ap (λ (x : ℕ × List Literal). x.0) is in
    let wide : length words ≡ w.output.last + 1 = c.loop-cell.invariant.0 in (
      length-set words cell.0 c.signature_of.result ∙ wide,
      signed_more cells words i c.signature_of.result cell c.clauses-cell-items.ensures.work.numbers within is (omega arith) c.loop-cell.invariant.1 (c.signature_of.ensures ∙ ap signature_of c.lits.ensures.value),
    )
