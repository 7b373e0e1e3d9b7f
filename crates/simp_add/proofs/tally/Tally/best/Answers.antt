use Rattle.std.proofs.Common.{◌≡◌, ◌∙◌, ◌++◌, ◌∷◌, ◌<◌, [], List, length, get_or, take, sym, ap, subst}
use Rattle.std.proofs.lemmas.List.{take_more}
use Rattle.sat_words.specs.Literal.{Literal}
use Rattle.simp_add.specs.Counted.{IsBest}
use Rattle.simp_add.proofs.tally.Tally.best.Goals as goal

pub loop-lit-preserved : goal.loop-lit-preserved
loop-lit-preserved c =
    let xs = c.args.self.now.touched.items in let i = c.loop-lit.lit-index in let l : Literal = c.lit-item.result in
    let e = c.as_slice-lit-items.ensures.value in
    let lt = subst (λ (ys : List Literal). i < length ys) e c.loop-lit-test.true in
    let is = subst (λ (ys : List Literal). l ≡ get_or ys i l) e c.lit-item.is in
    subst (λ (ys : List Literal). IsBest c.args.self.now.counts.items ys c.better-best.result)
    (sym (take_more xs i l lt ∙ ap (λ (y : Literal). take i xs ++ y ∷ []) (sym is)))
    (c.better-best.ensures (take i xs) c.loop-lit.invariant)
