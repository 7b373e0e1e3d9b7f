use Rattle.std.proofs.Common.{◌≡◌, ◌∙◌, ◌+◌, ◌≤◌, ◌^◌, ℕ, List, [], ◌∷◌, ◌++◌, All, take, sym, ap, subst}
use Rattle.std.proofs.lemmas.List.{take_more, take_all}
use Rattle.std.proofs.lemmas.List.Elements.{All-push}
use Rattle.sat_words.specs.Literal.{Literal, IsOn}
use Rattle.ring_port.proofs.words.read_vars.Goals as goal

pub loop-lit-preserved : goal.loop-lit-preserved
loop-lit-preserved c =
    let all : List Literal = c.args.lits.now in
    let i : ℕ = c.loop-lit.lit-index in
    let lit : Literal = c.lit-item.result in
    let more : take (i + 1) all ≡ take i all ++ lit ∷ [] = take_more all i lit c.loop-lit-test.true ∙ ap (λ (x : Literal). take i all ++ x ∷ []) (sym c.lit-item.is) in
    let on : IsOn (2 ^ 30) lit = record { low = subst (λ (v : ℕ). 1 ≤ v) c.var.ensures.value c.var.ensures.low; high = subst (λ (v : ℕ). v ≤ 2 ^ 30) c.var.ensures.value c.var.ensures.high } in
    subst (All (IsOn (2 ^ 30))) (sym more) (All-push (IsOn (2 ^ 30)) (take i all) lit c.loop-lit.invariant on)

pub returns : goal.returns
returns c = subst (All (IsOn (2 ^ 30))) (take_all c.loop-lit.lit-index c.args.lits.now c.loop-lit-test.false) c.loop-lit.invariant
