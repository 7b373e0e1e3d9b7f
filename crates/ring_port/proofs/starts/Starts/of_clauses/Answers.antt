use Rattle.std.proofs.Common.{◌∙◌, sym, ap, List, [], ◌∷◌, ◌++◌, ℕ, take}
use Rattle.std.proofs.lemmas.List.{take_more}
use Rattle.sat_words.specs.Literal.{Literal}
use Rattle.ring_port.proofs.starts.Starts.of_clauses.Goals as goal

pub loop-number-preserved : goal.loop-number-preserved
loop-number-preserved c =
    let i = c.loop-number.number-index in
    let cs = c.args.clauses.now in
    let item = c.loop-number-item.result in
    c.in_ok-push.ensures ∙ ap (λ (xs : List (ℕ × List Literal)). xs ++ (item.0, c.lits.result.now) ∷ []) c.loop-number.invariant
    ∙ ap (λ (ls : List Literal). take i cs ++ (item.0, ls) ∷ []) c.lits.ensures.value
    ∙ sym (take_more cs i item c.loop-number-test.true ∙ ap (λ (x : ℕ × List Literal). take i cs ++ x ∷ []) (sym c.loop-number-item.is))
