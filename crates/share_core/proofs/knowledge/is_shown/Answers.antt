use Rattle.std.proofs.Common.{◌≡◌, ◌∙◌, ◌++◌, ◌∷◌, [], ℕ, List, map, IfOk, ap, subst}
use Rattle.std.proofs.lemmas.List.{map-id}
use Rattle.std.specs.List.{zip}
use Rattle.sat_words.specs.Literal.{Literal}
use Rattle.rup_model.specs.Hints.{numbered, hinted}
use Rattle.share_core.specs.declared.stored.ClauseAt.{ClauseAt}
use Rattle.share_core.proofs.knowledge.is_shown.Goals as goal

pub returns : goal.returns
returns c =
    let units : List (ℕ × List Literal) = map (λ (u : Literal × ℕ). (u.1, u.0 ∷ [])) (zip c.args.seen.now c.args.numbers.now) in
    let known : c.as_slice.result.now ≡ map (λ (h : ClauseAt). (h.number, h.lits)) c.args.held.now ++ units =
    c.as_slice.ensures.value ∙ c.in_ok-add_units.ensures ∙ ap (λ (cs : List (ℕ × List Literal)). cs ++ units) c.in_ok-known.ensures in
    subst (λ (cs : List (ℕ × List Literal)). IfOk c.is_hinted.result (λ yes. yes ≡ hinted (numbered cs) c.args.lits.now c.args.hints.now)) (map-id c.as_slice.result.now ∙ known) c.is_hinted.ensures
