use Rattle.std.proofs.Common.{rules, ◌≡◌, ◌∙◌, ◌++◌, ◌∷◌, List, ℕ, sym, ap, Some}
use Rattle.std.proofs.lemmas.List.{append_cancel_left}
use Rattle.sat_words.specs.Literal.{lit_text}
use Rattle.drat_text.proofs.read.read_lit.Goals as goal

pub returns-in-None-clause-all : goal.returns-in-None-clause-all
returns-in-None-clause-all c = λ l more on e.
    let found : Some c.in-Some.lit ≡ Some l = sym c.in-Some.is ∙ c.candidate.ensures.all l more on e in
    let same : c.in-Some.lit ≡ l = cc in
    let text : c.as_bytes.result.now ≡ lit_text c.in-Some.lit = search rules in
    let split : lit_text l ++ c.in-Some-strip_prefix.rest.now ≡ lit_text l ++ 32 ∷ more =
    ap (λ (xs : List ℕ). xs ++ c.in-Some-strip_prefix.rest.now) (sym (text ∙ ap lit_text same)) ∙ sym c.in-Some-strip_prefix.ensures.found ∙ e in
    c.in-None.ensures.all more (append_cancel_left (lit_text l) c.in-Some-strip_prefix.rest.now (32 ∷ more) split)
