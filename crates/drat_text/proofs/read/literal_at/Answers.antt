use Rattle.std.proofs.Common.{◌≡◌, ◌∙◌, ℕ, sym, ap, Some, None}
use Rattle.sat_words.specs.Literal.{Literal}
use Rattle.drat_text.specs.Number.{number_from}
use Rattle.drat_text.proofs.Reading.{number_of_decimal}
use Rattle.drat_text.proofs.read.literal_at.Goals as goal

pub returns-in-Some-clause-all : goal.returns-in-Some-clause-all
returns-in-Some-clause-all c = λ v more low high e.
    let found : Some c.in-Some.var ≡ Some v = sym c.in-Some.is ∙ c.number_at.ensures.is ∙ ap (number_from 0) e ∙ number_of_decimal v more low high in
    let same : c.in-Some.var ≡ v = cc in
    ap (λ (l : Literal). Some l) (c.new.ensures ∙ ap (λ (n : ℕ). record { var = n; neg = c.args.neg }) same)

pub returns-in-None-clause-all : goal.returns-in-None-clause-all
returns-in-None-clause-all c = λ v more low high e.
    let found : None ≡ Some v = sym c.in-None.is ∙ c.number_at.ensures.is ∙ ap (number_from 0) e ∙ number_of_decimal v more low high in
    absurd (let no_number : ⊥ = cc in no_number)
