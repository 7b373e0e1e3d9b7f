use Rattle.std.proofs.Common.{◌∙◌, Bool, sym, ap, Some}
use Rattle.drat_text.proofs.Reading.{signed_front}
use Rattle.drat_text.proofs.read.candidate.Goals as goal

pub returns-in-Some-clause-all : goal.returns-in-Some-clause-all
returns-in-Some-clause-all c = λ l more on e.
    let t = signed_front l c.in-Some.digits.now more on (sym c.in-Some.ensures.found ∙ e) in
    c.literal_at.ensures.all l.var more on.low on.high t.1 ∙ ap (λ (b : Bool). Some (record { var = l.var; neg = b })) (sym t.0)
