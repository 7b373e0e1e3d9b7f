use Rattle.std.proofs.Common.{◌≡◌, ◌∙◌, ℕ, Bool, false, List, sym, ap}
use Rattle.sat_words.specs.Truth.{formula_true}
use Rattle.test_ruler.specs.Models.{assignment}
use Rattle.test_ruler.proofs.Numbered.{one_more}
use Rattle.test_ruler.proofs.models.has_no_model.Goals as goal

pub loop-number-preserved : goal.loop-number-preserved
loop-number-preserved c =
    let F = c.args.formula.now.clauses in
    one_more (λ (n : ℕ). formula_true (assignment n) F ≡ false) c.loop-number.number c.loop-number.invariant
    (ap (λ (a : List Bool). formula_true a F) (sym c.in_ok-values.ensures) ∙ sym c.formula_true-is_true.ensures ∙ c.if-is_true.false)
