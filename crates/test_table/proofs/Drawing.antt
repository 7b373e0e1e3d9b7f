-- Who has taken no step since its grant may draw.
use Rattle.std.proofs.Common.{◌≡◌, ◌∙◌, ◌≤◌, ℕ, [], ◌∷◌, List, sym, ap, subst, arith}
use Rattle.std.specs.Prelude.{slice_index_or}
use Rattle.share_core.specs.declared.part.CoreOpening.{CoreOpening}
use Rattle.share_rule.specs.declared.view.RingPart.{RingPart}
use Rattle.share_rule.specs.declared.view.View.{View}
use Rattle.share_rule.specs.Steps.{new_part}
use Rattle.share_rule.specs.Tickets.{MayDraw}
use Rattle.share_rule.specs.Views.{only, no_part}

pub new_draws : (v : View) (o : CoreOpening) (r : ℕ) → v.parts ≡ new_part o r ∷ [] → MayDraw v
new_draws v o r is =
    let same : only v ≡ new_part o r = ap (λ (ps : List RingPart). slice_index_or ps 0 no_part) is in
    record {
      one = is ∙ (λ i. sym same i ∷ []);
      none = ap (λ (p : RingPart). p.core.ticket) same;
      found = subst (λ (p : RingPart). p.core.found ≤ v.opening.limit) (sym same) (omega arith);
    }
