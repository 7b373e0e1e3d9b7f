use Rattle.std.proofs.Common.{◌∙◌, sym, ap}
use Rattle.sat_words.specs.Clause.{clause_of}
use Rattle.sat_words.proofs.Members.{equal_lists}
use Rattle.share_core.proofs.fitting.is_in_order.Goals as goal

pub returns : goal.returns
returns c =
    let e = equal_lists c.in_ok-in_order.field-0 c.args.lits.now in
    let is = c.in_ok-in_order.ensures ∙ ap clause_of c.as_slice.ensures in
    (λ same. sym is ∙ e.0 (sym c.eq-2.ensures ∙ same), λ ordered. c.eq-2.ensures ∙ e.1 (is ∙ ordered))
