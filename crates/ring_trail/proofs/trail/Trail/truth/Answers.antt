use Rattle.std.proofs.Common.{ap, ◌∙◌, sym, get_or, None, ℕ}
use Rattle.ring_trail.proofs.Shape.{told_none, told_some, truth_at}
use Rattle.ring_trail.proofs.trail.Trail.truth.Goals as goal

pub returns-in-None-clause-truth : goal.returns-in-None-clause-truth
returns-in-None-clause-truth c =
    told_none c.self.inside c.args.self.now c.args.lit.var c.self.invariant c.self.view_is c.requires
    (ap (λ (v : ℕ). get_or c.self.inside.values v None) (sym c.var.ensures.value) ∙ sym c.value.ensures ∙ c.in-None.is)

pub returns-in-Some-clause-truth : goal.returns-in-Some-clause-truth
returns-in-Some-clause-truth c =
    let told = told_some c.self.inside c.args.self.now c.args.lit.var c.in-Some.value c.self.invariant c.self.view_is c.requires
    (ap (λ (v : ℕ). get_or c.self.inside.values v None) (sym c.var.ensures.value) ∙ sym c.value.ensures ∙ c.in-Some.is) in
    truth_at c.args.self.now c.args.lit (get_or c.self.inside.places.items c.args.lit.var 0) c.in-Some.value c.is_neg.result told c.is_neg.ensures
