use Rattle.std.proofs.Common.{◌≡◌, ◌∙◌, List, sym, subst}
use Rattle.sat_words.specs.Literal.{Literal}
use Rattle.simp_base.specs.Collecting.{IsReason, AreMet}
use Rattle.simp_base.proofs.Removal.{same_number}
use Rattle.simp_base.proofs.hints.collection.Collection.rest_on.Goals as goal

pub returns-in_ok-need_all-clause-met : goal.returns-in_ok-need_all-clause-met
returns-in_ok-need_all-clause-met c = λ start lits b n there r.
    let cells = c.args.clauses.now.clauses in
    let steps = c.args.trail.now.steps in
    let self = c.need_all.new.self in
    let e : c.lits.result.now ≡ lits = c.lits.ensures.value ∙ same_number cells b.own c.args.number c.in-Some.clause.now lits c.in-Some.ensures.some there in
    subst (λ (x : List Literal). AreMet cells start steps c.args.place self.marks.items self.units.items self.hints.items x) e
    (c.in_ok-need_all.ensures.met start b n (subst (λ (x : List Literal). IsReason cells steps c.args.place x) (sym e) r))

pub returns-in_default-clause-met : goal.returns-in_default-clause-met
returns-in_default-clause-met c = λ start lits b n there r. absurd (c.in_default.ensures.none lits there)
