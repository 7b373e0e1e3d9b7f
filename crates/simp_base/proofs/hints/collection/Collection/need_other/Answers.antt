use Rattle.std.proofs.Common.{sym, subst, inl, inr}
use Rattle.sat_words.specs.Literal.{Literal}
use Rattle.simp_base.specs.Hinting.{IsTrueBy}
use Rattle.simp_base.specs.Collecting.{IsMet}
use Rattle.simp_base.proofs.Needing.{other_met}
use Rattle.simp_base.proofs.hints.collection.Collection.need_other.Goals as goal

pub returns-clause-met : goal.returns-clause-met
returns-clause-met c = λ start b n t.
    let cells = c.args.clauses.now.clauses in
    let steps = c.args.trail.now.steps in
    let self = c.need.new.self in
    elim t as (λ _. IsMet cells start steps c.args.place self.marks.items self.units.items self.hints.items c.args.lit) [
      | inl at ↦ absurd (c.stands_at.ensures.other c.if-stands_at.false at)
      | inr y ↦ other_met cells start steps c.args.place self.marks.items self.units.items self.hints.items c.args.lit c.not.result c.not.ensures
          (c.in_ok-need.ensures.noted start c.args.place b c.requires n (subst (λ (x : Literal). IsTrueBy cells steps c.args.place x) (sym c.not.ensures) y))
    ]
