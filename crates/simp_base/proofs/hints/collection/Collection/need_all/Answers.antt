use Rattle.std.proofs.Common.{◌≡◌, ◌∙◌, true, get_or, sym, subst}
use Rattle.sat_words.specs.Literal.{Literal}
use Rattle.sat_words.specs.Clause.{has}
use Rattle.rup_model.proofs.Lists.{In_has, In_get_or}
use Rattle.simp_base.proofs.Needing.{met_more}
use Rattle.simp_base.proofs.hints.collection.Collection.need_all.Goals as goal

pub loop-lit-preserved : goal.loop-lit-preserved
loop-lit-preserved c =
    let cells = c.args.clauses.now.clauses in
    let steps = c.args.trail.now.steps in
    let lits = c.args.lits.now in
    let j = c.loop-lit.lit-index in
    let d = c.lit-item.result in
    let old = c.loop-lit.self in
    let self = c.need_other.new.self in
    let i = c.loop-lit.invariant in
    record {
      met = λ start b n r.
          (let m = i.met start b n r in
          let there = subst (λ (x : Literal). has lits x ≡ true) (sym c.lit-item.is) (In_has lits (get_or lits j d) (In_get_or lits j d c.loop-lit-test.true)) in
          let one = c.in_ok-need_other.ensures.met start b m.noted (r d there) in
          met_more cells start steps c.args.place old.marks.items self.marks.items old.units.items self.units.items old.hints.items self.hints.items lits j d c.loop-lit-test.true m c.in_ok-need_other.ensures.kept c.lit-item.is one);
      kept = λ k h. c.in_ok-need_other.ensures.kept k (i.kept k h);
      reasons = c.need_other.ensures.reasons ∙ i.reasons;
    }
