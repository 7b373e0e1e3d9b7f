use Rattle.std.proofs.Common.{◌≡◌, ◌∙◌, ℕ, [], ◌∷◌, ◌++◌, List, length, sym, ap, subst, inr, arith}
use Rattle.sat_words.specs.Literal.{opposite}
use Rattle.simp_base.specs.Hinting.{IsTrueBy}
use Rattle.simp_base.specs.Collecting.{IsNoted, AreMet, IsCollected}
use Rattle.simp_base.proofs.Descending.{begun}
use Rattle.simp_base.proofs.hints.collection.Collection.walk.Goals as goal

pub loop-place-init : goal.loop-place-init
loop-place-init c =
    let cells = c.args.clauses.now.clauses in
    let steps = c.args.trail.now.steps in
    let self = c.rest_on.new.self in
    let old = c.args.self.now in
    let end : length c.steps-place.result.now ≡ length steps = ap length c.steps-place.ensures in
    record {
      within = omega (arith, end);
      collected = λ start b n f.
          subst (λ (m : ℕ). IsCollected cells start steps m self.marks.items self.units.items self.hints.items self.reasons.items) (sym end)
          (begun cells start steps b c.args.last f self.marks.items self.units.items self.hints.items self.reasons.items
          (c.in_ok-rest_on.ensures.reasons ∙ ap (λ (xs : List ℕ). xs ++ c.args.last ∷ []) c.requires.reasons)
          (subst (λ (m : ℕ). AreMet cells start steps m self.marks.items self.units.items self.hints.items f.clause) end
          (c.in_ok-rest_on.ensures.met start f.clause b
          (subst (λ (m : ℕ). IsNoted cells start steps m old.marks.items old.units.items old.hints.items) (sym end) n) f.there
          (λ k h. inr (subst (λ (m : ℕ). IsTrueBy cells steps m (opposite k)) (sym end) (f.all_false k h))))));
    }
