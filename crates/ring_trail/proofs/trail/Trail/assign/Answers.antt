use Rattle.std.proofs.Common.{◌≡◌, ◌∷◌, [], List, ap, arith, length, sym, ◌∙◌, subst}
use Rattle.std.proofs.lemmas.List.{length-append}
use Rattle.ring_trail.specs.declared.step.TrailStep.{TrailStep}
use Rattle.ring_trail.specs.TrailData.{TrailData}
use Rattle.ring_trail.proofs.Shape.{trail_of}
use Rattle.ring_trail.proofs.Levels.{AllPart, UpTo, AllPart-push, UpTo-push}
use Rattle.ring_trail.proofs.trail.Trail.assign.Goals as goal

pub invariant_of-self : goal.invariant_of-self
invariant_of-self c =
    let i = c.self.inside in
    let h = c.self.invariant in
    let s : TrailStep = record { lit = c.args.lit; level = c.decision_level-level.result; reason = c.args.reason } in
    let here : s.level ≡ length i.starts.items = c.decision_level-level.ensures.level ∙ sym (ap (λ (t : TrailData). t.level) c.self.view_is) in
    record {
      kept = c.put.ensures.kept;
      placed = c.put.ensures.placed;
      range = c.put.ensures.range ∙ h.range;
      sizes = c.put.ensures.sizes ∙ h.sizes ∙ sym c.put.ensures.range;
      parts = subst (λ (xs : List TrailStep). AllPart xs i.starts.items) (sym c.put.ensures.steps) (AllPart-push i.steps.items i.starts.items s h.parts (omega arith));
      levels = subst (λ (xs : List TrailStep). UpTo xs (length i.starts.items)) (sym c.put.ensures.steps) (UpTo-push i.steps.items (length i.starts.items) s h.levels (omega arith));
      done = omega (arith, h.done, length-append i.steps.items (s ∷ []), ap (λ (xs : List TrailStep). length xs) c.put.ensures.steps);
      small = h.small;
      room = omega (arith, h.room, c.put.ensures.room);
      room_starts = h.room_starts;
    }

pub returns-clause-trail : goal.returns-clause-trail
returns-clause-trail c =
    trail_of (record c.self.inside { steps = c.put.new.steps; values = c.put.new.values; places = c.put.new.places })
    (invariant_of-self c)
