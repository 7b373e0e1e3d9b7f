use Rattle.std.proofs.Common.{◌≡◌, ◌++◌, ◌∷◌, ◌+◌, [], ℕ, List, None, ap, arith, length, sym, ◌∙◌}
use Rattle.std.proofs.lemmas.List.{length-append}
use Rattle.ring_trail.specs.declared.step.TrailStep.{TrailStep}
use Rattle.ring_trail.specs.TrailData.{TrailData}
use Rattle.ring_trail.proofs.Shape.{trail_of}
use Rattle.ring_trail.proofs.Levels.{AllPart-decide, UpTo-push}
use Rattle.ring_trail.proofs.trail.Trail.decide.Goals as goal

pub invariant_of-self : goal.invariant_of-self
invariant_of-self c =
    let i = c.self.inside in
    let h = c.self.invariant in
    let s : TrailStep = record { lit = c.args.lit; level = c.decision_level-level.result + 1; reason = None } in
    let here : c.decision_level-level.result ≡ length i.starts.items = c.decision_level-level.ensures.level ∙ sym (ap (λ (t : TrailData). t.level) c.self.view_is) in
    let start : c.len-start.result ≡ length i.steps.items = omega (arith, c.len-start.ensures, i.steps.ok) in
    let starts : c.push_reserved.new.self.items ≡ i.starts.items ++ length i.steps.items ∷ [] = c.push_reserved.ensures.items ∙ ap (λ (m : ℕ). i.starts.items ++ m ∷ []) start in
    record {
      kept = c.put.ensures.kept;
      placed = c.put.ensures.placed;
      range = c.put.ensures.range ∙ h.range;
      sizes = c.put.ensures.sizes ∙ h.sizes ∙ sym c.put.ensures.range;
      parts = rw (c.put.ensures.steps, starts) (AllPart-decide i.steps.items i.starts.items s h.parts h.levels (omega arith));
      levels = rw (c.put.ensures.steps, starts) (UpTo-push i.steps.items (length (i.starts.items ++ length i.steps.items ∷ [])) s (λ p l. let b = h.levels p l in omega (arith, length-append i.starts.items (length i.steps.items ∷ []))) (omega (arith, length-append i.starts.items (length i.steps.items ∷ []))));
      done = omega (arith, h.done, length-append i.steps.items (s ∷ []), ap (λ (xs : List TrailStep). length xs) c.put.ensures.steps);
      small = h.small;
      room = omega (arith, h.room, c.put.ensures.room);
      room_starts = omega (arith, h.room_starts, c.push_reserved.ensures.capacity);
    }

pub returns-clause-trail : goal.returns-clause-trail
returns-clause-trail c =
    trail_of (record c.self.inside { steps = c.put.new.steps; values = c.put.new.values; places = c.put.new.places; starts = c.push_reserved.new.self })
    (invariant_of-self c)
