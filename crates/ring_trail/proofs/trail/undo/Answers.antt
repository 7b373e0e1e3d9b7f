use Rattle.std.proofs.Common.{◌≡◌, ◌≤◌, ◌++◌, ◌∷◌, [], List, None, length, take, subst, sym, ap, ◌∙◌, arith, Option, Bool}
use Rattle.std.specs.Option.{option_to_list}
use Rattle.std.proofs.lemmas.List.{length-append, length-set, take-append-le, take-take, take_all}
use Rattle.ring_trail.specs.declared.step.TrailStep.{TrailStep}
use Rattle.ring_trail.specs.Inside.{IsKept}
use Rattle.ring_trail.proofs.Values.{Kept-pop}
use Rattle.ring_trail.proofs.trail.undo.Goals as goal

-- what is left of a prefix after its last element went
front : (old new all : List TrailStep) (s : TrailStep) → old ≡ new ++ s ∷ [] → old ≡ take (length old) all → length old ≤ length all → new ≡ take (length new) all
front old new all s e p h =
    let n = length-append new (s ∷ []) in
    let m = ap (λ (xs : List TrailStep). length xs) e in
    sym (take-append-le (length new) new (s ∷ []) (omega arith) ∙ take_all (length new) new (omega arith))
    ∙ ap (λ (xs : List TrailStep). take (length new) xs) (sym e ∙ p)
    ∙ take-take (length new) (length old) all (omega (arith, n, m))

pub loop-steps-preserved-in-Some : goal.loop-steps-preserved-in-Some
loop-steps-preserved-in-Some c =
    let s = c.in-Some.step in
    let i = c.loop-steps.invariant in
    let items : c.loop-steps.steps.items ≡ c.pop.new.self.items ++ s ∷ [] = c.pop.ensures.items ∙ ap (λ (o : Option TrailStep). c.pop.new.self.items ++ option_to_list o) c.in-Some.is in
    let k = Kept-pop c.pop.new.self.items c.loop-steps.values s (subst (λ (xs : List TrailStep). IsKept xs c.loop-steps.values) items i.kept) in
    let n = length-append c.pop.new.self.items (s ∷ []) in
    let m = ap (λ (xs : List TrailStep). length xs) items in
    record {
      kept = rw (c.unset.ensures, c.var.ensures.value) k.0;
      low = (let t = c.loop-steps-test.true in omega (arith, n, m, t, c.len.ensures, c.loop-steps.steps.ok));
      rest = front c.loop-steps.steps.items c.pop.new.self.items c.args.steps.now.items s items i.rest i.high;
      high = omega (arith, n, m, i.high);
      room = c.pop.ensures.capacity ∙ i.room;
      range = ap (λ (vs : List (Option Bool)). length vs) c.unset.ensures ∙ length-set c.loop-steps.values c.var.result None ∙ i.range;
    }
