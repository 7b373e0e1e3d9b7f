use Rattle.std.proofs.Common.{◌≡◌, ℕ, ◌≤◌, ◌<◌, min, arith, sym, refl, ◌∙◌, ap, length, List, get_or, subst}
use Rattle.std.proofs.lemmas.List.{length-take-le, get_or_default}
use Rattle.ring_trail.specs.declared.step.TrailStep.{TrailStep}
use Rattle.ring_trail.specs.TrailData.{TrailData, up_to, cut_back}
use Rattle.ring_trail.specs.Inside.{Parts, ArePlaces}
use Rattle.ring_trail.proofs.Shape.{trail_of, trail_at}
use Rattle.ring_trail.proofs.Values.{ArePlaces-take}
use Rattle.ring_trail.proofs.Levels.{UpTo, AllPart-back, UpTo-back, up_to-Parts, up_to-all}
use Rattle.ring_trail.proofs.trail.Trail.back_to.Goals as goal

in_starts : (c : goal.After-self-1) → c.args.level < length c.self.inside.starts.items
in_starts c = omega (arith, c.if-level-len.true, c.len.ensures, c.self.inside.starts.ok)

keep_is : (c : goal.After-self-1) → c.index-keep.result.now ≡ get_or c.self.inside.starts.items c.args.level 0
keep_is c = c.index-keep.ensures ∙ get_or_default c.self.inside.starts.items c.args.level c.index-keep.result.now 0 (in_starts c)

parts_at : (c : goal.After-self-1) → Parts c.self.inside.steps.items c.args.level c.index-keep.result.now
parts_at c = subst (λ (n : ℕ). Parts c.self.inside.steps.items c.args.level n) (sym (keep_is c)) (c.self.invariant.parts c.args.level (in_starts c))

kept_len : (c : goal.After-self-1) → length c.undo.new.steps.items ≡ c.index-keep.result.now
kept_len c = ap (λ (xs : List TrailStep). length xs) c.undo.ensures.steps ∙ length-take-le c.index-keep.result.now c.self.inside.steps.items (let p = (parts_at c).low in omega arith)

starts_len : (c : goal.After-self-1) → length c.truncate.new.self.items ≡ c.args.level
starts_len c = ap (λ (xs : List ℕ). length xs) c.truncate.ensures.items ∙ length-take-le c.args.level c.self.inside.starts.items (let p = in_starts c in omega arith)

pub invariant_of-self : goal.invariant_of-self
invariant_of-self c =
    let i = c.self.inside in
    let h = c.self.invariant in
    record {
      kept = c.undo.ensures.kept;
      placed = subst (λ (xs : List TrailStep). ArePlaces xs i.places.items) (sym c.undo.ensures.steps) (ArePlaces-take i.steps.items i.places.items c.index-keep.result.now h.placed);
      range = c.undo.ensures.range ∙ h.range;
      sizes = h.sizes ∙ sym c.undo.ensures.range;
      parts = rw (c.undo.ensures.steps, c.truncate.ensures.items, keep_is c) (AllPart-back i.steps.items i.starts.items c.args.level h.parts (in_starts c));
      levels = rw (c.undo.ensures.steps, starts_len c) (UpTo-back i.steps.items c.args.level c.index-keep.result.now (parts_at c));
      done = omega (arith, kept_len c, c.min-self-inside.ensures);
      small = h.small;
      room = omega (arith, h.room, c.undo.ensures.room);
      room_starts = omega (arith, h.room_starts, c.truncate.ensures.capacity);
    }

same_trail : (v l d v' l' d' : ℕ) (s s' : List TrailStep) → v ≡ v' → l ≡ l' → s ≡ s' → d ≡ d'
    → (let t : TrailData = record { vars = v; level = l; steps = s; done = d } in t) ≡ record { vars = v'; level = l'; steps = s'; done = d' }
same_trail v l d v' l' d' s s' a b e f = λ i. record { vars = a i; level = b i; steps = e i; done = f i }

pub returns-then-level-len-clause-back : goal.returns-then-level-len-clause-back
returns-then-level-len-clause-back c le =
    let i = c.self.inside in
    let q : c.undo.new.steps.items ≡ up_to c.args.level i.steps.items = c.undo.ensures.steps ∙ sym (up_to-Parts c.args.level i.steps.items c.index-keep.result.now (parts_at c)) in
    let m = ap (λ (xs : List TrailStep). length xs) q in
    subst (λ (t : TrailData). (let u : TrailData = record { vars = i.vars; level = length c.truncate.new.self.items; steps = c.undo.new.steps.items; done = c.min-self-inside.result } in u) ≡ cut_back t c.args.level)
    c.self.view_is
    (same_trail i.vars (length c.truncate.new.self.items) c.min-self-inside.result i.vars c.args.level (min i.done (length (up_to c.args.level i.steps.items))) c.undo.new.steps.items (up_to c.args.level i.steps.items)
    refl (starts_len c) q (omega (arith, c.min-self-inside.ensures, m, kept_len c)))

pub returns-then-level-len-clause-same : goal.returns-then-level-len-clause-same
returns-then-level-len-clause-same c le =
    let few = in_starts c in
    let level = ap (λ (t : TrailData). t.level) c.self.view_is in
    absurd (omega arith)

pub returns-then-level-len-clause-trail : goal.returns-then-level-len-clause-trail
returns-then-level-len-clause-trail c =
    trail_of (record c.self.inside { steps = c.undo.new.steps; values = c.undo.new.values; starts = c.truncate.new.self; done = c.min-self-inside.result })
    (invariant_of-self c)

all_kept : (t : TrailData) (k : ℕ) → t.level ≡ k → t.done ≤ length t.steps → UpTo t.steps k → t ≡ cut_back t k
all_kept t k e h all =
    let q : up_to k t.steps ≡ t.steps = up_to-all k t.steps all in
    let m : t.done ≡ min t.done (length (up_to k t.steps)) = omega (arith, ap (λ (xs : List TrailStep). length xs) q) in
    λ i. record { vars = t.vars; level = e i; steps = sym q i; done = m i }

all_levels : (c : goal.Else-level-len) → c.args.level ≤ c.args.self.now.level → c.args.level ≡ length c.self.inside.starts.items
all_levels c le = omega (arith, c.if-level-len.false, c.len.ensures, c.self.inside.starts.ok, le, ap (λ (t : TrailData). t.level) c.self.view_is)

pub returns-else-level-len-clause-back : goal.returns-else-level-len-clause-back
returns-else-level-len-clause-back c le =
    let i = c.self.inside in
    let h = c.self.invariant in
    subst (λ (t : TrailData). t ≡ cut_back t c.args.level)
    c.self.view_is
    (all_kept (record { vars = i.vars; level = length i.starts.items; steps = i.steps.items; done = i.done }) c.args.level (sym (all_levels c le)) h.done
    (subst (λ (n : ℕ). UpTo i.steps.items n) (sym (all_levels c le)) h.levels))

pub returns-else-level-len-clause-trail : goal.returns-else-level-len-clause-trail
returns-else-level-len-clause-trail c = trail_at _ _ c.self.invariant c.self.view_is
