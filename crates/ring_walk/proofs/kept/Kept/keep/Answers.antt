use Rattle.std.proofs.Common.{◌≡◌, ◌∙◌, ℕ, ◌+◌, Bool, false, List, length, sym, ap, subst, arith}
use Rattle.std.specs.Prelude.{if◌then◌else◌}
use Rattle.sat_words.specs.Truth.{value_of}
use Rattle.ring_walk.specs.KeptData.{KeptData, differs}
use Rattle.ring_walk.specs.Listed.{AreListed}
use Rattle.ring_walk.specs.Truths.{is_in}
use Rattle.ring_walk.proofs.Keeping.{caught_up, listed-none, differs-self, passing-none}
use Rattle.ring_walk.proofs.kept.Kept.keep.Goals as goal
use Rattle.ring_walk.proofs.kept.Kept.keep.Goals.{After-clear}

up_to : (c : After-clear) → c.copy_values.new.to ≡ c.self.inside.values
up_to c =
    let k = c.self.inside in
    caught_up k.best k.values c.copy_values.new.to k.changed.items k.places.items c.self.invariant.listed c.self.invariant.same c.copy_values.ensures.len
    (subst (λ (xs : List ℕ). (v : ℕ) → value_of c.copy_values.new.to v ≡ (if is_in xs v then value_of k.values v else value_of k.best v)) c.as_slice.ensures.value c.copy_values.ensures.each)

pub invariant_of-self : goal.invariant_of-self
invariant_of-self c =
    let k = c.self.inside in
    let same = up_to c in
    let none : (v : ℕ) → differs c.copy_values.new.to k.values v ≡ false = λ v. ap (λ (a : List Bool). differs a k.values v) same ∙ differs-self k.values v in
    let room = c.self.invariant.room in
    let cap = c.clear.ensures.capacity in
    record {
      small = c.self.invariant.small;
      same = ap (λ (a : List Bool). length a) same;
      listed = subst (λ (xs : List ℕ). AreListed (differs c.copy_values.new.to k.values) (length k.values + 1) xs k.places.items) (sym c.clear.ensures.items)
          (listed-none (differs c.copy_values.new.to k.values) (length k.values + 1) k.places.items c.self.invariant.listed.wide none);
      many = ap (λ (xs : List ℕ). length xs) c.clear.ensures.items ∙ sym (passing-none (differs c.copy_values.new.to k.values) (length k.values + 1) none);
      room = omega arith;
    }

pub returns : goal.returns
returns c =
    let same = up_to c in
    let is = ap (λ (d : KeptData). d.values) c.self.view_is in
    λ i. record { values = is i; best = (same ∙ is) i }
