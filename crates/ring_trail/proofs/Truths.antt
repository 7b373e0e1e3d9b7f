-- What the table of values says of a literal, and where it stands.
use Rattle.std.proofs.Common.{◌≡◌, ℕ, ◌≤◌, ◌↔◌, IsTrue, Bool, true, false, not, Some, None, Option, List, sym, refl, ap, subst, ◌∙◌, arith}
use Rattle.std.specs.Cmp.{booleans_Decides}
use Rattle.std.specs.Option.{option_map}
use Rattle.std.proofs.lemmas.Bool.{false≢true}
use Rattle.sat_words.specs.Literal.{Literal, opposite}
use Rattle.sat_words.specs.Values.{is_value, is_true}
use Rattle.ring_trail.specs.declared.step.TrailStep.{TrailStep}
use Rattle.ring_trail.specs.declared.trail.Trail.TheInside.{Inside}
use Rattle.ring_trail.specs.TrailData.{TrailData, IsTrail, IsTrueOn, IsFalseOn, HasNoPlace, lit_at, step_at, value_of}
use Rattle.ring_trail.specs.Inside.{IsInside}
use Rattle.ring_trail.proofs.Values.{value_some, some_at, step_of-no_place}
use Rattle.ring_trail.proofs.Shape.{seen_as, trail_of, same_lit, step_at_place}

not-not : (b : Bool) → not (not b) ≡ b
not-not true = refl
not-not false = refl

value_is : (o : Option Bool) (b : Bool) → is_value o b ≡ true → o ≡ Some b
value_is None b e = absurd (false≢true e)
value_is (Some x) b e = ap Some ((booleans_Decides x b).0 e)

is_the_value : (b : Bool) → is_value (Some b) b ≡ true
is_the_value true = refl
is_the_value false = refl

-- a literal whose variable has the value that makes it true stands at some place
stands : (steps : List TrailStep) (l : Literal) → value_of steps l.var ≡ Some (not l.neg) → IsTrueOn steps l
stands steps l e =
    let s = value_some steps l.var (not l.neg) e in
    let p = some_at steps l.var s.0 s.1 in
    record {
      place = p.0;
      before = p.1;
      true_there = same_lit (step_at steps p.0).lit l
          (ap (λ (x : TrailStep). x.lit.var) p.2 ∙ p.3)
          (ap (λ (x : TrailStep). x.lit.neg) p.2 ∙ sym (not-not s.0.lit.neg) ∙ ap not s.2 ∙ not-not l.neg);
    }

-- and gives its variable that value
has_value : (d : TrailData) (l : Literal) → IsTrail d → IsTrueOn d.steps l → value_of d.steps l.var ≡ Some (not l.neg)
has_value d l shape i =
    ap (option_map (λ (s : TrailStep). not s.lit.neg)) (step_at_place d l.var i.place shape (record { in_range = i.before; var = ap (λ (k : Literal). k.var) i.true_there }))
    ∙ ap (λ (k : Literal). Some (not k.neg)) i.true_there

told_true : (t : Inside) (l : Literal) → IsInside t → l.var ≤ t.vars → IsTrue (is_true t.values l) ↔ IsTrueOn t.steps.items l
told_true t l i le =
    let told = i.kept.told l.var (omega (arith, i.range)) in (
      (λ h. stands t.steps.items l (sym told ∙ value_is _ (not l.neg) h)),
      (λ on. ap (λ (o : Option Bool). is_value o (not l.neg)) (told ∙ has_value (seen_as t) l (trail_of t i) on) ∙ is_the_value (not l.neg)),
    )

pub true_on : (t : Inside) (d : TrailData) (l : Literal) → IsInside t → seen_as t ≡ d → l.var ≤ d.vars → IsTrue (is_true t.values l) ↔ IsTrueOn d.steps l
true_on t d l i e le =
    subst (λ (x : TrailData). IsTrue (is_true t.values l) ↔ IsTrueOn x.steps l) e
    (told_true t l i (let vars = ap (λ (x : TrailData). x.vars) e in omega arith))

pub false_on : (t : Inside) (d : TrailData) (l : Literal) → IsInside t → seen_as t ≡ d → l.var ≤ d.vars → IsTrue (is_true t.values (opposite l)) ↔ IsFalseOn d.steps l
false_on t d l i e le =
    let on = true_on t d (opposite l) i e le in (
      (λ h. let p = on.0 h in record { place = p.place; before = p.before; false_there = p.true_there }),
      (λ p. on.1 (record { place = p.place; before = p.before; true_there = p.false_there })),
    )

-- a literal that is neither true nor false has no place
pub neither : (steps : List TrailStep) (l : Literal) → (IsTrueOn steps l → ⊥) → (IsFalseOn steps l → ⊥) → HasNoPlace steps l.var
neither steps l not_true not_false p lt e = by (lit_at steps p).neg l.neg refl refl
  where
    by : (n m : Bool) → (lit_at steps p).neg ≡ n → l.neg ≡ m → ⊥
    by true true f g = not_true (record { place = p; before = lt; true_there = same_lit (lit_at steps p) l e (f ∙ sym g) })
    by false false f g = not_true (record { place = p; before = lt; true_there = same_lit (lit_at steps p) l e (f ∙ sym g) })
    by true false f g = not_false (record { place = p; before = lt; false_there = same_lit (lit_at steps p) (opposite l) e (f ∙ sym (ap not g)) })
    by false true f g = not_false (record { place = p; before = lt; false_there = same_lit (lit_at steps p) (opposite l) e (f ∙ sym (ap not g)) })

pub no_value : (steps : List TrailStep) (v : ℕ) → HasNoPlace steps v → value_of steps v ≡ None
no_value steps v none = ap (option_map (λ (s : TrailStep). not s.lit.neg)) (step_of-no_place steps v none)
