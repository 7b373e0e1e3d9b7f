use Rattle.std.proofs.Common.{◌≡◌, ◌∙◌, ℕ, ◌<◌, Bool, true, false, List, ◌++◌, [], ◌∷◌, length, get_or, Option, Some, None, sym, refl, ap, inl, subst}
use Rattle.std.proofs.lemmas.Bool.{false≢true}
use Rattle.std.proofs.lemmas.List.{get_or_default}
use Rattle.std.specs.Option.{is_some}
use Rattle.sat_words.specs.Literal.{Literal}
use Rattle.simp_base.specs.declared.hints.trail.Step.{Step}
use Rattle.simp_base.specs.Hinting.{reason_at, no_step}
use Rattle.simp_base.specs.Collecting.{marked, IsNoted}
use Rattle.simp_base.proofs.Needing.{is_met, forced_noted, unit_noted, unit_of, not_given, forced_of}
use Rattle.simp_base.proofs.hints.collection.Collection.need.Goals as goal

some_of : (o : Option ℕ) → is_some o ≡ true → (n : ℕ) × (o ≡ Some n)
some_of (Some n) e = (n, refl)
some_of None e = absurd (false≢true e)

read_reason : (steps : List Step) (p : ℕ) (s : Step) → p < length steps → is_some (get_or steps p s).reason ≡ true → (n : ℕ) × (reason_at steps p ≡ Some n)
read_reason steps p s lt some = let r = some_of (get_or steps p s).reason some in (r.0, ap (λ (x : Step). x.reason) (get_or_default steps p no_step s lt) ∙ r.1)

pub returns-in_ok-mark-clause-noted : goal.returns-in_ok-mark-clause-noted
returns-in_ok-mark-clause-noted c = λ start i b le n t.
    let steps = c.args.trail.now.steps in
    let p = c.in-Some.place in
    let some = ap (λ (xs : List Step). is_some (get_or xs p c.index-steps-place.result).reason) (sym c.steps.ensures) ∙ sym c.is_some.ensures ∙ c.if-is_some.true in
    let r = read_reason steps p c.index-steps-place.result c.in-Some.ensures.some.0 some in
    let f = forced_of c.args.clauses.now.clauses start steps b i c.args.lit p r.0 le c.in-Some.ensures.some.0 c.in-Some.ensures.some.1 r.1 t in
    record {
      noted = forced_noted c.args.clauses.now.clauses start steps b i c.args.self.now.marks.items c.args.self.now.units.items c.args.self.now.hints.items n c.args.lit c.mark.new.marks.items f c.in_ok-mark.ensures.ok;
      met = inl (is_met c.args.clauses.now.clauses start steps b i c.args.self.now.marks.items c.args.self.now.units.items c.args.self.now.hints.items n c.args.lit c.mark.new.marks.items c.in_ok-mark.ensures.ok);
    }

pub returns-in_ok-need_unit-clause-noted : goal.returns-in_ok-need_unit-clause-noted
returns-in_ok-need_unit-clause-noted c = λ start i b le n t.
    let h = c.in_ok-need_unit.ensures in
    let cells = c.args.clauses.now.clauses in
    let steps = c.args.trail.now.steps in
    let none = c.in_default.ensures.none in
    let off : marked c.args.self.now.marks.items c.args.lit ≡ false = ap (λ (ms : List Bool). marked ms c.args.lit) (sym c.as_slice.ensures.value) ∙ sym c.is_marked.ensures ∙ c.if-is_marked.false in
    let noted = unit_noted cells start steps b i c.args.self.now.marks.items c.args.self.now.units.items c.args.self.now.hints.items n c.args.lit c.need_unit.new.self.marks.items
    c.in-Some-unit_number.number off c.in-Some-unit_number.ensures (not_given cells start steps b c.args.lit none) h.marks in
    record {
      noted = subst (λ (us : List Literal). IsNoted cells start steps i c.need_unit.new.self.marks.items us c.need_unit.new.self.hints.items) (sym h.units)
          (subst (λ (ns : List ℕ). IsNoted cells start steps i c.need_unit.new.self.marks.items (c.args.self.now.units.items ++ c.args.lit ∷ []) ns) (sym h.hints) noted);
      met = inl (is_met cells start steps b i c.args.self.now.marks.items c.args.self.now.units.items c.args.self.now.hints.items n c.args.lit c.need_unit.new.self.marks.items h.marks);
    }

pub returns-in_default-unit_number-clause-noted : goal.returns-in_default-unit_number-clause-noted
returns-in_default-unit_number-clause-noted c = λ start i b le n t.
    let u = unit_of c.args.clauses.now.clauses start c.args.trail.now.steps b i c.args.lit le c.in_default.ensures.none t in
    absurd (c.in_default-unit_number.ensures u.0 u.1)
