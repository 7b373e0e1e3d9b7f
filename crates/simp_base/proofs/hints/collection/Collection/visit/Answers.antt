use Rattle.std.proofs.Common.{◌≡◌, ◌∙◌, ◌⊎◌, ◌<◌, ℕ, Bool, false, not, ◌&&◌, List, length, get_or, Some, sym, ap, inl, inr}
use Rattle.std.proofs.lemmas.Bool.{false≢true}
use Rattle.std.proofs.lemmas.List.{get_or_default}
use Rattle.sat_words.specs.Literal.{Literal, opposite, same}
use Rattle.simp_base.specs.declared.hints.trail.Step.{Step}
use Rattle.simp_base.specs.Hinting.{lit_at, reason_at, no_step, IsTrueBy}
use Rattle.simp_base.specs.Collecting.{marked, StandsAt}
use Rattle.simp_base.proofs.Descending.{skipped, unmarked, stepped}
use Rattle.simp_base.proofs.hints.collection.Collection.visit.Goals as goal

-- the step that was read
read : (xs steps : List Step) (p : ℕ) (s : Step) → xs ≡ steps → p < length steps → s ≡ get_or xs p s → get_or steps p no_step ≡ s
read xs steps p s e lt is = get_or_default steps p no_step s lt ∙ sym (is ∙ ap (λ (ys : List Step). get_or ys p s) e)

pub returns-in_ok-rest_on : goal.returns-in_ok-rest_on
returns-in_ok-rest_on c = λ start b s.
    let cells = c.args.clauses.now.clauses in
    let steps = c.args.trail.now.steps in
    let p = c.args.place in
    let old = c.args.self.now in
    let self = c.rest_on.new.self in
    let step : get_or steps p no_step ≡ c.index-steps-place.result = read c.steps.result.now steps p c.index-steps-place.result c.steps.ensures c.requires c.index-steps-place.is in
    let n = c.in-Some.reason in
    let reason : reason_at steps p ≡ Some n = ap (λ (x : Step). x.reason) step ∙ c.in-Some.is in
    let lit : lit_at steps p ≡ c.index-steps-place.result.lit = ap (λ (x : Step). x.lit) step in
    let mid = c.unmark.new.marks.items in
    let is : (l : Literal) → marked mid l ≡ (not (same (lit_at steps p) l) && marked old.marks.items l) = λ l. c.unmark.ensures l ∙ ap (λ (x : Literal). not (same x l) && marked old.marks.items l) (sym lit) in
    let noted = unmarked cells start steps b p c.requires old.marks.items old.units.items old.hints.items old.reasons.items s n reason mid is in
    let u = b.trail.up p n c.requires reason in
    let met = c.in_ok-rest_on.ensures.met start u.clause b noted u.there
    (λ k h. elim (u.others k h) as (λ _. StandsAt steps p k ⊎ IsTrueBy cells steps p (opposite k)) [ inl e ↦ inl (c.requires, sym e) | inr y ↦ inr y ]) in
    stepped cells start steps b p c.requires old.marks.items old.units.items old.hints.items old.reasons.items s n reason mid is u
    self.marks.items self.units.items self.hints.items self.reasons.items c.in_ok-rest_on.ensures.reasons c.in_ok-rest_on.ensures.kept met

pub returns-else-is_marked : goal.returns-else-is_marked
returns-else-is_marked c = λ start b s.
    let steps = c.args.trail.now.steps in
    let p = c.args.place in
    let old = c.args.self.now in
    let step : get_or steps p no_step ≡ c.index-steps-place.result = read c.steps.result.now steps p c.index-steps-place.result c.steps.ensures c.requires c.index-steps-place.is in
    let off : marked old.marks.items c.index-steps-place.result.lit ≡ false = ap (λ (ms : List Bool). marked ms c.index-steps-place.result.lit) (sym c.as_slice.ensures.value) ∙ sym c.is_marked.ensures ∙ c.if-is_marked.false in
    skipped c.args.clauses.now.clauses start steps b p c.requires old.marks.items old.units.items old.hints.items old.reasons.items s
    (λ n r m. false≢true (sym off ∙ ap (λ (x : Step). marked old.marks.items x.lit) (sym step) ∙ m))

pub returns-in_default : goal.returns-in_default
returns-in_default c = λ start b s.
    let steps = c.args.trail.now.steps in
    let p = c.args.place in
    let old = c.args.self.now in
    let step : get_or steps p no_step ≡ c.index-steps-place.result = read c.steps.result.now steps p c.index-steps-place.result c.steps.ensures c.requires c.index-steps-place.is in
    skipped c.args.clauses.now.clauses start steps b p c.requires old.marks.items old.units.items old.hints.items old.reasons.items s
    (λ n r m. c.in_default.not-Some n (ap (λ (x : Step). x.reason) (sym step) ∙ r))
