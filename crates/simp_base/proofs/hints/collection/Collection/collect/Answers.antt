use Rattle.std.proofs.Common.{◌≡◌, ◌∙◌, ℕ, Bool, false, not, ◌&&◌, [], List, length, sym, ap, subst}
use Rattle.sat_words.specs.Literal.{Literal}
use Rattle.sat_words.specs.Clause.{has}
use Rattle.rup_model.specs.Hints.{numbered, hinted_from}
use Rattle.simp_base.specs.Collecting.{marked, IsBasis, IsNoted, IsCollected}
use Rattle.simp_base.proofs.Descending.{nothing_noted, hinted_at_end, blank_at_end}
use Rattle.simp_base.proofs.hints.collection.Collection.collect.Goals as goal
use Rattle.simp_base.proofs.hints.collection.Collection.collect.Goals.{In-Ok, After-unmark_all}

-- what the walk left
walked : (c : In-Ok) (start : Literal → Bool) → IsBasis c.args.clauses.now.clauses start c.args.trail.now.steps
    → IsCollected c.args.clauses.now.clauses start c.args.trail.now.steps 0 c.walk.new.self.marks.items c.walk.new.self.units.items c.walk.new.self.hints.items c.walk.new.self.reasons.items
walked c start b =
    let cells = c.args.clauses.now.clauses in
    let steps = c.args.trail.now.steps in
    let old = c.args.self.now in
    c.in-Ok.ensures start b
    (subst (λ (us : List Literal). IsNoted cells start steps (length steps) old.marks.items us c.clear-3.new.self.items) (sym c.clear.ensures.items)
    (subst (λ (ns : List ℕ). IsNoted cells start steps (length steps) old.marks.items [] ns) (sym c.clear-3.ensures.items)
    (nothing_noted cells start steps (length steps) old.marks.items c.requires.blank)))
    c.requires.last

pub returns-in_ok-put_reasons-in-Ok-clause-hints : goal.returns-in_ok-put_reasons-in-Ok-clause-hints
returns-in_ok-put_reasons-in-Ok-clause-hints c = λ start b.
    let w = c.walk.new.self in
    let s = walked (goal.at.returns-in_ok-put_reasons-in-Ok-clause-hints c).In-Ok start b in
    ap (λ (ns : List ℕ). hinted_from (numbered c.args.clauses.now.clauses) start ns) c.in_ok-put_reasons-in-Ok.ensures.hints
    ∙ hinted_at_end c.args.clauses.now.clauses start c.args.trail.now.steps b w.marks.items w.units.items w.hints.items w.reasons.items s

-- only units are marked then
only_units : (c : In-Ok) (l : Literal) → (not (has c.walk.new.self.units.items l) && marked c.walk.new.self.marks.items l) ≡ false
only_units c l =
    let w = c.walk.new.self in
    let b = c.requires.basis in
    blank_at_end c.args.clauses.now.clauses b.0 c.args.trail.now.steps b.1 w.marks.items w.units.items w.hints.items w.reasons.items (walked c b.0 b.1) l

no_marks : (c : After-unmark_all) (l : Literal) → marked c.unmark_all.new.marks.items l ≡ (not (has c.walk.new.self.units.items l) && marked c.walk.new.self.marks.items l)
no_marks c l = c.unmark_all.ensures l ∙ ap (λ (us : List Literal). not (has us l) && marked c.walk.new.self.marks.items l) c.as_slice.ensures.value

pub returns-in_ok-put_reasons-in-Ok-clause-blank : goal.returns-in_ok-put_reasons-in-Ok-clause-blank
returns-in_ok-put_reasons-in-Ok-clause-blank c = λ l.
    let a = goal.at.returns-in_ok-put_reasons-in-Ok-clause-blank c in
    rw c.put_reasons.ensures.marks (no_marks a.After-unmark_all l ∙ only_units a.In-Ok l)

pub returns-in_err-put_reasons-in-Ok-clause-blank : goal.returns-in_err-put_reasons-in-Ok-clause-blank
returns-in_err-put_reasons-in-Ok-clause-blank c = λ l.
    let a = goal.at.returns-in_err-put_reasons-in-Ok-clause-blank c in
    rw c.put_reasons.ensures.marks (no_marks a.After-unmark_all l ∙ only_units a.In-Ok l)
