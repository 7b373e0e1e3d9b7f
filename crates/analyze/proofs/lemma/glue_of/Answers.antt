use Rattle.std.proofs.Common.{◌≡◌, ◌+◌, ◌<◌, ◌∙◌, ℕ, Bool, List, length, get_or, sym, ap, arith}
use Rattle.ring_trail.specs.TrailData.{level_at}
use Rattle.analyze.specs.Marks.{marked}
use Rattle.analyze.proofs.LevelLemmas.{AreLevels-none, AreLevels-again, AreLevels-set, levels_room, levels_few}
use Rattle.analyze.proofs.lemma.glue_of.Goals as goal
use Rattle.analyze.proofs.lemma.glue_of.Goals.{After-at, then-not-at, else-not-at}

at_lt : (c : After-at) → c.level_at-at.result < c.args.trail.now.vars + 1
at_lt c =
    let in_range = c.requires.in_range c.loop-place.place-index 0 c.loop-place-test.true in
    let shallow = c.requires.shape.shallow (get_or c.args.kept_places.now c.loop-place.place-index 0) in_range in
    let few = c.requires.shape.short in
    omega (arith, shallow, c.level_at-at.ensures)

-- what was read is the mark
here : (c : After-at) → c.at.result ≡ marked c.loop-place.found.values c.level_at-at.result
here c = c.at.ensures ∙ ap (λ (b : Bool). get_or c.loop-place.found.values c.level_at-at.result b) c.loop-place.invariant.blank

pub loop-place-init : goal.loop-place-init
loop-place-init c = rw c.requires.blank (AreLevels-none (level_at c.args.trail.now.steps) c.args.kept_places.now (c.args.trail.now.vars + 1))

pub mark-requires-clause-room : goal.mark-requires-clause-room
mark-requires-clause-room c =
    let a = (goal.at.mark-requires-clause-room c).After-at in
    let i = c.loop-place.invariant in
    let room = levels_room (level_at c.args.trail.now.steps) c.args.kept_places.now c.loop-place.place-index (c.args.trail.now.vars + 1) c.loop-place.found i
    c.level_at-at.result c.loop-place-test.true c.level_at-at.ensures (at_lt a) (sym (here a) ∙ c.if-not-at.true) in
    omega (arith, room, i.size)

pub loop-place-preserved : goal.loop-place-preserved
loop-place-preserved c =
    let a = (goal.at.loop-place-preserved c).After-at in
    let i = c.loop-place.invariant in
    let levels : ℕ → ℕ = level_at c.args.trail.now.steps in
    let ps = c.args.kept_places.now in
    let n : ℕ = c.args.trail.now.vars + 1 in
    elim c.if-not-at.branch [
      | then-not-at w ↦ rw (w.found-is, w.mark.ensures)
          (AreLevels-set levels ps c.loop-place.place-index n c.loop-place.found i c.level_at-at.result c.loop-place-test.true c.level_at-at.ensures (at_lt a) (sym (here a) ∙ w.if-not-at.true))
      | else-not-at w ↦ rw w.found-is
          (AreLevels-again levels ps c.loop-place.place-index n c.loop-place.found i c.level_at-at.result c.loop-place-test.true c.level_at-at.ensures (sym (here a) ∙ w.if-not-at.false))
    ]

pub overflow_cast-count : goal.overflow_cast-count
overflow_cast-count c =
    let few = levels_few (level_at c.args.trail.now.steps) c.args.kept_places.now c.loop-place.place-index (c.args.trail.now.vars + 1) c.loop-place.found c.loop-place.invariant in
    let small = c.requires.shape.small in
    omega (arith, few, small, ap (λ (xs : List ℕ). length xs) c.touched.ensures)
