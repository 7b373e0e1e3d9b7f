use Rattle.std.proofs.Common.{◌≡◌, ◌∙◌, ℕ, ◌<◌, length, List, get_or, sym, ap, subst}
use Rattle.std.specs.Prelude.{if◌then◌else◌}
use Rattle.ring_walk.specs.declared.tally.Count.{Count}
use Rattle.ring_walk.specs.Tally.{CanLower, count_at, lowered}
use Rattle.ring_walk.specs.Truths.{is_in}
use Rattle.ring_walk.proofs.Flipping.{half, next_can, whole}
use Rattle.ring_walk.proofs.turns.flip.Goals as goal

pub lower_all-requires-clause-can : goal.lower_all-requires-clause-can
lower_all-requires-clause-can c = λ k lt.
    let r = c.requires.known in
    let is = half c.args.tally.now c.args.up.now c.args.down.now c.args.var r.0 r.1 r.2 r.3 c.raise_all.new.tally.counts c.raise_all.ensures.len c.raise_all.ensures.each in
    subst (λ (n : ℕ). CanLower n (count_at c.raise_all.new.tally.counts (get_or c.args.down.now k 0)) c.args.var) (sym c.raise_all.ensures.vars)
    (subst (λ (xs : List Count). CanLower c.args.tally.now.vars (count_at xs (get_or c.args.down.now k 0)) c.args.var) (sym is)
    (next_can c.args.tally.now c.args.up.now c.args.down.now c.args.var r.0 r.1 r.2 r.3 k lt))

pub returns-clause-counts : goal.returns-clause-counts
returns-clause-counts c = λ G T l f.
    let is = half c.args.tally.now c.args.up.now c.args.down.now c.args.var G T l f c.raise_all.new.tally.counts c.raise_all.ensures.len c.raise_all.ensures.each in
    whole c.args.tally.now c.args.up.now c.args.down.now c.args.var G T l f c.lower_all.new.tally.counts
    (c.lower_all.ensures.len ∙ ap (λ (xs : List Count). length xs) is)
    (subst (λ (xs : List Count). (i : ℕ) → i < length xs → count_at c.lower_all.new.tally.counts i ≡ (if is_in c.args.down.now i then lowered (count_at xs i) c.args.var else count_at xs i)) is c.lower_all.ensures.each)
