use Rattle.std.proofs.Common.{◌+◌, arith, ap, length}
use Rattle.ring_trail.specs.TrailData.{TrailData}
use Rattle.ring_trail.proofs.Shape.{trail_of}
use Rattle.ring_trail.proofs.trail.Trail.advance_head.Goals as goal

pub returns-clause-trail : goal.returns-clause-trail
returns-clause-trail c =
    let h = c.self.invariant in
    let steps = ap (λ (t : TrailData). length t.steps) c.self.view_is in
    let done = ap (λ (t : TrailData). t.done) c.self.view_is in
    trail_of (record c.self.inside { done = c.self.inside.done + 1 })
    (record {
      kept = h.kept;
      placed = h.placed;
      range = h.range;
      sizes = h.sizes;
      parts = h.parts;
      levels = h.levels;
      done = omega (arith, c.requires);
      small = h.small;
      room = h.room;
      room_starts = h.room_starts;
    })
