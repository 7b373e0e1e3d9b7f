use Rattle.std.proofs.Common.{◌≡◌, arith, length}
use Rattle.ring_trail.proofs.Values.{Kept-put, ArePlaces-put}
use Rattle.ring_trail.proofs.trail.put.Goals as goal

place : (c : goal.After-push_reserved) → c.len-place.result ≡ length c.args.steps.now.items
place c = omega (arith, c.len-place.ensures, c.args.steps.now.ok)

pub returns-clause-kept : goal.returns-clause-kept
returns-clause-kept c =
    rw (c.push_reserved.ensures.items, c.set.ensures)
    (Kept-put c.args.steps.now.items c.args.values.now c.args.step c.requires.kept c.requires.in_range c.requires.low c.requires.free)

pub returns-clause-placed : goal.returns-clause-placed
returns-clause-placed c =
    rw (c.push_reserved.ensures.items, c.var.ensures.value, place c)
    (ArePlaces-put c.args.steps.now.items c.args.places.now.items c.args.step c.requires.placed (omega (arith, c.requires.sizes, c.requires.in_range)) c.requires.free)
