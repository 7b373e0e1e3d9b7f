use Rattle.std.proofs.Common.{◌≡◌, ℕ, ◌<◌, ◌≤◌, List, length, slice_index, slice_set, ap, arith}
use Rattle.std.proofs.lemmas.Grind.{common_steps}
use Rattle.ring_decide.specs.Tables.{AreUpTo}
use Rattle.ring_decide.specs.QueueData.{QueueData}
use Rattle.ring_decide.specs.QueueInside.{vars_of}
use Rattle.ring_decide.proofs.queue.Queue.bump.Goals as goal

-- entries up to a bound are up to a greater one
up_to_more : (n m : ℕ) (xs : List ℕ) → AreUpTo n xs → n ≤ m → AreUpTo m xs
up_to_more n m xs h le i lt = let z = h i lt in omega arith

-- so are they if one of them is set to at most that
up_to_set : (m : ℕ) (xs : List ℕ) (v x : ℕ) → AreUpTo m xs → x ≤ m → AreUpTo m (slice_set xs v x)
up_to_set m xs v x h le i lt = grind (arith, common_steps, h i)

set_length : (xs : List ℕ) (v x : ℕ) → length (slice_set xs v x) ≡ length xs
set_length xs v x = grind (arith, common_steps)

set_there : (xs : List ℕ) (v x : ℕ) → v < length xs → slice_index (slice_set xs v x) v ≡ x
set_there xs v x lt = grind (arith, common_steps)

pub invariant_of-self : goal.invariant_of-self
invariant_of-self c =
    let i = c.self.invariant in
    let n : ℕ = vars_of c.self.inside in
    let v : vars_of c.self.inside ≡ c.args.self.now.vars = ap (λ (d : QueueData). d.vars) c.self.view_is in
    let high : c.args.var ≤ n = omega (arith, v, c.requires.high) in
    let b = c.linked-before.ensures n i.before in
    let clock = c.saturating_add-self-inside.result in
    let later : c.self.inside.clock ≤ clock = omega (arith, c.saturating_add-self-inside.ensures, c.self.ranges) in
    let stamps : List ℕ = c.self.inside.stamps.items in
    let e : length (slice_set stamps c.args.var clock) ≡ length stamps = set_length stamps c.args.var clock in
    record {
      small = omega (arith, e, i.small);
      stamps_len = omega (arith, e, i.stamps_len);
      before_len = omega (arith, e, c.link-3.ensures.len, c.link-2.ensures.len, i.before_len);
      after_len = omega (arith, e, c.link-5.ensures.len, c.link-4.ensures.len, c.link.ensures.len, i.after_len);
      before = rw e (c.link-3.ensures.vars n (c.link-2.ensures.vars n i.before b) i.last);
      after = rw e (c.link-5.ensures.vars n (c.link-4.ensures.vars n (c.link.ensures.vars n i.after (c.linked-after.ensures n i.after)) (omega arith)) high);
      stamps = up_to_set clock stamps c.args.var clock (up_to_more c.self.inside.clock clock stamps i.stamps later) (omega arith);
      last = omega (arith, e, high);
      latest = set_there stamps c.args.var clock (omega (arith, i.stamps_len, high));
      search = rw e (c.moved_off-self-inside.ensures n i.search b);
    }
