use Rattle.std.proofs.Common.{◌≡◌, ◌+◌, ◌++◌, ◌∷◌, [], ◌≤◌, ◌==◌, Bool, true, false, List, take, ap, arith}
use Rattle.rup_model.specs.Basics.{one_if}
use Rattle.share_core.specs.declared.stored.ClauseAt.{ClauseAt}
use Rattle.share_core.specs.State.{times_at}
use Rattle.share_core.proofs.ClauseLists.{at_both}
use Rattle.share_core.proofs.Scans.{next_taken}
use Rattle.share_core.proofs.ring.times_of.Goals as goal

small : (b : Bool) → one_if b ≤ 1
small true = omega arith
small false = omega arith

pub loop-h-preserved : goal.loop-h-preserved
loop-h-preserved c =
    let i = c.loop-h.h-index in
    let h : ClauseAt = c.h-item.result in
    let a = c.args.address in
    let xs : List ClauseAt = c.args.list.now in
    let m : times_at a (take (i + 1) xs) ≡ times_at a (take i xs ++ h ∷ []) = ap (times_at a) (next_taken xs i h c.loop-h-test.true c.h-item.is) in
    let s = at_both a (take i xs) (h ∷ []) in
    let one : c.one_at-times.result ≡ one_if (h.address == a) = c.one_at-times.ensures in
    let inv : c.loop-h.times ≡ times_at a (take i xs) = c.loop-h.invariant.0 in
    let few = small (h.address == a) in
    let bound : c.loop-h.times ≤ i = c.loop-h.invariant.1 in
    (omega arith, omega arith)
