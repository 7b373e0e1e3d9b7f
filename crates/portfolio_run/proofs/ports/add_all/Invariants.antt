use Rattle.std.proofs.Common.{◌≡◌, ◌++◌, length, vec_capacity}
use Rattle.std.specs.Vec.Iter.{into_iter_items, into_iter_len}
use Rattle.portfolio_run.proofs.ports.add_all.Given as goal

abbrev pub invariant-loop-one : goal.invariant-loop-one
invariant-loop-one g l = (l.into.items ++ into_iter_items l.one-iterator ≡ l.fn.into.items ++ l.fn.more.items)
    × (vec_capacity l.into ≡ vec_capacity l.fn.into)
    × (into_iter_len l.one-iterator ≡ length (into_iter_items l.one-iterator))
