use Rattle.std.proofs.Common.{ℕ, ◌+◌, ◌*◌, ◌<◌, ◌≤◌, ◌≢◌}
use Rattle.std.specs.List.{slice_index}
use Rattle.simp_equiv.proofs.table.clash.Given as goal

abbrev pub invariant-loop-var : goal.invariant-loop-var
invariant-loop-var g l = (v : ℕ) → 1 ≤ v → v < l.var → slice_index l.table (2 * v) ≢ slice_index l.table (2 * v + 1)
