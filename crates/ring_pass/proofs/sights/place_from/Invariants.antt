use Rattle.std.proofs.Common.{◌≡◌, ℕ, ◌<◌, ◌≤◌, false, get_or}
use Rattle.sat_words.specs.Literal.{same}
use Rattle.ring_pass.proofs.sights.place_from.Given as goal

abbrev pub invariant-loop-place : goal.invariant-loop-place
invariant-loop-place l = (j : ℕ) → l.from ≤ j → j < l.place → same l.lit (get_or l.lits j (record { var = 0; neg = false })) ≡ false
