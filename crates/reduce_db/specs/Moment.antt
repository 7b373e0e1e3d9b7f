-- When a ring reduces its lemmas.
use Rattle.std.specs.Prelude.{ℕ, ◌+◌, ◌-◌, ◌*◌}

-- this many lemmas are learned before the i-th reduction, from 1, since the last one
abbrev pub lemmas_before : ℕ → ℕ
lemmas_before i = 2000 + 300 * (i - 1)
