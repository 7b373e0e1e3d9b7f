-- What a ring does with the counts of its cell.
use Rattle.std.specs.Prelude.{◌≡◌, ℕ, ◌+◌, ◌-◌, ◌^◌, ◌==◌, if◌then◌else◌, min}
use Rattle.test_tables.specs.declared.rings.Ring.{Ring}
use Rattle.share_rule.specs.Steps.{after_drop}

-- how often a ring gave a last count up, if it gave one up that found this many: up to the greatest number
abbrev pub lasts_after : (found lasts : ℕ) → ℕ
lasts_after found lasts = if found == 1 then min (lasts + 1) (2 ^ 64 - 1) else lasts

-- it gave one count of its cell up, and whether this was the last is counted
pub record GaveUp {B : Type 0} (old new : Ring B) : Type 0 where
  pub found : ℕ
  pub part : new.pass.me.0 ≡ after_drop old.cell.address found old.pass.me.0
  pub ring : new.ring ≡ old.ring
  pub cell : new.cell ≡ old.cell
  pub lasts : new.lasts ≡ lasts_after found old.lasts
