-- How turns follow each other.
use Rattle.std.specs.Prelude.{◌≡◌, ◌+◌, ◌*◌, min, not, if◌then◌else◌}
use Rattle.ring_decide.specs.declared.turns.Turns.{Turns}

-- the same turn, with a conflict less to come
pub record IsInTurn (old new : Turns) : Type 0 where
  pub by_scores : new.by_scores ≡ old.by_scores
  pub changes : new.changes ≡ old.changes
  pub stage : new.stage ≡ old.stage
  pub second : new.second ≡ old.second
  pub left : new.left + 1 ≡ old.left

-- the next turn: the other one decides, if they change, and after a second turn the next stage begins
pub record HasTurned (old new : Turns) : Type 0 where
  pub by_scores : new.by_scores ≡ (if old.changes then not old.by_scores else old.by_scores)
  pub changes : new.changes ≡ old.changes
  pub stage : new.stage ≡ (if old.second then min (old.stage + 1) 65535 else old.stage)
  pub second : new.second ≡ not old.second
  pub left : new.left ≡ 1000 * (new.stage * new.stage)
