-- What holds of a queue's tables.
use Rattle.std.specs.Prelude.{◌≡◌, ℕ, ◌≤◌, ◌+◌, ◌-◌, ◌^◌, length}
use Rattle.std.specs.List.{slice_index}
use Rattle.ring_decide.specs.declared.queue.Queue.TheInside.{Inside}
use Rattle.ring_decide.specs.Tables.{AreUpTo}

-- each table has an entry for each variable, and one before them
abbrev pub vars_of : Inside → ℕ
vars_of q = length q.stamps.items - 1

-- the tables of a queue agree, which every call keeps
pub record IsQueue (q : Inside) : Type 0 where
  pub small : vars_of q ≤ 2 ^ 30
  pub stamps_len : length q.stamps.items ≡ vars_of q + 1
  pub before_len : length q.before.items ≡ vars_of q + 1
  pub after_len : length q.after.items ≡ vars_of q + 1
  pub before : AreUpTo (vars_of q) q.before.items
  pub after : AreUpTo (vars_of q) q.after.items
  pub stamps : AreUpTo q.clock q.stamps.items
  pub last : q.last ≤ vars_of q
  pub latest : slice_index q.stamps.items q.last ≡ q.clock
  pub search : q.search ≤ vars_of q
