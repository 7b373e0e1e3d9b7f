-- When a ring restarts: after numbers of conflicts by Luby's sequence, or if the glue of late was greater than on the whole.
use Rattle.std.specs.Prelude.{ℕ, ◌≡◌, ◌↔◌, ◌^◌, ◌+◌, ◌*◌, ◌-◌, ◌<◌, ◌≤◌, ◌==◌, Bool, true, ◌&&◌, nat_le, nat_lt, if◌then◌else◌, List, [], ◌∷◌, ◌++◌, length, drop}
use Rattle.std.specs.List.{sum}
use Rattle.restart_plan.specs.Luby.{luby, luby_sum}

-- how many of the last glues are compared with all
abbrev pub window_size : ℕ
window_size = 50

-- how many lemmas one step of Luby's sequence is
abbrev pub luby_unit : ℕ
luby_unit = 64

-- whether the ring's number is odd; the restarts made; how many lemmas came since the last one; the glues of the last of
-- these, at most 50; the sum of all glues, and how many lemmas came
pub record Restarting : Type 0 where
  pub odd : Bool
  pub made : ℕ
  pub since : ℕ
  pub window : List ℕ
  pub sum : ℕ
  pub count : ℕ

-- nothing has come
abbrev pub begun : Bool → Restarting
begun odd = record { odd = odd; made = 0; since = 0; window = []; sum = 0; count = 0 }

-- the last 50 of the numbers
abbrev pub last_of : List ℕ → List ℕ
last_of xs = drop (length xs - window_size) xs

-- a lemma of this glue came
abbrev pub noted : Restarting → ℕ → Restarting
noted r glue = record r { since = r.since + 1; window = last_of (r.window ++ glue ∷ []); sum = r.sum + glue; count = r.count + 1 }

-- by Luby's sequence: enough lemmas came since the last restart
abbrev pub is_due_odd : Restarting → Bool
is_due_odd r = nat_le (luby_unit * luby (r.made + 1)) r.since

-- by the glues: 50 came since the last restart, and the mean of the last 50 is greater than 10/8 of the mean of all
abbrev pub is_due_even : Restarting → Bool
is_due_even r = (length r.window == window_size) && nat_lt (10 * window_size * r.sum) (8 * sum r.window * r.count)

-- a restart is due
abbrev pub is_due : Restarting → Bool
is_due r = if r.odd then is_due_odd r else is_due_even r

-- the restart is made
abbrev pub restarted : Restarting → Restarting
restarted r = record r { made = r.made + 1; since = 0; window = [] }

-- the restart is made if it is due
abbrev pub asked : Restarting → Restarting
asked r = if is_due r then restarted r else r

-- each restart came after 50 lemmas or more, which is far less than a number can count
pub record IsRestarting (r : Restarting) : Type 0 where
  pub few : 50 * r.made + r.since ≤ r.count
  pub window : length r.window ≤ window_size
  pub recent : length r.window ≤ r.since
  pub low : r.sum ≤ 2 ^ 32 * r.count
  pub fits : r.count < 2 ^ 64

-- by Luby's sequence, if each lemma was followed by the question: each restart came after just as many lemmas as the
-- sequence says, and the next is not due yet
pub record IsExact (r : Restarting) : Type 0 where
  pub odd : r.odd ≡ true
  pub all : luby_unit * luby_sum r.made + r.since ≡ r.count
  pub open_yet : r.since < luby_unit * luby (r.made + 1)

-- this many restarts are the most that this many lemmas allow by Luby's sequence
abbrev pub AreMost : (made count : ℕ) → Type 0
AreMost made count = (k : ℕ) → (luby_unit * luby_sum k ≤ count) ↔ (k ≤ made)
