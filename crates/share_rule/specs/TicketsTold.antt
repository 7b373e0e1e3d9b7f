-- What drawing a ticket tells.
use Rattle.std.specs.Prelude.{◌≤◌, ℕ}
use Rattle.atomic_table.specs.Table.{Me, Step}
use Rattle.share_rule.specs.declared.view.View.{View}
use Rattle.share_rule.specs.Views.{only}
use Rattle.share_rule.specs.Tickets.{after_draw}
use Rattle.share_rule.specs.Told.{Knows}

module _ {S : Type 0} where
  -- the ring drew after as many were drawn as the word says, and had found no more before
  abbrev pub did_draw : Step S → Me S View → ℕ → Me S View → Type 0
  did_draw st m n m' = Knows (after_draw n m.0) m m' × ((only m.0).core.found ≤ n)
