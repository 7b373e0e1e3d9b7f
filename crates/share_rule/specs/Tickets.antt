-- What drawing a ticket makes of views.
use Rattle.std.specs.Prelude.{◌≡◌, ◌≤◌, ℕ, false, [], ◌∷◌}
use Rattle.share_core.specs.Events.{drew_part}
use Rattle.share_rule.specs.declared.view.Op.TheVariants.{FetchAdd}
use Rattle.share_rule.specs.declared.view.RingPart.{RingPart}
use Rattle.share_rule.specs.declared.view.View.{View}
use Rattle.share_rule.specs.Layout.{ticket_at}
use Rattle.share_rule.specs.Views.{only}
use Rattle.share_rule.specs.Steps.{stepped, changed}

-- the pass has one ring, which has no ticket in hand, and each draw of it so far found one left
pub record MayDraw (v : View) : Type 0 where
  pub one : v.parts ≡ only v ∷ []
  pub none : (only v).core.ticket ≡ false
  pub found : (only v).core.found ≤ v.opening.limit

-- the ring draws after so many were drawn: it has a ticket if they are fewer than the limit
abbrev pub draw_part : ℕ → ℕ → RingPart → RingPart
draw_part limit drawn p = record p { core = drew_part limit drawn p.core }

-- one more is drawn
abbrev pub after_draw : ℕ → View → View
after_draw n v = stepped (ticket_at v.layout) (FetchAdd 1) n (changed (draw_part v.opening.limit n) v)
