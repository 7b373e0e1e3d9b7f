use Rattle.std.proofs.Common.{◌∙◌, ◌==◌, sym, ap, position}
use Rattle.share_core.specs.declared.stored.ClauseAt.{ClauseAt}
use Rattle.share_core.proofs.Places.{without_placed, without_missing}
use Rattle.share_core.proofs.ring.remove_at.Goals as goal

pub returns-in-Some : goal.returns-in-Some
returns-in-Some c = c.remove.ensures ∙ without_placed c.args.address c.args.list.now c.in-Some.i (ap (position (λ (h : ClauseAt). h.address == c.args.address)) (sym c.as_slice.ensures) ∙ sym c.place_at.ensures ∙ c.in-Some.is)

pub returns-in_default : goal.returns-in_default
returns-in_default c = sym (without_missing c.args.address c.args.list.now (ap (position (λ (h : ClauseAt). h.address == c.args.address)) (sym c.as_slice.ensures) ∙ sym c.place_at.ensures ∙ c.in_default.is))
