use Rattle.std.proofs.Common.{◌∙◌}
use Rattle.test_pass.proofs.Row.{others_stay}
use Rattle.test_pass.proofs.rows.offer_both.Goals as goal

pub returns-clause-many : goal.returns-clause-many
returns-clause-many g c =
    let s = g.P.Port.state c.args.port.now in
    let one = others_stay s (g.P.Port.state c.learn_pair.new.port) c.requires.player c.in_ok-pair.ensures.idle.player (c.in_ok-pair.ensures.same.same.ring ∙ c.in_ok-draw_first.ensures.same.same.ring) in
    let ring = c.in_ok-later.ensures.same.same.ring ∙ c.in_ok-draw_again.ensures.same.same.ring ∙ c.in_ok-give_pair_up.ensures.same.same.ring ∙ c.offer_pair-offered.ensures.same.same.ring ∙ c.in_ok-pair.ensures.same.same.ring ∙ c.in_ok-draw_first.ensures.same.same.ring in
    let two = others_stay s (g.P.Port.state c.learn_later.new.port) c.requires.player c.in_ok-later.ensures.done.player ring in
    (c.offer_pair-offered.ensures.many ∙ one, c.offer_later-again.ensures.many ∙ two)
