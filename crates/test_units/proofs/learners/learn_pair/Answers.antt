use Rattle.std.proofs.Common.{◌∷◌, [], ℕ, List, sym, subst, refl}
use Rattle.sat_words.specs.Literal.{Literal}
use Rattle.test_tables.specs.Samples.{IsRing}
use Rattle.test_units.specs.Samples.{IsLearner}
use Rattle.test_units.proofs.Playing.{begun_draws, may_learn_pair}
use Rattle.test_units.proofs.learners.learn_pair.Goals as goal

pub draw_ticket-requires-clause-may : goal.draw_ticket-requires-clause-may
draw_ticket-requires-clause-may g c = begun_draws c.args.table.now c.args.ring.now.pass c.args.ring.now.ring c.requires

pub learn-requires-clause-learner : goal.learn-requires-clause-learner
learn-requires-clause-learner g c =
    let e = c.if-not-draw_ticket.ensures in
    let q = c.draw_ticket.new.ring in
    let ring = subst (λ (n : ℕ). IsRing c.args.table.now q.pass n) e.same.0 e.ring in
    let learner = (may_learn_pair c.args.table.now c.args.ring.now.pass q.pass c.args.ring.now.ring c.requires ring e.same.1 (e.drew refl)).0 in
    subst (λ (y : ℕ × List Literal). IsLearner c.args.table.now q.pass y.0 y.1) (λ i. (sym e.same.0 i, sym (λ j. c.as_slice.ensures j) i))
    (subst (λ (ls : List Literal). IsLearner c.args.table.now q.pass c.args.ring.now.ring ls) (sym (λ i. c.new-first.ensures i ∷ c.new-second.ensures i ∷ [])) learner)
