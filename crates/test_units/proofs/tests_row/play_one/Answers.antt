use Rattle.std.proofs.Common.{◌∷◌, [], ℕ, sym, subst, refl}
use Rattle.sat_words.specs.Literal.{Literal}
use Rattle.test_tables.specs.Samples.{IsRing}
use Rattle.test_units.specs.Samples.{IsLearner}
use Rattle.test_units.proofs.Playing.{holder_drew, may_learn_unit}
use Rattle.test_units.proofs.tests_row.play_one.Goals as goal

pub learn_unit-requires : goal.learn_unit-requires
learn_unit-requires g c =
    let e = c.if-not-draw_ticket.ensures in
    let p = c.learn_pair.new.ring in
    let q = c.draw_ticket.new.ring in
    let ring = subst (λ (n : ℕ). IsRing c.args.table.now q.pass n) e.same.0 e.ring in
    let held = holder_drew c.args.table.now p.pass q.pass p.ring c.in-Some.field-0.address c.in-Some.ensures.holder ring e.same.1 (e.drew refl) in
    subst (λ (y : ℕ × Literal). IsLearner c.args.table.now q.pass y.0 (y.1 ∷ [])) (λ i. (sym e.same.0 i, sym c.new-two.ensures i)) (may_learn_unit c.args.table.now q.pass p.ring c.in-Some.field-0.address held)
