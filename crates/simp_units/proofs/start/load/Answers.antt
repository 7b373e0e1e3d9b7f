use Rattle.std.proofs.Common.{◌≡◌, ◌∙◌, ◌<◌, length, ap, sym, subst}
use Rattle.std.proofs.lemmas.List.{length-set}
use Rattle.sat_words.specs.Values.{is_true}
use Rattle.simp_units.proofs.Starting.{loaded_pair, opposed_pair, pair_in_range}
use Rattle.simp_units.proofs.start.load.Goals as goal

pub returns-then-is_false : goal.returns-then-is_false
returns-then-is_false c =
    opposed_pair c.args.units.now c.loop-unit.values c.loop-unit.unit-index c.unit-item.result c.loop-unit-test.true c.unit-item.is c.loop-unit.invariant.0 (sym c.is_false.ensures ∙ c.if-is_false.true)

pub set-requires : goal.set-requires
set-requires c =
    subst (λ n. c.unit-item.result.0.var < n) (sym c.loop-unit.invariant.1)
    (pair_in_range c.args.units.now c.loop-unit.unit-index (length c.args.values.now) c.unit-item.result c.loop-unit-test.true c.unit-item.is c.requires.on)

pub loop-unit-preserved : goal.loop-unit-preserved
loop-unit-preserved c =
    let range : c.unit-item.result.0.var < length c.loop-unit.values =
    subst (λ n. c.unit-item.result.0.var < n) (sym c.loop-unit.invariant.1)
    (pair_in_range c.args.units.now c.loop-unit.unit-index (length c.args.values.now) c.unit-item.result c.loop-unit-test.true c.unit-item.is c.requires.on) in (
      (λ k. loaded_pair c.args.units.now c.loop-unit.values c.loop-unit.unit-index c.unit-item.result c.loop-unit-test.true c.unit-item.is c.loop-unit.invariant.0 (sym c.is_false.ensures ∙ c.if-is_false.false) range k
          ∙ ap (λ vs. is_true vs k) (sym c.set.ensures)),
      ap length c.set.ensures ∙ length-set _ _ _ ∙ c.loop-unit.invariant.1,
    )
