use Rattle.std.proofs.Common.{arith}
use Rattle.sat_words.specs.Literal.{IsOn}
use Rattle.rup_model.proofs.Lists.{has_In}
use Rattle.rup_model.proofs.RoundsLemmas.{forces-parts}
use Rattle.sat_words.specs.Values.{is_true}
use Rattle.simp_base.specs.WorkState.{known}
use Rattle.simp_units.proofs.Forcing.{forced_follows}
use Rattle.simp_base.proofs.Known.{known_alive, unit_among, on_alive}
use Rattle.simp_units.proofs.propagate.look_at.Goals as goal

pub unit-requires-clause-rup : goal.unit-requires-clause-rup
unit-requires-clause-rup g c =
    let w = c.args.work.now in let f = c.in-Forced.ensures in
    forced_follows (known w) w.units c.args.values.now (unit_among w) c.requires.set.same f.clause (known_alive w c.args.number f.clause f.alive) c.in-Forced.lit f.unit.forced

pub unit-requires-clause-on : goal.unit-requires-clause-on
unit-requires-clause-on g c =
    let w = c.args.work.now in let f = c.in-Forced.ensures in
    on_alive w c.requires.set.work c.args.number f.clause f.alive c.in-Forced.lit (has_In f.clause c.in-Forced.lit (forces-parts (is_true c.args.values.now) c.in-Forced.lit f.clause f.unit.forced).0)

pub set-requires : goal.set-requires
set-requires g c =
    let w = c.args.work.now in let f = c.in-Forced.ensures in
    let on : IsOn w.vars c.in-Forced.lit = on_alive w c.requires.set.work c.args.number f.clause f.alive c.in-Forced.lit (has_In f.clause c.in-Forced.lit (forces-parts (is_true c.args.values.now) c.in-Forced.lit f.clause f.unit.forced).0) in
    let h = on.high in let r = c.requires.set.range in omega arith
