use Rattle.std.proofs.Common.{◌*◌, ◌+◌, ap, arith, length, refl}
use Rattle.sat_words.specs.declared.values.Truth.TheVariants.{Open}
use Rattle.sat_words.proofs.ByCode.{length_paired, written}
use Rattle.sat_words.proofs.values.Values.unset.Goals as goal

pub index_mut-requires : goal.index_mut-requires
index_mut-requires c =
    let n = ap length c.self.view_is in
    omega (arith, length_paired c.self.inside.by_code.items c.self.invariant, c.requires, c.self.inside.by_code.ok)

pub index_mut-requires-2 : goal.index_mut-requires-2
index_mut-requires-2 c =
    let n = ap length c.self.view_is in
    omega (arith, length_paired c.self.inside.by_code.items c.self.invariant, c.requires, c.self.inside.by_code.ok)

pub invariant_of-self : goal.invariant_of-self
invariant_of-self c = (written c.self.inside.by_code.items c.args.var (2 * c.args.var) (2 * c.args.var + 1) Open Open c.self.invariant refl refl refl).0

pub returns : goal.returns
returns c = rw (← c.self.view_is) (written c.self.inside.by_code.items c.args.var (2 * c.args.var) (2 * c.args.var + 1) Open Open c.self.invariant refl refl refl).1
