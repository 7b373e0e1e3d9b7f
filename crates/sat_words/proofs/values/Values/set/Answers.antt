use Rattle.std.proofs.Common.{arith, ap, length}
use Rattle.sat_words.specs.Literal.{opposite, code_of}
use Rattle.sat_words.proofs.ByCode.{made_true, code_in_range}
use Rattle.sat_words.proofs.values.Values.set.Goals as goal

pub index_mut-requires : goal.index_mut-requires
index_mut-requires c =
    let n = ap length c.self.view_is in
    omega (arith, code_in_range c.self.inside.by_code.items c.args.lit c.self.invariant, c.code.ensures, c.requires, c.self.inside.by_code.ok)

pub index_mut-requires-2 : goal.index_mut-requires-2
index_mut-requires-2 c =
    let n = ap length c.self.view_is in
    let m = ap code_of c.not.ensures in
    omega (arith, code_in_range c.self.inside.by_code.items (opposite c.args.lit) c.self.invariant, c.code-2.ensures, m, c.requires, c.self.inside.by_code.ok)

pub invariant_of-self : goal.invariant_of-self
invariant_of-self c = rw (c.code.ensures, c.code-2.ensures, c.not.ensures) (made_true c.self.inside.by_code.items c.args.lit c.self.invariant).0

pub returns : goal.returns
returns c = rw (c.code.ensures, c.code-2.ensures, c.not.ensures, ← c.self.view_is) (made_true c.self.inside.by_code.items c.args.lit c.self.invariant).1
