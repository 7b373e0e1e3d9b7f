use Rattle.sat_words.proofs.ByCode.{value_at}
use Rattle.sat_words.proofs.values.Values.value.Goals as goal

pub returns : goal.returns
returns c = rw (c.value_from.ensures, c.truth_at.ensures, c.as_slice.ensures.value, ← c.self.view_is) (value_at c.self.inside.by_code.items c.args.var c.self.invariant)
