use Rattle.sat_words.proofs.ByCode.{truth_of_lit}
use Rattle.sat_words.proofs.values.Values.truth.Goals as goal

pub returns : goal.returns
returns c = rw (c.truth_at.ensures, c.code.ensures, c.as_slice.ensures.value, ← c.self.view_is) (truth_of_lit c.self.inside.by_code.items c.args.lit c.self.invariant)
