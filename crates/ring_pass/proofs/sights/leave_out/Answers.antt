use Rattle.std.proofs.Common.{◌≡◌, ◌<◌, ◌≤◌, List, length, get_or, subst, sym}
use Rattle.sat_words.specs.Literal.{Literal}
use Rattle.ring_pass.specs.Sights.{LeftOut}
use Rattle.ring_pass.proofs.UnitsHere.{left_one}
use Rattle.ring_pass.proofs.sights.leave_out.Goals as goal

pub returns-in-Some-clause-left : goal.returns-in-Some-clause-left
returns-in-Some-clause-left c =
    let t = subst (λ (ls : List Literal). (c.args.passed ≤ c.in-Some.place) × (c.in-Some.place < length ls) × (c.args.lit ≡ get_or ls c.in-Some.place c.args.lit)) c.as_slice.ensures.value c.in-Some.ensures in
    subst (λ (ls : List Literal). LeftOut c.args.passed c.args.lit c.args.arrived.now.items ls) (sym c.remove.ensures.items) (left_one c.args.passed c.in-Some.place c.args.arrived.now.items c.args.lit t.0 t.1 t.2 c.requires.distinct)
