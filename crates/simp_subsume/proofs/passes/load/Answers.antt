use Rattle.std.proofs.Common.{◌∙◌, sym, ap}
use Rattle.simp_base.proofs.Removal.{same_number}
use Rattle.simp_base.specs.Parts.{takes_part}
use Rattle.simp_subsume.proofs.passes.load.Goals as goal

pub returns-in_default-clause-loaded : goal.returns-in_default-clause-loaded
returns-in_default-clause-loaded g c d h = absurd (c.in_default.ensures.none d h)

pub returns-then-not-takes_part-clause-loaded : goal.returns-then-not-takes_part-clause-loaded
returns-then-not-takes_part-clause-loaded g c d h =
    ap takes_part (same_number c.args.work.now.clauses c.in-Some.ensures.work.numbers c.args.number d c.in-Some.found.now h c.in-Some.ensures.some) ∙ sym c.if-not-takes_part.ensures.is
