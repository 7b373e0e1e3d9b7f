use Rattle.std.proofs.Common.{◌∙◌, ap}
use Rattle.simp_add.specs.Alike.{one_more}
use Rattle.simp_add.proofs.Listing.{alike_none, alike_by}
use Rattle.simp_add.proofs.alike.alike_at.Goals as goal

pub returns-in-Some : goal.returns-in-Some
returns-in-Some g c =
    alike_by c.args.work.now c.clause.ensures.work c.args.rest.now c.args.number c.in-Some.clause.now c.in-Some.ensures.some c.requires.ordered c.lits.ensures.ordered c.one_more.result
    (c.one_more.ensures ∙ ap (one_more c.args.rest.now) c.lits.ensures.value)

pub returns-in-None : goal.returns-in-None
returns-in-None g c = alike_none c.args.work.now c.args.rest.now c.args.number c.in-None.ensures.none
