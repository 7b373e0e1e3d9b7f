use Rattle.std.proofs.Common.{◌∙◌, sym}
use Rattle.watch_prop.proofs.Detaching.{FreedAll-refl, FreedAll-one}
use Rattle.watch_prop.proofs.watches.Watches.free_among.Goals as goal

pub returns-then-is_among-clause-freed : goal.returns-then-is_among-clause-freed
returns-then-is_among-clause-freed c =
    FreedAll-one c.args.self.now c.args.self.now c.free.new.self c.args.gone.now c.in-Some.watch.clause.address (sym c.is_among.ensures ∙ c.if-is_among.true)
    (FreedAll-refl c.args.self.now c.args.gone.now) c.free.ensures.freed
