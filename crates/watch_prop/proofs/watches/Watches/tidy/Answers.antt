use Rattle.std.proofs.Common.{◌≡◌, ◌∙◌, ◌<◌, sym, ap, subst}
use Rattle.watch_prop.specs.WatchData.{WatchData}
use Rattle.watch_prop.proofs.watches.Watches.tidy.Goals as goal

pub returns-clause-watched : goal.returns-clause-watched
returns-clause-watched c h t k = c.make_ready.ensures.watched h t (c.thin_out.ensures.watched h t k)

pub returns-clause-rooms : goal.returns-clause-rooms
returns-clause-rooms c some few =
    let e : c.thin_out.new.self ≡ c.args.self.now = c.thin_out.ensures.kept few in
    c.make_ready.ensures.rooms (subst (λ (x : WatchData). 0 < x.size) (sym e) some) ∙ ap (λ (x : WatchData). x.rooms) e
