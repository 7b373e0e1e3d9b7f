use Rattle.std.proofs.Common.{subst, sym, refl}
use Rattle.ring_run.specs.Searching.{AreTold}
use Rattle.ring_run.proofs.Turning.{wrote_search}
use Rattle.ring_run.proofs.Listing.{listed_same}
use Rattle.ring_run.proofs.decision.write_pending.Goals as goal
use Rattle.ring_run.proofs.Numbering.{kept_wrote}

pub returns-in-Ok-clause-search : goal.returns-in-Ok-clause-search
returns-in-Ok-clause-search g c =
    wrote_search (g.P.Port.state c.args.port.now) (g.P.Port.state c.write_units.new.port) c.args.ring.now.trail c.args.ring.now.watches c.args.ring.now.written c.len-ring.result c.requires.search c.in-Ok.ensures.wrote c.write_units.ensures.port c.in-Ok.ensures.stands
    (subst (AreTold (g.P.Port.state c.write_units.new.port) c.args.ring.now.trail) (sym c.len-ring.ensures.len) c.in-Ok.ensures.told)

pub returns-in-Ok-clause-listed : goal.returns-in-Ok-clause-listed
returns-in-Ok-clause-listed g c = λ p.
    let wrote = c.in-Ok.ensures.wrote in
    listed_same (g.P.Port.state c.args.port.now) (g.P.Port.state c.write_units.new.port) c.args.ring.now (record c.args.ring.now { written = c.len-ring.result }) wrote.stays.start wrote.recent refl (λ d there. there) refl refl refl (record { imports = refl; last_start = refl }) (kept_wrote (g.P.Port.state c.args.port.now) (g.P.Port.state c.write_units.new.port) c.args.ring.now.lemmas.items wrote) p
