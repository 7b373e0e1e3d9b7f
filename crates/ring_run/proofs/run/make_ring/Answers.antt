use Rattle.std.proofs.Common.{◌∙◌, sym, subst, map, List, Contains}
use Rattle.std.specs.Prelude.{All}
use Rattle.sat_words.specs.declared.shared.Cref.{Cref}
use Rattle.ring_port.specs.PortState.{PortState, lits_at}
use Rattle.ring_run.specs.Searching.{IsHeldBy}
use Rattle.ring_run.specs.Strategy.{AreMarked, OccurMarked}
use Rattle.ring_run.proofs.Beginning.{starts_held, decides_begin}
use Rattle.ring_run.proofs.run.make_ring.Goals as goal

pub returns-clause-watched : goal.returns-clause-watched
returns-clause-watched g c = λ t vars fresh. c.in_ok-attach_all.ensures.watched t (c.in_ok-watches.ensures.watched (lits_at (g.P.Port.state c.args.port.now)) t vars fresh)

pub attach_all-requires-clause-held : goal.attach_all-requires-clause-held
attach_all-requires-clause-held g c =
    let s = g.P.Port.state c.args.port.now in
    subst (All (IsHeldBy s)) (sym c.as_slice.ensures) (starts_held s c.args.job.now c.requires.job c.requires.held)

pub active_of-requires-clause-held : goal.active_of-requires-clause-held
active_of-requires-clause-held g c =
    let s = g.P.Port.state c.args.port.now in
    subst (λ (x : PortState). All (IsHeldBy x) c.as_slice-2.result.now) (sym c.attach_all.ensures.same)
    (subst (All (IsHeldBy s)) (sym c.as_slice-2.ensures) (starts_held s c.args.job.now c.requires.job c.requires.held))

pub returns-clause-decider : goal.returns-clause-decider
returns-clause-decider g c =
    let s = g.P.Port.state c.args.port.now in
    let marks = c.in_ok-active.active.items in
    decides_begin s c.args.job.now c.in_ok-decider.decider marks c.requires.job c.requires.held c.requires.port
    (c.in_ok-decider.ensures.active ∙ c.as_slice-3.ensures.value) c.in_ok-active.ensures.len
    (λ d there. subst (λ (x : PortState). AreMarked marks (lits_at x d.address)) c.attach_all.ensures.same
    (c.in_ok-active.ensures.all d (subst (λ (cs : List Cref). Contains cs d) (sym c.as_slice-2.ensures) there)))
    (subst (λ (x : PortState). OccurMarked marks (map (λ (d : Cref). lits_at x d.address) c.args.job.now.start)) c.attach_all.ensures.same
    (subst (λ (cs : List Cref). OccurMarked marks (map (λ (d : Cref). lits_at (g.P.Port.state c.attach_all.new.port) d.address) cs)) c.as_slice-2.ensures c.in_ok-active.ensures.only))
