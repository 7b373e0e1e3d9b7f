use Rattle.std.proofs.Common.{subst, sym}
use Rattle.ring_port.specs.Port.{KeepsHeld}
use Rattle.test_ring.proofs.ReductionRow.{copy_follows, copy_hints, lits_are, lemma_added, added_lemma}
use Rattle.test_ring.proofs.reducing.add_lemma.Goals as goal

pub derive-requires-clause-rup : goal.derive-requires-clause-rup
derive-requires-clause-rup g c = copy_follows (g.P.Port.state c.args.port.now) _ (lits_are c.new.result c.new-2.result c.new-3.result c.new.ensures c.new-2.ensures c.new-3.ensures) c.requires.row

pub derive-requires-clause-hints : goal.derive-requires-clause-hints
derive-requires-clause-hints g c = copy_hints (g.P.Port.state c.args.port.now) _ c.requires.row

pub returns-clause-lemmas : goal.returns-clause-lemmas
returns-clause-lemmas g c =
    lemma_added (g.P.Port.state c.args.port.now) (g.P.Port.state c.derive.new.self) (g.P.Port.state c.attach.new.port) c.args.watches.now c.attach.new.self c.args.trail.now c.args.lemmas.now.items c.push.new.self.items _ c.args.glue _ c.in-Ok.copy
    c.requires c.in-Ok.ensures.derived c.in-Ok.ensures.kept c.in-Ok.ensures.port c.attach.ensures.same c.in_ok-attach.ensures.attached c.attach.ensures.vars c.attach.ensures.watched c.in_ok-push.ensures.items

pub returns-clause-added : goal.returns-clause-added
returns-clause-added g c =
    added_lemma (g.P.Port.state c.args.port.now) (g.P.Port.state c.derive.new.self) (g.P.Port.state c.attach.new.port) c.args.watches.now c.attach.new.self c.args.lemmas.now.items c.push.new.self.items _ c.args.glue c.in-Ok.copy
    (lits_are c.new.result c.new-2.result c.new-3.result c.new.ensures c.new-2.ensures c.new-3.ensures) c.in-Ok.ensures.derived c.attach.ensures.same c.in_ok-attach.ensures.attached c.in_ok-push.ensures.items

pub returns-clause-kept : goal.returns-clause-kept
returns-clause-kept g c = subst (KeepsHeld (g.P.Port.state c.args.port.now)) (sym c.attach.ensures.same) c.in-Ok.ensures.kept
