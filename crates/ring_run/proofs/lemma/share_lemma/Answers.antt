use Rattle.std.proofs.Common.{◌∙◌, ◌+◌, ap}
use Rattle.restart_plan.specs.Plan.{Restarting}
use Rattle.ring_run.specs.declared.ring.Ring.{Ring}
use Rattle.ring_run.proofs.lemma.share_lemma.Goals as goal

pub returns-clause-shared : goal.returns-clause-shared
returns-clause-shared g c =
    let old = c.args.ring.now in
    let new = c.offer_lemma.new.ring in
    let after : Restarting → Ring = λ r. record old { learned = old.learned + 1; restarts = r; exported = new.exported; offered = new.offered } in
    record {
      shared = record { middle = g.P.Port.state c.learn.new.self; learned = c.in_ok-address.ensures.learned; lent = c.offer_lemma.ensures.lent };
      kept = c.learn.ensures.kept;
      log = c.learn.ensures.log;
      port = c.learn.ensures.port;
      log_after = c.offer_lemma.ensures.log;
      port_after = c.offer_lemma.ensures.port;
      ring = c.offer_lemma.ensures.same ∙ ap after c.note.ensures;
    }
