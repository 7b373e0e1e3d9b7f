use Rattle.std.proofs.Common.{◌≡◌, ◌∙◌, ap, arith, inl, inr, length, refl, subst, sym, ℕ}
use Rattle.ring_port.specs.PortState.{PortState}
use Rattle.ring_port.specs.Port.{IsClause, is_usable}
use Rattle.ring_run.specs.Course.{CanAssert}
use Rattle.ring_run.specs.declared.ring.Ring.{Ring}
use Rattle.ring_run.specs.declared.course.Next.TheVariants.{Finish}
use Rattle.ring_run.proofs.Asserting.{can_assert}
use Rattle.ring_run.proofs.Codes.{le_true}
use Rattle.ring_run.proofs.Drawing.{drawn_asserting}
use Rattle.ring_run.proofs.Sharing.{shared_held, shared_refused, shared_vars}
use Rattle.ring_run.proofs.Hinting.{hints_drawn}
use Rattle.ring_run.proofs.lemma.learn_lemma.Goals as goal

pub share_lemma-requires-clause-ticket : goal.share_lemma-requires-clause-ticket
share_lemma-requires-clause-ticket g c =
    let d = c.in-Ticket.ensures.drawn in
    ap (λ (x : PortState). x.ticket) d.0.state ∙ le_true (g.P.Port.state c.draw.new.self).found (g.P.Port.state c.args.port.now).limit d.1

pub share_lemma-requires-clause-usable : goal.share_lemma-requires-clause-usable
share_lemma-requires-clause-usable g c = ap (λ (x : PortState). is_usable x.refused) c.in-Ticket.ensures.drawn.0.state ∙ ap is_usable c.requires.search.clauses.refused

pub share_lemma-requires-clause-clause : goal.share_lemma-requires-clause-clause
share_lemma-requires-clause-clause g c =
    let vars = ap (λ (x : PortState). x.vars) c.in-Ticket.ensures.drawn.0.state in
    subst (λ (v : ℕ). IsClause v c.args.lits.now) (c.requires.search.stands.vars ∙ sym vars) c.requires.lemma.clause

pub share_lemma-requires-clause-rup : goal.share_lemma-requires-clause-rup
share_lemma-requires-clause-rup g c =
    (drawn_asserting (g.P.Port.state c.args.port.now) (g.P.Port.state c.draw.new.self) c.in-Ticket.ensures.drawn.0 c.draw.ensures.log c.draw.ensures.port c.args.ring.now.trail c.args.lits.now c.args.back c.requires.lemma).implied

pub share_lemma-requires-clause-hints : goal.share_lemma-requires-clause-hints
share_lemma-requires-clause-hints g c = hints_drawn (g.P.Port.state c.args.port.now) (g.P.Port.state c.draw.new.self) c.args.lits.now c.args.hints.now c.in-Ticket.ensures.drawn.0 c.requires.hints

pub share_lemma-requires-clause-fresh : goal.share_lemma-requires-clause-fresh
share_lemma-requires-clause-fresh g c =
    (drawn_asserting (g.P.Port.state c.args.port.now) (g.P.Port.state c.draw.new.self) c.in-Ticket.ensures.drawn.0 c.draw.ensures.log c.draw.ensures.port c.args.ring.now.trail c.args.lits.now c.args.back c.requires.lemma).is_new_to.unknown

pub share_lemma-requires-clause-below : goal.share_lemma-requires-clause-below
share_lemma-requires-clause-below g c =
    let d = c.in-Ticket.ensures.drawn in
    let draws = c.requires.draws in
    omega (arith, draws.within, d.0.more, d.1, c.requires.search.clauses.port.few)

pub finish_conflict-requires-clause-refused : goal.finish_conflict-requires-clause-refused
finish_conflict-requires-clause-refused g c =
    shared_refused (g.P.Port.state c.draw.new.self) (g.P.Port.state c.share_lemma.new.port) c.args.ring.now c.share_lemma.new.ring c.args.lits.now c.args.glue c.in-Ok.address c.in-Ok.ensures.shared
    ∙ ap (λ (x : PortState). x.refused) c.in-Ticket.ensures.drawn.0.state ∙ c.requires.search.clauses.refused

pub finish_conflict-requires-clause-held : goal.finish_conflict-requires-clause-held
finish_conflict-requires-clause-held g c =
    shared_held (g.P.Port.state c.draw.new.self) (g.P.Port.state c.share_lemma.new.port) c.args.ring.now c.share_lemma.new.ring c.args.lits.now c.args.glue c.in-Ok.address c.in-Ok.ensures.shared

pub finish_conflict-requires-clause-vars : goal.finish_conflict-requires-clause-vars
finish_conflict-requires-clause-vars g c =
    shared_vars (g.P.Port.state c.draw.new.self) (g.P.Port.state c.share_lemma.new.port) c.args.ring.now c.share_lemma.new.ring c.args.lits.now c.args.glue c.in-Ok.address c.in-Ok.ensures.shared
    ∙ ap (λ (x : PortState). x.vars) c.in-Ticket.ensures.drawn.0.state ∙ sym c.requires.search.stands.vars ∙ c.requires.search.watched.vars ∙ ap (λ (r : Ring). r.watches.vars) (sym c.in-Ok.ensures.shared.ring)

pub finish_conflict-requires-clause-decides : goal.finish_conflict-requires-clause-decides
finish_conflict-requires-clause-decides g c =
    subst (λ (r : Ring). length r.decider.active ≡ r.trail.vars) (sym c.in-Ok.ensures.shared.ring) (c.requires.decides.vars ∙ sym c.requires.search.stands.vars)

pub finish_conflict-requires-clause-can : goal.finish_conflict-requires-clause-can
finish_conflict-requires-clause-can g c =
    subst (λ (r : Ring). CanAssert r.trail c.args.lits.now c.args.back) (sym c.in-Ok.ensures.shared.ring)
    (can_assert (g.P.Port.state c.args.port.now) c.args.ring.now.trail c.args.lits.now c.args.back c.requires.lemma c.requires.search.trail)

pub returns-in-Gone-clause-comes : goal.returns-in-Gone-clause-comes
returns-in-Gone-clause-comes g c = inl (record { gone = c.in-Gone.ensures.drawn; log = c.draw.ensures.log; port = c.draw.ensures.port; ring = refl; over = refl })

pub returns-in-Err-clause-comes : goal.returns-in-Err-clause-comes
returns-in-Err-clause-comes g c = inr (record {
  drawn = g.P.Port.state c.draw.new.self;
  ticket = c.in-Ticket.ensures.drawn;
  log = c.draw.ensures.log;
  port = c.draw.ensures.port;
  comes = inl (record {
    stop = c.in-Err.stop;
    refused = c.in-Err.ensures.refused.0;
    log = c.share_lemma.ensures.log;
    port = c.share_lemma.ensures.port;
    ring = c.in-Err.ensures.refused.1;
    over = ap Finish c.end_refused.ensures;
  });
})

pub returns-clause-comes : goal.returns-clause-comes
returns-clause-comes g c = inr (record {
  drawn = g.P.Port.state c.draw.new.self;
  ticket = c.in-Ticket.ensures.drawn;
  log = c.draw.ensures.log;
  port = c.draw.ensures.port;
  comes = inr (record {
    between = g.P.Port.state c.share_lemma.new.port;
    middle = c.share_lemma.new.ring;
    address = c.in-Ok.address;
    shared = c.in-Ok.ensures.shared;
    finished = c.finish_conflict.ensures.finished;
  });
})
