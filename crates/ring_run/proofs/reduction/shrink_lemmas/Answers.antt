use Rattle.std.proofs.Common.{◌∙◌, List, ap, sym, subst, inl, inr, refl, arith, length, Ok}
use Rattle.ring_run.specs.Halting.{HaltsReducing}
use Rattle.ring_run.specs.declared.ring.Ring.{Ring}
use Rattle.sat_words.specs.Literal.{Literal}
use Rattle.ring_run.proofs.Listing.{listed_same}
use Rattle.ring_run.proofs.Offering.{nothing_then}
use Rattle.ring_run.proofs.Reducing.{wrote_import}
use Rattle.ring_run.proofs.Resting.{resting_import}
use Rattle.ring_run.proofs.Shrinking.{refused_halts, halts_then}
use Rattle.ring_run.proofs.reduction.shrink_lemmas.Goals as goal
use Rattle.ring_run.proofs.Numbering.{kept_wrote}
use Rattle.ring_run.proofs.InTime.{in_time_wrote}

pub vivify_lemmas-requires-clause-analysis : goal.vivify_lemmas-requires-clause-analysis
vivify_lemmas-requires-clause-analysis g c = c.requires.analysis ∙ sym (ap (λ (r : Ring). r.trail.vars) c.reduce_both.ensures.same)

pub probe_literals-requires-clause-analysis : goal.probe_literals-requires-clause-analysis
probe_literals-requires-clause-analysis g c =
    c.vivify_lemmas.ensures.analysis ∙ c.requires.analysis ∙ sym (c.in-Ok-vivify_lemmas.ensures.vars ∙ ap (λ (r : Ring). r.trail.vars) c.reduce_both.ensures.same)

pub returns-in-Ok-tidy_up-clause-vars : goal.returns-in-Ok-tidy_up-clause-vars
returns-in-Ok-tidy_up-clause-vars g c = c.in-Ok-probe_literals.ensures.vars ∙ c.in-Ok-vivify_lemmas.ensures.vars ∙ ap (λ (r : Ring). r.trail.vars) c.reduce_both.ensures.same

pub returns-in-Err-clause-over : goal.returns-in-Err-clause-over
returns-in-Err-clause-over g c =
    refused_halts (g.P.Port.state c.args.port.now) (g.P.Port.state c.reduce_both.new.port) c.in-Err.stop c.end_refused.result c.end_refused.ensures c.in-Err.ensures.over

pub returns-in-Err-vivify_lemmas-clause-over : goal.returns-in-Err-vivify_lemmas-clause-over
returns-in-Err-vivify_lemmas-clause-over g c =
    halts_then (g.P.Port.state c.args.port.now) (g.P.Port.state c.reduce_both.new.port) (g.P.Port.state c.vivify_lemmas.new.port) c.in-Err-vivify_lemmas.end c.in-Ok.ensures.ok c.in-Err-vivify_lemmas.ensures.over

pub returns-in-Err-vivify_lemmas-clause-nothing : goal.returns-in-Err-vivify_lemmas-clause-nothing
returns-in-Err-vivify_lemmas-clause-nothing g c =
    nothing_then (g.P.Port.state c.args.port.now) (g.P.Port.state c.reduce_both.new.port) (g.P.Port.state c.vivify_lemmas.new.port) c.reduce_both.ensures.nothing c.vivify_lemmas.ensures.nothing

pub returns-in-Err-probe_literals-clause-over : goal.returns-in-Err-probe_literals-clause-over
returns-in-Err-probe_literals-clause-over g c =
    halts_then (g.P.Port.state c.args.port.now) (g.P.Port.state c.vivify_lemmas.new.port) (g.P.Port.state c.probe_literals.new.port) c.in-Err-probe_literals.end
    (λ start n p. c.in-Ok-vivify_lemmas.ensures.keeps start n (c.in-Ok.ensures.ok start n p)) c.in-Err-probe_literals.ensures.over

pub returns-in-Err-probe_literals-clause-nothing : goal.returns-in-Err-probe_literals-clause-nothing
returns-in-Err-probe_literals-clause-nothing g c =
    let s = g.P.Port.state c.args.port.now in
    let m = g.P.Port.state c.reduce_both.new.port in
    let v = g.P.Port.state c.vivify_lemmas.new.port in
    let b = g.P.Port.state c.probe_literals.new.port in
    nothing_then s m b c.reduce_both.ensures.nothing (nothing_then m v b c.vivify_lemmas.ensures.nothing c.probe_literals.ensures.nothing)

pub returns-in-Ok-tidy_up-clause-shrunk : goal.returns-in-Ok-tidy_up-clause-shrunk
returns-in-Ok-tidy_up-clause-shrunk g c = record {
  dropped = g.P.Port.state c.reduce_both.new.port;
  between = c.reduce_both.new.ring;
  reduced = c.in-Ok.ensures.reduced;
  reduced_ring = c.reduce_both.ensures.same;
  ordered = c.in-Ok.ensures.listed.ordered;
  vivified_port = g.P.Port.state c.vivify_lemmas.new.port;
  vivified_ring = c.vivify_lemmas.new.ring;
  vivified = record { took = c.in-Ok-vivify_lemmas.ensures.took; same = c.vivify_lemmas.ensures.same };
  probed_port = g.P.Port.state c.probe_literals.new.port;
  probed = record { round = c.in-Ok-probe_literals.ensures.round; same = c.probe_literals.ensures.same };
  lines = c.in-Ok-tidy_up.ensures.lines;
}

pub returns-in-Ok-tidy_up-clause-keeps : goal.returns-in-Ok-tidy_up-clause-keeps
returns-in-Ok-tidy_up-clause-keeps g c = λ start n p. c.in-Ok-tidy_up.ensures.ok start n (c.in-Ok-probe_literals.ensures.keeps start n (c.in-Ok-vivify_lemmas.ensures.keeps start n (c.in-Ok.ensures.ok start n p)))

pub returns-in-Ok-tidy_up-clause-import : goal.returns-in-Ok-tidy_up-clause-import
returns-in-Ok-tidy_up-clause-import g c =
    let m = g.P.Port.state c.probe_literals.new.port in
    let u = g.P.Port.state c.tidy_up.new.port in
    let ring = c.probe_literals.new.ring in
    wrote_import m u (Ok c.in-Ok-tidy_up.field-0) ring.trail ring.watches ring.written (resting_import m ring c.in-Ok-probe_literals.ensures.resting) c.in-Ok-tidy_up.ensures.wrote c.in-Ok-tidy_up.ensures.seen c.tidy_up.ensures.port

pub returns-in-Ok-tidy_up-clause-listed : goal.returns-in-Ok-tidy_up-clause-listed
returns-in-Ok-tidy_up-clause-listed g c =
    let m = g.P.Port.state c.probe_literals.new.port in
    let u = g.P.Port.state c.tidy_up.new.port in
    let ring = c.probe_literals.new.ring in
    let wrote = c.in-Ok-tidy_up.ensures.wrote in
    listed_same m u ring ring wrote.stays.start wrote.recent refl (λ d there. there) refl refl refl (record { imports = refl; last_start = refl }) (kept_wrote m u ring.lemmas.items wrote) c.in-Ok-probe_literals.ensures.listed

pub returns-in-Ok-tidy_up-clause-steps : goal.returns-in-Ok-tidy_up-clause-steps
returns-in-Ok-tidy_up-clause-steps g c =
    let same = ap (λ (r : Ring). length r.trail.steps) c.reduce_both.ensures.same in
    omega (arith, same, c.in-Ok-vivify_lemmas.ensures.steps, c.in-Ok-probe_literals.ensures.steps)

pub returns-in-Ok-tidy_up-clause-nothing : goal.returns-in-Ok-tidy_up-clause-nothing
returns-in-Ok-tidy_up-clause-nothing g c =
    let s = g.P.Port.state c.args.port.now in
    let m = g.P.Port.state c.reduce_both.new.port in
    let v = g.P.Port.state c.vivify_lemmas.new.port in
    let b = g.P.Port.state c.probe_literals.new.port in
    let u = g.P.Port.state c.tidy_up.new.port in
    nothing_then s m u c.reduce_both.ensures.nothing (nothing_then m v u c.vivify_lemmas.ensures.nothing (nothing_then v b u c.probe_literals.ensures.nothing c.tidy_up.ensures.nothing))

pub returns-in-Err-tidy_up-clause-over : goal.returns-in-Err-tidy_up-clause-over
returns-in-Err-tidy_up-clause-over g c =
    let s = g.P.Port.state c.args.port.now in
    let b = g.P.Port.state c.probe_literals.new.port in
    let u = g.P.Port.state c.tidy_up.new.port in
    halts_then s b u c.end_refused-in-Err-tidy_up.result (λ start n p. c.in-Ok-probe_literals.ensures.keeps start n (c.in-Ok-vivify_lemmas.ensures.keeps start n (c.in-Ok.ensures.ok start n p)))
    (refused_halts b u c.in-Err-tidy_up.stop c.end_refused-in-Err-tidy_up.result c.end_refused-in-Err-tidy_up.ensures c.in-Err-tidy_up.ensures.over)

pub returns-in-Err-tidy_up-clause-nothing : goal.returns-in-Err-tidy_up-clause-nothing
returns-in-Err-tidy_up-clause-nothing g c =
    let s = g.P.Port.state c.args.port.now in
    let m = g.P.Port.state c.reduce_both.new.port in
    let v = g.P.Port.state c.vivify_lemmas.new.port in
    let b = g.P.Port.state c.probe_literals.new.port in
    let u = g.P.Port.state c.tidy_up.new.port in
    nothing_then s m u c.reduce_both.ensures.nothing (nothing_then m v u c.vivify_lemmas.ensures.nothing (nothing_then v b u c.probe_literals.ensures.nothing c.tidy_up.ensures.nothing))

pub returns-in-Ok-tidy_up-clause-in_time : goal.returns-in-Ok-tidy_up-clause-in_time
returns-in-Ok-tidy_up-clause-in_time g c =
    let m = g.P.Port.state c.probe_literals.new.port in
    let u = g.P.Port.state c.tidy_up.new.port in
    let none = ap (λ (cs : List (List Literal)). length cs) c.in-Ok-probe_literals.ensures.resting.lately in
    in_time_wrote m u 0 c.in-Ok-tidy_up.ensures.wrote (omega (arith, none))

pub returns-in-Err-clause-halts : goal.returns-in-Err-clause-halts
returns-in-Err-clause-halts g c =
    inl (subst (HaltsReducing (g.P.Port.state c.args.port.now) (g.P.Port.state c.reduce_both.new.port) c.args.ring.now) (sym c.end_refused.ensures) c.in-Err.ensures.halts)

pub returns-in-Err-vivify_lemmas-clause-halts : goal.returns-in-Err-vivify_lemmas-clause-halts
returns-in-Err-vivify_lemmas-clause-halts g c = inr (g.P.Port.state c.reduce_both.new.port, c.reduce_both.new.ring, c.in-Ok.ensures.reduced, inl c.in-Err-vivify_lemmas.ensures.halts)

pub returns-in-Err-probe_literals-clause-halts : goal.returns-in-Err-probe_literals-clause-halts
returns-in-Err-probe_literals-clause-halts g c = inr (
  g.P.Port.state c.reduce_both.new.port,
  c.reduce_both.new.ring,
  c.in-Ok.ensures.reduced,
  inr (record {
    port = g.P.Port.state c.vivify_lemmas.new.port;
    after = c.vivify_lemmas.new.ring;
    vivified = record { took = c.in-Ok-vivify_lemmas.ensures.took; same = c.vivify_lemmas.ensures.same };
    halts = inl c.in-Err-probe_literals.ensures.halts;
  }),
)

pub returns-in-Err-tidy_up-clause-halts : goal.returns-in-Err-tidy_up-clause-halts
returns-in-Err-tidy_up-clause-halts g c = inr (
  g.P.Port.state c.reduce_both.new.port,
  c.reduce_both.new.ring,
  c.in-Ok.ensures.reduced,
  inr (record {
    port = g.P.Port.state c.vivify_lemmas.new.port;
    after = c.vivify_lemmas.new.ring;
    vivified = record { took = c.in-Ok-vivify_lemmas.ensures.took; same = c.vivify_lemmas.ensures.same };
    halts = inr (record {
      port = g.P.Port.state c.probe_literals.new.port;
      after = c.probe_literals.new.ring;
      probed = record { round = c.in-Ok-probe_literals.ensures.round; same = c.probe_literals.ensures.same };
      stop = c.in-Err-tidy_up.stop;
      deleting = c.in-Err-tidy_up.ensures.some;
      over = c.end_refused-in-Err-tidy_up.ensures;
    });
  }),
)
