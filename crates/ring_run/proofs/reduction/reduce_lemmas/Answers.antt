use Rattle.std.proofs.Common.{◌+◌, ap, inl, inr, refl}
use Rattle.ring_run.specs.Ending.{end_refused}
use Rattle.ring_run.proofs.Offering.{nothing_then}
use Rattle.ring_run.proofs.Progress.{refused_ends}
use Rattle.ring_run.proofs.Reducing.{noted_goes_on, noted_import, noted_lemmas, noted_nothing, cut_short_over, cut_short_nothing, reduced_goes_on, reduced_import, reduced_nothing, reduced_lemmas, reduced_apart, timely_reduce}
use Rattle.ring_run.proofs.Resting.{import_resting}
use Rattle.ring_run.proofs.Shrinking.{reduced_opening, reduced_quiet, reduced_lately, reduced_none, reduced_some}
use Rattle.ring_run.proofs.reduction.reduce_lemmas.Goals as goal

pub returns-in-Err-clause-over : goal.returns-in-Err-clause-over
returns-in-Err-clause-over g c = λ n start p.
    refused_ends start (g.P.Port.state c.args.port.now) (g.P.Port.state c.note_reduce.new.self) n c.in-Err.stop p c.in-Err.ensures.noted c.note_reduce.ensures.log c.note_reduce.ensures.port

pub reduce-requires-clause-watched : goal.reduce-requires-clause-watched
reduce-requires-clause-watched g c =
    (noted_import (g.P.Port.state c.args.port.now) (g.P.Port.state c.note_reduce.new.self) c.in-Ok.ensures.noted c.args.ring.now.trail c.args.ring.now.watches c.args.ring.now.written c.requires.import c.note_reduce.ensures.port).watched

pub reduce-requires-clause-lemmas : goal.reduce-requires-clause-lemmas
reduce-requires-clause-lemmas g c =
    noted_lemmas (g.P.Port.state c.args.port.now) (g.P.Port.state c.note_reduce.new.self) c.in-Ok.ensures.noted c.args.ring.now c.requires.listed c.requires.import.clauses

pub returns-in-Err-reduce-clause-over : goal.returns-in-Err-reduce-clause-over
returns-in-Err-reduce-clause-over g c = λ n start p.
    let s = g.P.Port.state c.args.port.now in
    let m = g.P.Port.state c.note_reduce.new.self in
    cut_short_over s m (g.P.Port.state c.reduce.new.port) c.args.ring.now c.in-Ok.ensures.noted c.requires.listed c.in-Err-reduce.stop c.in-Err-reduce.ensures.reduced c.reduce.ensures.log c.reduce.ensures.port start n
    (noted_goes_on s m c.in-Ok.ensures.noted start n p (timely_reduce s c.args.ring.now c.requires.listed c.requires.due) c.note_reduce.ensures.log c.note_reduce.ensures.port)

pub returns-in-Err-reduce-clause-nothing : goal.returns-in-Err-reduce-clause-nothing
returns-in-Err-reduce-clause-nothing g c =
    let s = g.P.Port.state c.args.port.now in
    let m = g.P.Port.state c.note_reduce.new.self in
    let u = g.P.Port.state c.reduce.new.port in
    nothing_then s m u (noted_nothing s m c.in-Ok.ensures.noted) (cut_short_nothing m u c.args.ring.now c.in-Err-reduce.stop c.in-Err-reduce.ensures.reduced)

pub returns-clause-reduced : goal.returns-clause-reduced
returns-clause-reduced g c = record { noted = g.P.Port.state c.note_reduce.new.self; entry = c.in-Ok.ensures.noted; reduced = c.in-Ok-reduce.ensures.reduced; counted = refl; since = refl }

pub returns-clause-ok : goal.returns-clause-ok
returns-clause-ok g c = λ start n p.
    let s = g.P.Port.state c.args.port.now in
    let m = g.P.Port.state c.note_reduce.new.self in
    reduced_goes_on s m (g.P.Port.state c.reduce.new.port) c.args.ring.now c.in-Ok.ensures.noted c.requires.listed c.args.ring.now.watches c.reduce.new.watches c.args.ring.now.trail.steps c.reduce.new.lemmas.items c.in-Ok-reduce.ensures.reduced start n
    (noted_goes_on s m c.in-Ok.ensures.noted start n p (timely_reduce s c.args.ring.now c.requires.listed c.requires.due) c.note_reduce.ensures.log c.note_reduce.ensures.port)
    c.reduce.ensures.log c.reduce.ensures.port

pub returns-clause-resting : goal.returns-clause-resting
returns-clause-resting g c =
    let s = g.P.Port.state c.args.port.now in
    let m = g.P.Port.state c.note_reduce.new.self in
    let u = g.P.Port.state c.reduce.new.port in
    let ring = c.args.ring.now in
    let noted = c.in-Ok.ensures.noted in
    let done = c.in-Ok-reduce.ensures.reduced in
    let ready = c.in-Ok-reduce.ensures.ready in
    import_resting u (record ring { watches = c.reduce.new.watches; lemmas = c.reduce.new.lemmas; reductions = ring.reductions + 1; reduced_at = ring.learned })
    (reduced_import s m u ring noted c.requires.listed ring.trail ring.watches c.reduce.new.watches ring.written c.reduce.new.lemmas.items done
    (noted_import s m noted ring.trail ring.watches ring.written c.requires.import c.note_reduce.ensures.port) ready c.reduce.ensures.port)
    (reduced_opening s m u noted ring.watches c.reduce.new.watches ring.trail.steps ring.lemmas.items c.reduce.new.lemmas.items done c.requires.opening)
    (reduced_quiet s m u noted ring.watches c.reduce.new.watches ring.trail.steps ring.lemmas.items c.reduce.new.lemmas.items done ring.trail c.requires.quiet ready)
    (reduced_some s m u noted ring.watches c.reduce.new.watches ring.trail.steps ring.lemmas.items c.reduce.new.lemmas.items done)
    (reduced_lately s m u noted ring.watches c.reduce.new.watches ring.trail.steps ring.lemmas.items c.reduce.new.lemmas.items done)
    (reduced_none s m u noted ring.watches c.reduce.new.watches ring.trail.steps ring.lemmas.items c.reduce.new.lemmas.items done)

pub returns-clause-listed : goal.returns-clause-listed
returns-clause-listed g c =
    let s = g.P.Port.state c.args.port.now in
    let m = g.P.Port.state c.note_reduce.new.self in
    let ring = c.args.ring.now in
    reduced_lemmas s m (g.P.Port.state c.reduce.new.port) ring c.in-Ok.ensures.noted c.requires.listed ring.watches c.reduce.new.watches ring.trail.steps c.reduce.new.lemmas.items c.in-Ok-reduce.ensures.reduced
    (record ring { watches = c.reduce.new.watches; lemmas = c.reduce.new.lemmas; reductions = ring.reductions + 1; reduced_at = ring.learned }) c.requires.due c.in-Ok-reduce.ensures.lemmas refl refl refl refl refl
    (record { imports = refl; last_start = refl }) c.requires.apart.unmixed refl

pub returns-clause-apart : goal.returns-clause-apart
returns-clause-apart g c =
    let s = g.P.Port.state c.args.port.now in
    let m = g.P.Port.state c.note_reduce.new.self in
    let ring = c.args.ring.now in
    reduced_apart s m (g.P.Port.state c.reduce.new.port) ring c.in-Ok.ensures.noted c.requires.listed ring.watches c.reduce.new.watches ring.trail.steps c.reduce.new.lemmas.items c.in-Ok-reduce.ensures.reduced
    (record ring { watches = c.reduce.new.watches; lemmas = c.reduce.new.lemmas; reductions = ring.reductions + 1; reduced_at = ring.learned }) refl (record { imports = refl; last_start = refl }) c.requires.apart

pub returns-clause-nothing : goal.returns-clause-nothing
returns-clause-nothing g c =
    let s = g.P.Port.state c.args.port.now in
    let m = g.P.Port.state c.note_reduce.new.self in
    let u = g.P.Port.state c.reduce.new.port in
    let ring = c.args.ring.now in
    nothing_then s m u (noted_nothing s m c.in-Ok.ensures.noted) (reduced_nothing m u ring ring.watches c.reduce.new.watches ring.trail.steps c.reduce.new.lemmas.items c.in-Ok-reduce.ensures.reduced)

pub returns-in-Err-clause-halts : goal.returns-in-Err-clause-halts
returns-in-Err-clause-halts g c = inl (c.in-Err.stop, c.in-Err.ensures.noted, refl)

pub returns-in-Err-reduce-clause-halts : goal.returns-in-Err-reduce-clause-halts
returns-in-Err-reduce-clause-halts g c =
    let cut = c.in-Err-reduce.ensures.reduced in
    inr (g.P.Port.state c.note_reduce.new.self, c.in-Ok.ensures.noted, record { dropped = cut.dropped; among = cut.among; front = cut.front; port = cut.port; memory = ap end_refused cut.memory })
