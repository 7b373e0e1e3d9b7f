use Rattle.std.proofs.Common.{inl, inr, refl}
use Rattle.ring_run.specs.Ending.{end_refused}
use Rattle.ring_run.proofs.Offering.{nothing_then}
use Rattle.ring_run.proofs.Progress.{out_of_memory}
use Rattle.ring_run.proofs.ReducedImports.{told_listed, told_apart, told_by, both_reduced, both_halt, both_same}
use Rattle.ring_run.proofs.reduction.reduce_both.Goals as goal

pub returns-in_default-clause-over : goal.returns-in_default-clause-over
returns-in_default-clause-over g c = λ n start p. out_of_memory start (g.P.Port.state c.args.port.now) n p

pub reduce_lemmas-requires-clause-listed : goal.reduce_lemmas-requires-clause-listed
reduce_lemmas-requires-clause-listed g c =
    let ring = c.args.ring.now in
    told_listed (g.P.Port.state c.args.port.now) ring c.in-Ok.apart c.requires.listed (told_by ring c.as_slice.result.now c.as_slice-2.result.now c.in-Ok.apart.items c.as_slice.ensures.value c.as_slice-2.ensures.value c.in-Ok.ensures)

pub reduce_lemmas-requires-clause-apart : goal.reduce_lemmas-requires-clause-apart
reduce_lemmas-requires-clause-apart g c =
    let ring = c.args.ring.now in
    told_apart (g.P.Port.state c.args.port.now) ring c.in-Ok.apart c.requires.listed (told_by ring c.as_slice.result.now c.as_slice-2.result.now c.in-Ok.apart.items c.as_slice.ensures.value c.as_slice-2.ensures.value c.in-Ok.ensures)

pub returns-clause-reduced : goal.returns-clause-reduced
returns-clause-reduced g c =
    let ring = c.args.ring.now in
    both_reduced (g.P.Port.state c.args.port.now) (g.P.Port.state c.reduce_lemmas.new.port) (g.P.Port.state c.reduce_imports.new.port) ring c.reduce_lemmas.new.ring c.reduce_imports.new.ring c.in-Ok.apart
    c.reduce_lemmas.ensures.same c.reduce_imports.ensures.same c.requires.listed
    (told_by ring c.as_slice.result.now c.as_slice-2.result.now c.in-Ok.apart.items c.as_slice.ensures.value c.as_slice-2.ensures.value c.in-Ok.ensures)
    c.in-Ok-reduce_lemmas.ensures.reduced c.in-Ok-reduce_imports.ensures.reduced

pub returns-clause-same : goal.returns-clause-same
returns-clause-same g c =
    both_same (g.P.Port.state c.args.port.now) (g.P.Port.state c.reduce_lemmas.new.port) (g.P.Port.state c.reduce_imports.new.port) c.args.ring.now c.reduce_lemmas.new.ring c.reduce_imports.new.ring c.in-Ok.apart
    c.reduce_lemmas.ensures.same c.reduce_imports.ensures.same

pub returns-clause-ok : goal.returns-clause-ok
returns-clause-ok g c = λ start n p. c.in-Ok-reduce_imports.ensures.ok start n (c.in-Ok-reduce_lemmas.ensures.ok start n p)

pub returns-in-Err-reduce_imports-clause-over : goal.returns-in-Err-reduce_imports-clause-over
returns-in-Err-reduce_imports-clause-over g c = λ n start p. c.in-Err-reduce_imports.ensures.over n start (c.in-Ok-reduce_lemmas.ensures.ok start n p)

pub returns-in-Err-reduce_imports-clause-nothing : goal.returns-in-Err-reduce_imports-clause-nothing
returns-in-Err-reduce_imports-clause-nothing g c =
    nothing_then (g.P.Port.state c.args.port.now) (g.P.Port.state c.reduce_lemmas.new.port) (g.P.Port.state c.reduce_imports.new.port) c.reduce_lemmas.ensures.nothing c.reduce_imports.ensures.nothing

pub returns-clause-nothing : goal.returns-clause-nothing
returns-clause-nothing g c =
    nothing_then (g.P.Port.state c.args.port.now) (g.P.Port.state c.reduce_lemmas.new.port) (g.P.Port.state c.reduce_imports.new.port) c.reduce_lemmas.ensures.nothing c.reduce_imports.ensures.nothing

pub returns-in_default-clause-halts : goal.returns-in_default-clause-halts
returns-in_default-clause-halts g c = inl (refl, refl)

pub returns-in-Err-clause-halts : goal.returns-in-Err-clause-halts
returns-in-Err-clause-halts g c = inr (inl c.in-Err.ensures.halts)

pub returns-in-Err-reduce_imports-clause-halts : goal.returns-in-Err-reduce_imports-clause-halts
returns-in-Err-reduce_imports-clause-halts g c =
    let ring = c.args.ring.now in
    inr (inr (both_halt (g.P.Port.state c.args.port.now) (g.P.Port.state c.reduce_lemmas.new.port) (g.P.Port.state c.reduce_imports.new.port) ring c.reduce_lemmas.new.ring c.in-Ok.apart
    c.reduce_lemmas.ensures.same c.requires.listed
    (told_by ring c.as_slice.result.now c.as_slice-2.result.now c.in-Ok.apart.items c.as_slice.ensures.value c.as_slice-2.ensures.value c.in-Ok.ensures)
    c.in-Ok-reduce_lemmas.ensures.reduced (end_refused c.in-Err-reduce_imports.stop) c.in-Err-reduce_imports.ensures.halts))
