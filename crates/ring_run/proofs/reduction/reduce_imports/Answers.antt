use Rattle.std.proofs.Common.{ap}
use Rattle.ring_run.specs.Ending.{end_refused}
use Rattle.ring_run.proofs.ReducedImports.{may_give_up, given_up_over, given_up_nothing, given_goes_on, given_nothing, given_resting, given_listed, given_unmixed}
use Rattle.ring_run.proofs.reduction.reduce_imports.Goals as goal

pub reduce-requires-clause-lemmas : goal.reduce-requires-clause-lemmas
reduce-requires-clause-lemmas g c =
    let s = g.P.Port.state c.args.port.now in
    may_give_up s s c.args.ring.now c.requires.listed c.requires.resting c.requires.apart

pub returns-in-Err-clause-over : goal.returns-in-Err-clause-over
returns-in-Err-clause-over g c =
    given_up_over (g.P.Port.state c.args.port.now) (g.P.Port.state c.reduce.new.port) c.args.ring.now c.requires.listed c.requires.resting c.requires.apart c.in-Err.stop c.in-Err.ensures.reduced c.reduce.ensures.log c.reduce.ensures.port

pub returns-in-Err-clause-nothing : goal.returns-in-Err-clause-nothing
returns-in-Err-clause-nothing g c =
    given_up_nothing (g.P.Port.state c.args.port.now) (g.P.Port.state c.reduce.new.port) c.args.ring.now c.requires.listed c.requires.resting c.requires.apart c.in-Err.stop c.in-Err.ensures.reduced

pub returns-in-Err-clause-halts : goal.returns-in-Err-clause-halts
returns-in-Err-clause-halts g c =
    let cut = c.in-Err.ensures.reduced in
    record { dropped = cut.dropped; among = cut.among; front = cut.front; port = cut.port; memory = ap end_refused cut.memory }

pub returns-clause-ok : goal.returns-clause-ok
returns-clause-ok g c =
    given_goes_on (g.P.Port.state c.args.port.now) (g.P.Port.state c.reduce.new.port) c.args.ring.now c.requires.listed c.requires.resting c.requires.apart c.reduce.new.watches c.reduce.new.lemmas c.in-Ok.ensures.reduced c.reduce.ensures.log c.reduce.ensures.port

pub returns-clause-nothing : goal.returns-clause-nothing
returns-clause-nothing g c =
    given_nothing (g.P.Port.state c.args.port.now) (g.P.Port.state c.reduce.new.port) c.args.ring.now c.requires.listed c.requires.resting c.requires.apart c.reduce.new.watches c.reduce.new.lemmas c.in-Ok.ensures.reduced

pub returns-clause-resting : goal.returns-clause-resting
returns-clause-resting g c =
    given_resting (g.P.Port.state c.args.port.now) (g.P.Port.state c.reduce.new.port) c.args.ring.now c.requires.listed c.requires.resting c.requires.apart c.reduce.new.watches c.reduce.new.lemmas c.in-Ok.ensures.reduced c.in-Ok.ensures.ready c.reduce.ensures.port

pub returns-clause-listed : goal.returns-clause-listed
returns-clause-listed g c =
    given_listed (g.P.Port.state c.args.port.now) (g.P.Port.state c.reduce.new.port) c.args.ring.now c.requires.listed c.requires.resting c.requires.apart c.reduce.new.watches c.reduce.new.lemmas c.in-Ok.ensures.reduced c.in-Ok.ensures.lemmas

pub returns-clause-unmixed : goal.returns-clause-unmixed
returns-clause-unmixed g c =
    given_unmixed (g.P.Port.state c.args.port.now) (g.P.Port.state c.reduce.new.port) c.args.ring.now c.requires.listed c.requires.resting c.requires.apart c.reduce.new.watches c.reduce.new.lemmas c.in-Ok.ensures.reduced
