use Rattle.std.proofs.Common.{subst, sym, inl, inr, refl}
use Rattle.ring_run.specs.Ended.{IsHalted}
use Rattle.ring_run.specs.Ending.{ComesTo, IsRefusal}
use Rattle.ring_run.proofs.Tidying.{refused_halted, refused_refusal}
use Rattle.ring_run.specs.declared.job.End.{End}
use Rattle.ring_run.proofs.Offering.{nothing_empty}
use Rattle.ring_run.proofs.Progress.{empty_refutes, refused_ends}
use Rattle.ring_run.proofs.course.refute.Goals as goal

pub returns-in-Ok-clause-ends : goal.returns-in-Ok-clause-ends
returns-in-Ok-clause-ends g c = λ n start p.
    empty_refutes start (g.P.Port.state c.args.port.now) (g.P.Port.state c.empty.new.self) n p c.in-Ok.ensures.written c.empty.ensures.log c.empty.ensures.port

pub returns-in-Err-clause-ends : goal.returns-in-Err-clause-ends
returns-in-Err-clause-ends g c = λ n start p.
    subst (λ (end : End). ComesTo start (g.P.Port.state c.empty.new.self) n end) (sym c.end_refused.ensures)
    (refused_ends start (g.P.Port.state c.args.port.now) (g.P.Port.state c.empty.new.self) n c.in-Err.stop p c.in-Err.ensures.written c.empty.ensures.log c.empty.ensures.port)

pub returns-in-Ok-clause-nothing : goal.returns-in-Ok-clause-nothing
returns-in-Ok-clause-nothing g c = nothing_empty (g.P.Port.state c.args.port.now) (g.P.Port.state c.empty.new.self) c.empty.result c.empty.ensures.written

pub returns-in-Err-clause-nothing : goal.returns-in-Err-clause-nothing
returns-in-Err-clause-nothing g c = nothing_empty (g.P.Port.state c.args.port.now) (g.P.Port.state c.empty.new.self) c.empty.result c.empty.ensures.written

pub returns-in-Err-clause-halted : goal.returns-in-Err-clause-halted
returns-in-Err-clause-halted g c = subst IsHalted (sym c.end_refused.ensures) (refused_halted c.in-Err.stop)

pub returns-in-Err-clause-refusal : goal.returns-in-Err-clause-refusal
returns-in-Err-clause-refusal g c = subst IsRefusal (sym c.end_refused.ensures) (refused_refusal c.in-Err.stop)

pub returns-in-Ok-clause-empty : goal.returns-in-Ok-clause-empty
returns-in-Ok-clause-empty g c = inl (c.in-Ok.ensures.written, refl)

pub returns-in-Err-clause-empty : goal.returns-in-Err-clause-empty
returns-in-Err-clause-empty g c = inr (c.in-Err.stop, c.in-Err.ensures.written, c.end_refused.ensures)
