use Rattle.std.proofs.Common.{sym, subst}
use Rattle.ring_port.specs.PortState.{PortState, clause_at}
use Rattle.ring_trail.specs.Reasoned.{IsReasoned}
use Rattle.vivify.specs.Ending.{CanTrace}
use Rattle.vivify.proofs.ending.trace_shorter.Goals as goal

pub trace_ending-requires-clause-reasoned : goal.trace_ending-requires-clause-reasoned
trace_ending-requires-clause-reasoned g c = subst (λ (x : PortState). IsReasoned (clause_at x) x.seen c.args.trail.now.steps) (sym c.shape.ensures.same) c.requires.reasoned

pub trace_ending-requires-clause-can : goal.trace_ending-requires-clause-can
trace_ending-requires-clause-can g c = subst (λ (x : PortState). CanTrace x c.args.trail.now c.args.kept.now c.args.c c.args.ending) (sym c.shape.ensures.same) c.requires.can
