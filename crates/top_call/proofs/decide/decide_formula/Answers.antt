use Rattle.std.proofs.Common.{[], inl, refl}
use Rattle.top_call.proofs.Finishes.{no_formula, unread}
use Rattle.top_call.proofs.decide.decide_formula.Goals as goal

pub returns-in_default-clause-outcome : goal.returns-in_default-clause-outcome
returns-in_default-clause-outcome g c = λ text source given still.
    let flush = c.flush in
    record {
      formula = no_formula;
      journal = [];
      outcome = inl (still, record { unread = unread c.args.plan.now _ _ _ _ _ _ _ _ _ flush.result c.requires.quiet c.requires.empty flush.ensures.bytes flush.ensures.cause flush.ensures.flushed; counts = c.requires.uncounted; out = refl });
    }

pub returns-in-Err-clause-outcome : goal.returns-in-Err-clause-outcome
returns-in-Err-clause-outcome g c = λ text source given still.
    let flush = c.flush-in-Err in
    record {
      formula = no_formula;
      journal = [];
      outcome = inl (still, record { unread = unread c.args.plan.now _ _ _ _ _ _ _ _ _ flush.result c.requires.quiet c.requires.empty flush.ensures.bytes flush.ensures.cause flush.ensures.flushed; counts = c.requires.uncounted; out = refl });
    }
