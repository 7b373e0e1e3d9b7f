use Rattle.std.proofs.Common.{ℕ, [], inl, refl, subst, sym}
use Rattle.std.specs.declared.option.Option.{Option}
use Rattle.top_call.specs.Input.{WasGiven}
use Rattle.top_call.proofs.Finishes.{no_formula, unread}
use Rattle.top_call.proofs.decide.decide_made.Goals as goal

pub returns-in_default-clause-outcome : goal.returns-in_default-clause-outcome
returns-in_default-clause-outcome g c = λ text source still.
    let flush = c.flush in
    record {
      formula = no_formula;
      journal = [];
      outcome = inl (still, record { unread = unread c.args.plan.now _ _ _ _ _ _ _ _ _ flush.result c.requires.quiet c.requires.empty flush.ensures.bytes flush.ensures.cause flush.ensures.flushed; counts = c.requires.uncounted; out = refl });
    }

pub returns-clause-outcome : goal.returns-clause-outcome
returns-clause-outcome g c = λ text source still.
    c.decide_formula.ensures.outcome text source (subst (λ (m : Option ℕ). WasGiven m text c.in-Ok.formula) (sym c.requires.made) c.in-Ok.ensures.made) still
