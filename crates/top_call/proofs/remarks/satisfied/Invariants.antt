use Rattle.std.proofs.Common.{◌≡◌, ◌≤◌, take}
use Rattle.top_call.specs.Answer.{satisfied}
use Rattle.top_call.proofs.remarks.satisfied.Given as goal

abbrev pub invariant-loop-clause : goal.invariant-loop-clause
invariant-loop-clause l = record {
  all : l.clause-items ≡ l.formula.clauses;
  counted : l.count ≡ satisfied l.model (take l.clause-index l.formula.clauses);
  small : l.count ≤ l.clause-index;
}
