use Rattle.std.proofs.Common.{◌≡◌, ℕ, ◌+◌, ◌++◌, All}
use Rattle.sat_words.specs.Literal.{IsOn}
use Rattle.random_bits.specs.Bits.{rest_from}
use Rattle.cnf_make.specs.Made.{made_vars, source, hidden, clauses_from}
use Rattle.cnf_make.proofs.planted.make.Given as goal

abbrev pub invariant-loop-i : goal.invariant-loop-i
invariant-loop-i l = record {
  values : l.values.items ≡ hidden l.fn.number;
  vars : l.formula.vars ≡ made_vars;
  on : All (All (IsOn made_vars)) l.formula.clauses;
  clauses : (m : ℕ) → clauses_from (hidden l.fn.number) (rest_from (source l.fn.number) made_vars) (l._i + m) ≡ l.formula.clauses ++ clauses_from (hidden l.fn.number) l.generator m;
}
