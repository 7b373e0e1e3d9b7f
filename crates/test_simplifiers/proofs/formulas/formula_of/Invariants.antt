use Rattle.std.proofs.Common.{◌≡◌, ◌++◌, [], drop}
use Rattle.test_simplifiers.specs.Numbers.{clauses_from}
use Rattle.test_simplifiers.proofs.formulas.formula_of.Given as goal

abbrev pub invariant-loop-number : goal.invariant-loop-number
invariant-loop-number l = record {
  vars : l.formula.vars ≡ l.fn.vars;
  clauses : l.formula.clauses ++ clauses_from l.lits.items (drop l.number-index l.numbers) ≡ clauses_from [] l.numbers;
}
