use Rattle.std.proofs.Common.{◌≡◌, vec_capacity, take}
use Rattle.share_rule.specs.Passes.{IsPassOf, IsSamePass}
use Rattle.share_rule.specs.Views.{clause_of}
use Rattle.ring_pass.specs.Looks.{OnlyLooked}
use Rattle.ring_pass.proofs.literals.read_clause.Given as goal

abbrev pub invariant-loop-i : goal.invariant-loop-i
invariant-loop-i g l = record {
  pass : IsPassOf l.table l.pass;
  same : IsSamePass l.initial.pass l.pass;
  looked : OnlyLooked l.initial.pass.me.0 l.pass.me.0;
  lits : l.out.items ≡ take l.i (clause_of l.cell.address l.initial.pass.me.0).lits;
  capacity : vec_capacity l.out ≡ vec_capacity l.initial.out;
}
