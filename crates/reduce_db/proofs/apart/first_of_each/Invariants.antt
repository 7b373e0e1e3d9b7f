use Rattle.std.proofs.Common.{◌≡◌, ◌++◌, drop}
use Rattle.reduce_db.specs.Lemmas.{first_of_each}
use Rattle.reduce_db.proofs.apart.first_of_each.Given as goal

abbrev pub invariant-loop-c : goal.invariant-loop-c
invariant-loop-c l = l.apart.items ++ first_of_each l.last l.others (drop l.c-index l.clauses) ≡ first_of_each l.after l.others l.clauses
