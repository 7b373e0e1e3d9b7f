use Rattle.std.proofs.Common.{◌≡◌, ◌+◌, ◌≤◌, ◌++◌, List, filter, length, vec_capacity, false}
use Rattle.std.specs.Vec.Iter.{into_iter_items, into_iter_len}
use Rattle.share_rule.specs.declared.rests.Rest.{Rest}
use Rattle.portfolio_run.specs.Resumed.{is_dropped, kept_of, TookLines}
use Rattle.portfolio_run.proofs.rests.drop_rests.Given as goal

abbrev pub invariant-loop-rest : goal.invariant-loop-rest
invariant-loop-rest g l = record {
  done : List Rest;
  all : l.fn.rests.items ≡ done ++ into_iter_items l.rest-iterator;
  kept : l.kept.items ≡ kept_of done;
  took : TookLines (g.L.LineOut.told l.fn.output) (filter is_dropped done) (g.L.LineOut.told l.output);
  unspent : (g.L.LineOut.told l.output).spent ≡ false;
  room : length l.kept.items + length (into_iter_items l.rest-iterator) ≤ vec_capacity l.kept;
  count : into_iter_len l.rest-iterator ≡ length (into_iter_items l.rest-iterator);
}
