use Rattle.sat_words.proofs.Insertion.{has-clause_of, same_set-clause_of, InOrder-clause_of, clause_of_in_order, clause_of_alike}
use Rattle.sat_words.proofs.laws.a_clause_is_a_set.Goals as goal

pub returns : goal.returns
returns c = record {
  members = has-clause_of;
  same = same_set-clause_of;
  ordered = InOrder-clause_of;
  itself = clause_of_in_order;
  one = clause_of_alike;
}
