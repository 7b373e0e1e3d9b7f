-- What holds of a walker's parts.
use Rattle.std.specs.Prelude.{◌≡◌, ◌≤◌, ◌^◌, length}
use Rattle.std.specs.List.{All}
use Rattle.sat_words.specs.Literal.{IsOn}
use Rattle.sat_words.specs.Clause.{InOrder}
use Rattle.sat_words.specs.Truth.{lit_true}
use Rattle.ring_walk.specs.declared.walker.Walker.TheInside.{Inside}
use Rattle.ring_walk.specs.Truths.{counts_of}
use Rattle.ring_walk.specs.Occurrences.{AreOccurrences}

-- the tally is of the clauses and the assignment as it is now, and the occurrences are those of the clauses
pub record IsWalker (w : Inside) : Type 0 where
  pub small : w.tally.vars ≤ 2 ^ 30
  pub vars : length w.kept.values ≡ w.tally.vars
  pub on : All (All (IsOn w.tally.vars)) w.clauses.now
  pub ordered : All InOrder w.clauses.now
  pub counts : w.tally.counts ≡ counts_of (lit_true w.kept.values) w.clauses.now
  pub occurrences : AreOccurrences w.tally.vars w.clauses.now w.occurrences.starts.items w.occurrences.named.items
