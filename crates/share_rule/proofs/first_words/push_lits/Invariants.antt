use Rattle.std.proofs.Common.{◌≡◌, ◌++◌}
use Rattle.share_rule.specs.FirstWords.{lit_words}
use Rattle.share_rule.proofs.first_words.push_lits.Given as goal

abbrev pub invariant-loop-place : goal.invariant-loop-place
invariant-loop-place l = l.words.items ≡ l.initial.words.items ++ lit_words l.lits l.place
