use Rattle.std.proofs.Common.{◌≡◌, List, take}
use Rattle.std.specs.Mem.Slots.{slots_items}
use Rattle.sat_words.specs.Literal.{Literal}
use Rattle.share_rule.specs.Rests.{HasLits}
use Rattle.share_rule.proofs.rests.read_lits.Given as goal

abbrev pub invariant-loop-place : goal.invariant-loop-place
invariant-loop-place g l = (spelled : List Literal) → HasLits (slots_items l.table.words) l.cell l.size spelled → l.lits.items ≡ take l.place spelled
