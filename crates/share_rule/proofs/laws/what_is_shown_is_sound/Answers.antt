use Rattle.share_core.proofs.Leaving.{left_sound}
use Rattle.share_rule.proofs.laws.what_is_shown_is_sound.Goals as goal

pub returns-clause-table : goal.returns-clause-table
returns-clause-table g c = λ l s h. (h.left, left_sound h.core.opening h.core h.left)

pub returns-clause-pass : goal.returns-clause-pass
returns-clause-pass g c = λ v s. (s.left, left_sound s.core.opening s.core s.left)
