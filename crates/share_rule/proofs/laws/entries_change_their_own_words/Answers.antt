use Rattle.share_rule.proofs.Rooms.{words_else}
use Rattle.share_rule.proofs.laws.entries_change_their_own_words.Goals as goal

pub returns : goal.returns
returns c m e n none = words_else m e n none
