use Rattle.share_rule.proofs.Tightness.{tight_more, tight_short}
use Rattle.share_rule.proofs.room_laws.longer_journals_stay_tight.Goals as goal

pub returns-clause-more : goal.returns-clause-more
returns-clause-more c = tight_more

pub returns-clause-short : goal.returns-clause-short
returns-clause-short c = tight_short
