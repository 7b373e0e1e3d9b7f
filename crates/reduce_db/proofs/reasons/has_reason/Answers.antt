use Rattle.std.proofs.Common.{◌∙◌}
use Rattle.reduce_db.proofs.Marks.{search_tells}
use Rattle.reduce_db.proofs.reasons.has_reason.Goals as goal

pub returns : goal.returns
returns c = c.is_ok.ensures.value ∙ search_tells c.args.reasons.now c.args.address c.binary_search.result c.requires c.binary_search.ensures.position
