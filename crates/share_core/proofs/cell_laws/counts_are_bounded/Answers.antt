use Rattle.share_core.proofs.Holding.{count_most}
use Rattle.share_core.proofs.cell_laws.counts_are_bounded.Goals as goal

pub returns : goal.returns
returns c = count_most
