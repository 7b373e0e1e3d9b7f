use Rattle.share_core.proofs.Holding.{slot_open}
use Rattle.share_core.proofs.cell_laws.slots_have_open_cells.Goals as goal

pub returns : goal.returns
returns c = λ d k s lt nz. slot_open d k s lt nz
