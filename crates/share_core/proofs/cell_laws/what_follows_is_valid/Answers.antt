use Rattle.share_core.specs.Learning.{known}
use Rattle.share_core.proofs.Knowing.{numbered_in}
use Rattle.share_core.proofs.Frames.{known_named, follows_alive, adds_hinted}
use Rattle.share_core.proofs.cell_laws.what_follows_is_valid.Goals as goal

pub returns-clause-valid : goal.returns-clause-valid
returns-clause-valid c = follows_alive

pub returns-clause-hints : goal.returns-clause-hints
returns-clause-hints c = λ d r lits hints s lt h f. adds_hinted d r lits hints s lt f h

pub returns-clause-named : goal.returns-clause-named
returns-clause-named c = λ d r n lits s lt is. known_named d r s lt n lits (numbered_in (known (d.part r)) n lits is)
