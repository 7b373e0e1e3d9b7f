use Rattle.std.proofs.Common.{◌∙◌, sym}
use Rattle.std.proofs.lemmas.Bool.{false≢true}
use Rattle.drat_text.proofs.Unique.{line_ends}
use Rattle.drat_text.proofs.Reading.{line_end}
use Rattle.drat_text.proofs.read.read_lits.Goals as goal

pub returns-clause-all : goal.returns-clause-all
returns-clause-all c = λ lits more on e.
    c.in-None.ensures.all more
    (line_end c.loop-lit.lits.items lits c.loop-lit.rest.now more c.loop-lit.invariant.on on (λ l m of is. false≢true (c.in_default.ensures.all l m of is))
    (sym c.loop-lit.invariant.read ∙ e ∙ line_ends lits more))
