use Rattle.std.proofs.Common.{[], sym, subst}
use Rattle.rup_model.specs.NumberedLines.{IsHinted, AreHinted}
use Rattle.rup_model.proofs.Sequences.{each_both}
use Rattle.share_core.specs.State.{later}
use Rattle.share_core.proofs.Frames.{later_whole}
use Rattle.share_core.proofs.laws.additions_are_hinted.Goals as goal

pub returns-clause-later : goal.returns-clause-later
returns-clause-later c = λ d s h. (later d.opening d.journal, sym (later_whole d.opening d.journal s.log), s.log.hints h)

pub returns-clause-whole : goal.returns-clause-whole
returns-clause-whole c = λ d s h before. subst (AreHinted d.opening.formula) (later_whole d.opening d.journal s.log)
    (each_both (IsHinted d.opening.formula) [] d.opening.journal (later d.opening d.journal) before (s.log.hints h))
