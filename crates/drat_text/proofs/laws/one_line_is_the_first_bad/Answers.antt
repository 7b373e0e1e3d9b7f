use Rattle.drat_text.proofs.BadLines.{never_both, one_bad}
use Rattle.drat_text.proofs.laws.one_line_is_the_first_bad.Goals as goal

pub returns-clause-text : goal.returns-clause-text
returns-clause-text c = never_both

pub returns-clause-one : goal.returns-clause-one
returns-clause-one c = one_bad
