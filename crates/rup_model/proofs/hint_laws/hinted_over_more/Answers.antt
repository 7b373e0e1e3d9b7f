use Rattle.std.proofs.Common.{map}
use Rattle.sat_words.specs.Literal.{opposite}
use Rattle.sat_words.specs.Clause.{has}
use Rattle.rup_model.proofs.Hinting.{over_more}
use Rattle.rup_model.proofs.hint_laws.hinted_over_more.Goals as goal

pub returns : goal.returns
returns c = λ at more d ns incl. over_more at more incl ns (has (map opposite d))
