use Rattle.std.proofs.Common.{map}
use Rattle.sat_words.specs.Literal.{opposite}
use Rattle.sat_words.specs.Clause.{has}
use Rattle.rup_model.proofs.Hinting.{over_same}
use Rattle.rup_model.proofs.hint_laws.hinted_over_the_same_sets.Goals as goal

pub returns : goal.returns
returns c = λ at more d ns meets. over_same at more meets ns (has (map opposite d))
