use Rattle.rup_model.proofs.Growth.{conflicts_more}
use Rattle.rup_model.proofs.laws.conflicts_under_more.Goals as goal

pub returns : goal.returns
returns c = λ G A B more. conflicts_more G G A B (λ d h. h) more
