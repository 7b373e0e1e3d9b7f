use Rattle.rup_model.proofs.Windowing.{NewBy, SpacedBy, rounds_join}
use Rattle.rup_model.proofs.round_laws.rounds_are_joined.Goals as goal

pub returns-clause-new : goal.returns-clause-new
returns-clause-new c = λ F J x K none old h. rounds_join J x (NewBy F) K none old tt h

pub returns-clause-spaced : goal.returns-clause-spaced
returns-clause-spaced c = λ J x K none old h. rounds_join J x SpacedBy K none old tt h
