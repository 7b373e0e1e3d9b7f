use Rattle.rup_model.proofs.Windowing.{NewBy, SpacedBy, alone_in_round, in_round_alone}
use Rattle.rup_model.proofs.round_laws.a_round_is_read_alone.Goals as goal

pub returns-clause-new : goal.returns-clause-new
returns-clause-new c = λ F J x K none h. alone_in_round J x (NewBy F) K none h

pub returns-clause-new_back : goal.returns-clause-new_back
returns-clause-new_back c = λ F J x K none h. in_round_alone J x (NewBy F) K none h

pub returns-clause-spaced : goal.returns-clause-spaced
returns-clause-spaced c = λ J x K none h. alone_in_round J x SpacedBy K none h

pub returns-clause-spaced_back : goal.returns-clause-spaced_back
returns-clause-spaced_back c = λ J x K none h. in_round_alone J x SpacedBy K none h
