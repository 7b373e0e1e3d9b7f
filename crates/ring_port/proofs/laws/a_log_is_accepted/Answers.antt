use Rattle.ring_port.proofs.Refuted.{ended_refutes}
use Rattle.ring_port.proofs.laws.a_log_is_accepted.Goals as goal

pub returns-clause-accepted : goal.returns-clause-accepted
returns-clause-accepted c = λ o s h. h.sound.accepted

pub returns-clause-refutes : goal.returns-clause-refutes
returns-clause-refutes c = ended_refutes

pub returns-clause-hinted : goal.returns-clause-hinted
returns-clause-hinted c = λ o s h. h.hints
