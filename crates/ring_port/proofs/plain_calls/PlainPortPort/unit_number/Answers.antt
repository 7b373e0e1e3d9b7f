use Rattle.std.proofs.Common.{ℕ, List, subst}
use Rattle.std.specs.Prelude.{MatchOption, Contains}
use Rattle.sat_words.specs.Literal.{Literal}
use Rattle.ring_port.specs.PortState.{PortState, IsPort}
use Rattle.ring_port.proofs.PlainLemmas.{state_is, plain_port}
use Rattle.ring_port.proofs.plain_calls.PlainPortPort.unit_number.Goals as goal

pub returns-clause-told : goal.returns-clause-told
returns-clause-told g c =
    subst (λ (s : PortState). MatchOption c.number_of.result ((n : ℕ) → Contains s.told (c.args.lit, n) → ⊥) (λ n. Contains s.told (c.args.lit, n))) (state_is c.self.view_is)
    (subst (λ (us : List (Literal × ℕ)). MatchOption c.number_of.result ((n : ℕ) → Contains us (c.args.lit, n) → ⊥) (λ n. Contains us (c.args.lit, n))) c.deref.ensures.value c.number_of.ensures)

pub returns-clause-port : goal.returns-clause-port
returns-clause-port g c = subst IsPort (state_is c.self.view_is) (plain_port _ c.self.invariant)
