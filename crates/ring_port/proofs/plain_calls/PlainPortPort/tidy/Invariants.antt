use Rattle.std.proofs.Common.{◌≡◌, length, true}
use Rattle.ring_port.specs.PortState.{IsPort}
use Rattle.ring_port.specs.Port.{is_usable}
use Rattle.ring_port.specs.Log.{KeepsLog}
use Rattle.ring_port.specs.Deleting.{TidiedUpTo}
use Rattle.ring_port.specs.PlainPort.{faults_of}
use Rattle.ring_port.proofs.plain_calls.PlainPortPort.tidy.Given as goal

abbrev pub invariant-loop : goal.invariant-loop
invariant-loop g l = record {
  tidied : TidiedUpTo l.fn.self.state l.self.state l.counter;
  end : l.end ≡ length l.fn.self.state.waiting;
  usable : is_usable l.self.state.refused ≡ true;
  faults : faults_of l.self.state ≡ faults_of l.fn.self.state;
  log : KeepsLog l.fn.self.state l.self.state;
  port : IsPort l.self.state;
  loads : l.self.loads ≡ l.fn.self.loads;
}
