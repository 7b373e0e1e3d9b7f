use Rattle.std.proofs.Common.{◌∙◌, sym, ap}
use Rattle.ring_port.specs.PortState.{PortState}
use Rattle.ring_pass.proofs.Beginning.{home_pass}
use Rattle.ring_pass.proofs.RoomHere.{room_here}
use Rattle.ring_pass.proofs.Stays.{own_in}
use Rattle.ring_pass.proofs.pass.RingPass.into_pass.Goals as goal

pub returns-clause-pass : goal.returns-clause-pass
returns-clause-pass g c = (home_pass c.args.table.now c.self.inside.table.now c.args._other.now c.self.inside.pass c.requires.other c.self.invariant.0.pass (ap (λ (s : PortState). s.home) c.self.view_is ∙ c.requires.home), c.self.invariant.0.slots)

pub returns-clause-state : goal.returns-clause-state
returns-clause-state g c = (own_in c.self.invariant.0, c.self.view_is)

pub returns-clause-room : goal.returns-clause-room
returns-clause-room g c = λ s lack is. room_here c.self.inside.pass.me.0 s c.args.self.refused lack c.self.invariant.0.one (ap (λ (x : PortState). x.refused) (sym c.self.view_is) ∙ c.self.invariant.0.own.refused_is) is
