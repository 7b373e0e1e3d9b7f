use Rattle.std.proofs.Common.{None, false, refl, sym, ap}
use Rattle.share_rule.specs.declared.view.RingPart.{RingPart}
use Rattle.share_rule.specs.Steps.{new_part}
use Rattle.share_rule.specs.Views.{only}
use Rattle.ring_pass.specs.RingState.{Own, home_of, holding_of}
use Rattle.ring_pass.proofs.Beginning.{own_begun, starts_held}
use Rattle.ring_pass.proofs.RingPorts.{is_port}
use Rattle.ring_pass.proofs.Stays.{one_is, only_is}
use Rattle.std.proofs.Common.{map}
use Rattle.ring_pass.proofs.pass.RingPass.new.Goals as goal

pub returns-clause-port : goal.returns-clause-port
returns-clause-port g c =
    let o : Own = record { arrived = c.in-Ok-with_capacity.arrived.items; passed = 0; last = None; polled = 0; refused = None; taken = c.new-3.result.items; ended = false; hinted = c.args.hinted; numbers = c.in-Ok-no_numbers.numbers.items; home = home_of c.args.pass } in
    is_port c.args.pass.me.0 c.requires.pass.0.3 (one_is c.args.pass.me.0 (new_part c.args.pass.me.0.opening c.args.ring) c.requires.granted) o (own_begun (only c.args.pass.me.0) o c.in-Ok-with_capacity.ensures.items refl c.new-3.ensures.items refl refl (ap (λ (p : RingPart). p.refused) (only_is c.args.pass.me.0 (new_part c.args.pass.me.0.opening c.args.ring) c.requires.granted)) (ap (λ (p : RingPart). p.core.making) (only_is c.args.pass.me.0 (new_part c.args.pass.me.0.opening c.args.ring) c.requires.granted)) (ap (λ (p : RingPart). p.core.wrote) (only_is c.args.pass.me.0 (new_part c.args.pass.me.0.opening c.args.ring) c.requires.granted)))

pub returns-clause-holds : goal.returns-clause-holds
returns-clause-holds g c =
    let o : Own = record { arrived = c.in-Ok-with_capacity.arrived.items; passed = 0; last = None; polled = 0; refused = None; taken = c.new-3.result.items; ended = false; hinted = c.args.hinted; numbers = c.in-Ok-no_numbers.numbers.items; home = home_of c.args.pass } in
    let part = only_is c.args.pass.me.0 (new_part c.args.pass.me.0.opening c.args.ring) c.requires.granted in
    starts_held c.args.pass.me.0 o (returns-clause-port g c) (ap (λ (p : RingPart). map (holding_of p.glues) p.core.held) (sym part))
