use Rattle.std.proofs.Common.{◌<◌, List, None, arith, sym, subst}
use Rattle.ring_port.specs.PortState.{IsPort, HoldsStart}
use Rattle.test_ports.specs.declared.crowd.Poll.{Poll}
use Rattle.test_ports.specs.Crowd.{IsLast, asked, all_left, crowd_of}
use Rattle.test_ports.proofs.CrowdLemmas.{address_of, none, is_last, crowd_begins, crowd_holds, start_front}
use Rattle.test_ports.proofs.crowd.Crowd.over.Goals as goal

last_start : (g : _) (c : goal.After-new g) → IsLast c.args.inner.state c.in-Some.last.address
last_start g c =
    let v = c.in_ok-start.start in
    let some : 0 < v.len = omega (arith, c.in-Some.ensures.cases) in
    is_last c.args.inner.state c.in-Some.last v.items v.len v.ok.0 c.requires.held c.in_ok-start.ensures some (c.in-Some.ensures.value (address_of none) some)

pub invariant_of-crowd : goal.invariant_of-crowd
invariant_of-crowd g c = (
  subst (λ (ps : List Poll). IsPort (crowd_of c.args.inner.state None None 0 None (asked 0 ps 0 (all_left c.args.limit)))) (sym c.new.ensures.items) (crowd_begins c.args.inner.state c.args.limit (omega arith) c.requires.port),
  last_start g c,
  c.requires.port,
)

pub returns-clause-holds : goal.returns-clause-holds
returns-clause-holds g c =
    subst (λ (ps : List Poll). HoldsStart (crowd_of c.args.inner.state None None 0 None (asked 0 ps 0 (all_left c.args.limit)))) (sym c.new.ensures.items) (crowd_holds c.args.inner.state c.in-Some.last.address c.args.limit (last_start g c) c.requires.held c.requires.holds)

pub returns-clause-start : goal.returns-clause-start
returns-clause-start g c =
    let v = c.in_ok-start.start in
    start_front c.args.inner.state v.items c.pop.new.self.items v.len v.ok.0 c.in_ok-start.ensures c.in-Some.ensures.rest
