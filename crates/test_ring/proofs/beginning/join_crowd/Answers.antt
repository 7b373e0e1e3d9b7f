use Rattle.std.proofs.Common.{sym, ap, ◌∙◌}
use Rattle.ring_port.specs.PortState.{PortState}
use Rattle.test_ring.proofs.beginning.join_crowd.Goals as goal

pub returns-clause-job : goal.returns-clause-job
returns-clause-job g c =
    let job = c.requires.job in
    let over = c.in_ok-port.ensures.port in
    record {
      small = job.small;
      ring = sym (ap (λ (s : PortState). s.ring) over);
      rings = sym (ap (λ (s : PortState). s.rings) over);
      vars = job.vars ∙ sym (ap (λ (s : PortState). s.vars) over);
      start = c.from_vec.ensures ∙ c.in_ok-port.ensures.start;
    }

pub returns-clause-untouched : goal.returns-clause-untouched
returns-clause-untouched g c =
    let over = c.in_ok-port.ensures.port in
    record {
      held = c.in_ok-port.ensures.holds;
      seen = ap (λ (s : PortState). s.seen) over;
      mine = ap (λ (s : PortState). s.mine) over;
      taken = ap (λ (s : PortState). s.taken) over;
      stop = ap (λ (s : PortState). s.stop) over;
      refused = ap (λ (s : PortState). s.refused) over;
      shared = ap (λ (s : PortState). s.shared) over;
      polled = ap (λ (s : PortState). s.polled) over;
      ticket = ap (λ (s : PortState). s.ticket) over;
      found = ap (λ (s : PortState). s.found) over;
    }
