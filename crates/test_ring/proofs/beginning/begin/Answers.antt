use Rattle.std.proofs.Common.{◌∙◌, ◌≤◌, ◌^◌, sym, ap, subst, ℕ}
use Rattle.ring_port.specs.PortState.{PortState}
use Rattle.test_ring.proofs.beginning.begin.Goals as goal

pub returns-clause-job : goal.returns-clause-job
returns-clause-job g c =
    let made = c.in_ok-port.ensures.made in
    let vars = c.vars-vars.ensures ∙ sym (ap (λ (s : PortState). s.vars) made) in
    record {
      small = subst (λ (n : ℕ). n ≤ 2 ^ 30) (sym vars) c.in_ok-port.ensures.small;
      ring = sym (ap (λ (s : PortState). s.ring) made);
      rings = sym (ap (λ (s : PortState). s.rings) made);
      vars = vars;
      start = c.from_vec-start.ensures ∙ c.in_ok-start.ensures;
    }

pub returns-clause-untouched : goal.returns-clause-untouched
returns-clause-untouched g c =
    let made = c.in_ok-port.ensures.made in
    record {
      held = c.in_ok-port.ensures.holds;
      seen = ap (λ (s : PortState). s.seen) made;
      mine = ap (λ (s : PortState). s.mine) made;
      taken = ap (λ (s : PortState). s.taken) made;
      stop = ap (λ (s : PortState). s.stop) made;
      refused = ap (λ (s : PortState). s.refused) made;
      shared = ap (λ (s : PortState). s.shared) made;
      polled = ap (λ (s : PortState). s.polled) made;
      ticket = ap (λ (s : PortState). s.ticket) made;
      found = ap (λ (s : PortState). s.found) made;
    }

pub returns-clause-held : goal.returns-clause-held
returns-clause-held g c =
    let made = c.in_ok-port.ensures.made in
    ap (λ (s : PortState). s.held) made ∙ sym (ap (λ (s : PortState). s.start) made)
