use Rattle.std.proofs.Common.{◌≡◌, ◌≢◌, ◌∙◌, ◌≤◌, ◌+◌, ◌*◌, ℕ, length, arith, ap, sym, subst}
use Rattle.ring_port.specs.PortState.{PortState}
use Rattle.ring_port.specs.Exchange.{other_rings}
use Rattle.ring_run.specs.declared.ring.Place.{Place}
use Rattle.ring_run.specs.declared.ring.Ring.{Ring}
use Rattle.ring_run.proofs.Importing.{only_then}
use Rattle.ring_run.proofs.Polling.{others_below, below_other, below_own, below_rings, one_more_time}
use Rattle.std.proofs.Math.Nat.{mul-le-mul_left}
use Rattle.ring_run.proofs.imports.take_clauses.Goals as goal
use Rattle.ring_run.proofs.Slots.{slots_then, slots_as, some_then, some_slots}
use Rattle.ring_run.proofs.Rounds.{round_below, round_other, round_own, round_front, ring_front}
use Rattle.ring_run.specs.Ended.{slots_of, import_slots}
use Rattle.ring_run.specs.Renewal.{PolledSome}

pub returns-in-Err-clause-keeps : goal.returns-in-Err-clause-keeps
returns-in-Err-clause-keeps g c = λ start n p. c.take_from.ensures.keeps start n (c.loop-from.invariant.keeps start n p)

pub returns-in-Err-clause-few : goal.returns-in-Err-clause-few
returns-in-Err-clause-few g c =
    let s = g.P.Port.state c.args.port.now in
    let i = c.loop-from.invariant in
    let own : c.loop-from.ring.place.ring ≡ s.ring = ap (λ (r : Ring). r.place.ring) i.same ∙ ap (λ (p : Place). p.ring) c.requires.place in
    let many : c.args.ring.now.place.rings ≡ s.rings = ap (λ (p : Place). p.rings) c.requires.place in
    let others = others_below s.ring (c.loop-from.from + 1) in
    let next = below_other s.ring c.loop-from.from (λ e. c.if-from-ring.false (e ∙ sym own)) in
    let most : length others ≤ length (other_rings s) = below_rings s.ring (c.loop-from.from + 1) s.rings (omega (arith, c.loop-from-test.true, many)) in
    let depth : (g.P.Port.state c.loop-from.port).depth ≡ s.depth = ap (λ (x : PortState). x.depth) i.only.state in
    let more = one_more_time (4 * s.depth) (length (others_below s.ring c.loop-from.from)) (length others) next in
    let all : 4 * s.depth * length others ≤ 4 * s.depth * length (other_rings s) = mul-le-mul_left (4 * s.depth) most in
    omega (arith, c.take_from.ensures.few, i.polled, depth, more, all)

pub loop-from-preserved : goal.loop-from-preserved
loop-from-preserved g c =
    let s = g.P.Port.state c.args.port.now in
    let i = c.loop-from.invariant in
    let taken = c.in-Ok.ensures in
    let own : c.loop-from.ring.place.ring ≡ s.ring = ap (λ (r : Ring). r.place.ring) i.same ∙ ap (λ (p : Place). p.ring) c.requires.place in
    let other : c.loop-from.from ≢ s.ring = λ e. c.if-from-ring.false (e ∙ sym own) in
    let m = g.P.Port.state c.loop-from.port in
    let u = g.P.Port.state c.take_from.new.port in
    let depth : m.depth ≡ s.depth = ap (λ (x : PortState). x.depth) i.only.state in
    let more = one_more_time (4 * s.depth) (length (others_below s.ring c.loop-from.from)) (length (others_below s.ring (c.loop-from.from + 1))) (below_other s.ring c.loop-from.from other) in
    record {
      keeps = λ start n p. taken.keeps start n (i.keeps start n p);
      search = taken.search;
      polled = omega (arith, taken.polled, i.polled, depth, more);
      took = slots_then s m u c.args.ring.now c.loop-from.ring c.take_from.new.ring (round_below s.depth s.ring c.loop-from.from) (slots_of s.depth c.loop-from.from) (round_below s.depth s.ring (c.loop-from.from + 1)) i.took
          (slots_as m u c.loop-from.ring c.take_from.new.ring (slots_of m.depth c.loop-from.from) (slots_of s.depth c.loop-from.from) (ap (λ (d : ℕ). slots_of d c.loop-from.from) depth) taken.took)
          (ap (λ (x : PortState). x.caught_up) i.only.state) (round_other s.depth s.ring c.loop-from.from other);
      only = only_then s (g.P.Port.state c.loop-from.port) (g.P.Port.state c.take_from.new.port) i.only taken.only;
      same = taken.same ∙ ap (λ (r : Ring). record r { watches = c.take_from.new.ring.watches; imports = c.take_from.new.ring.imports }) i.same;
      port = taken.port;
    }

pub loop-from-preserved-then-from-ring : goal.loop-from-preserved-then-from-ring
loop-from-preserved-then-from-ring g c =
    let s = g.P.Port.state c.args.port.now in
    let i = c.loop-from.invariant in
    let own : c.loop-from.ring.place.ring ≡ s.ring = ap (λ (r : Ring). r.place.ring) i.same ∙ ap (λ (p : Place). p.ring) c.requires.place in
    let next = ap (λ (n : ℕ). 4 * s.depth * n) (below_own s.ring c.loop-from.from (c.if-from-ring.true ∙ own)) in
    record { keeps = i.keeps; search = i.search; polled = omega (arith, i.polled, next); took = slots_as s (g.P.Port.state c.loop-from.port) c.args.ring.now c.loop-from.ring (round_below s.depth s.ring c.loop-from.from) (round_below s.depth s.ring (c.loop-from.from + 1)) (sym (round_own s.depth s.ring c.loop-from.from (c.if-from-ring.true ∙ own))) i.took; only = i.only; same = i.same; port = i.port }

pub returns-in-Err-clause-some : goal.returns-in-Err-clause-some
returns-in-Err-clause-some g c =
    let s = g.P.Port.state c.args.port.now in
    let i = c.loop-from.invariant in
    let from = c.loop-from.from in
    let own : c.loop-from.ring.place.ring ≡ s.ring = ap (λ (r : Ring). r.place.ring) i.same ∙ ap (λ (p : Place). p.ring) c.requires.place in
    let many : c.args.ring.now.place.rings ≡ s.rings = ap (λ (p : Place). p.rings) c.requires.place in
    let m = g.P.Port.state c.loop-from.port in
    let u = g.P.Port.state c.take_from.new.port in
    let depth : m.depth ≡ s.depth = ap (λ (x : PortState). x.depth) i.only.state in
    some_then s m u c.args.ring.now c.loop-from.ring (round_below s.depth s.ring from) (slots_of s.depth from) (import_slots s) i.took (ap (λ (x : PortState). x.caught_up) i.only.state)
    (subst (λ (d : ℕ). PolledSome m u (slots_of d from)) depth c.take_from.ensures.some)
    (ring_front s.depth s.ring from s.rings (λ e. c.if-from-ring.false (e ∙ sym own)) (omega (arith, c.loop-from-test.true, many)))

pub returns-clause-took : goal.returns-clause-took
returns-clause-took g c =
    let s = g.P.Port.state c.args.port.now in
    let many : c.args.ring.now.place.rings ≡ s.rings = ap (λ (p : Place). p.rings) c.requires.place in
    let e : c.loop-from.from ≡ s.rings = omega (arith, c.loop-from-test.false, c.loop-from.auto.from-end, many) in
    slots_as s (g.P.Port.state c.loop-from.port) c.args.ring.now c.loop-from.ring (round_below s.depth s.ring c.loop-from.from) (import_slots s) (ap (round_below s.depth s.ring) e) c.loop-from.invariant.took

pub returns-clause-some : goal.returns-clause-some
returns-clause-some g c =
    let s = g.P.Port.state c.args.port.now in
    let many : c.args.ring.now.place.rings ≡ s.rings = ap (λ (p : Place). p.rings) c.requires.place in
    some_slots s (g.P.Port.state c.loop-from.port) c.args.ring.now c.loop-from.ring (round_below s.depth s.ring c.loop-from.from) (import_slots s) c.loop-from.invariant.took
    (round_front s.depth s.ring c.loop-from.from s.rings (omega (arith, c.loop-from.auto.from-end, many)))
