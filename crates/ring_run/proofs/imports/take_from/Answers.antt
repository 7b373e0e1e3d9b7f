use Rattle.std.proofs.Common.{◌≡◌, ◌∙◌, ◌+◌, ◌*◌, ◌≤◌, ℕ, arith, ap, subst}
use Rattle.ring_port.specs.PortState.{PortState}
use Rattle.ring_run.specs.declared.ring.Ring.{Ring}
use Rattle.ring_run.proofs.Importing.{only_then}
use Rattle.ring_run.proofs.imports.take_from.Goals as goal
use Rattle.ring_run.proofs.Slots.{slots_then, slots_as, some_then, some_slots}
use Rattle.ring_run.proofs.Rounds.{classes_below, class_more, class_front, classes_front, classes_all}
use Rattle.ring_run.specs.Ended.{places_of, slots_of}
use Rattle.ring_run.specs.Renewal.{PolledSome}
use Rattle.std.proofs.Math.Nat.{mul-le-mul_left}

pub returns-in-Err-clause-keeps : goal.returns-in-Err-clause-keeps
returns-in-Err-clause-keeps g c = λ start n p. c.take_class.ensures.keeps start n (c.loop-class.invariant.keeps start n p)

pub returns-in-Err-clause-few : goal.returns-in-Err-clause-few
returns-in-Err-clause-few g c =
    let s = g.P.Port.state c.args.port.now in
    let m = g.P.Port.state c.loop-class.port in
    let i = c.loop-class.invariant in
    let depth : m.depth ≡ s.depth = ap (λ (x : PortState). x.depth) i.only.state in
    let most : s.depth * (c.loop-class.class + 1) ≤ s.depth * 4 = mul-le-mul_left s.depth (omega (arith, c.loop-class-test.true)) in
    let more : s.depth * (c.loop-class.class + 1) ≡ s.depth * c.loop-class.class + s.depth = omega arith in
    omega (arith, c.take_class.ensures.few, i.polled, depth, most, more)

pub loop-class-preserved : goal.loop-class-preserved
loop-class-preserved g c =
    let s = g.P.Port.state c.args.port.now in
    let m = g.P.Port.state c.loop-class.port in
    let i = c.loop-class.invariant in
    let taken = c.in-Ok.ensures in
    let from = c.args.from in
    let class = c.loop-class.class in
    let depth : m.depth ≡ s.depth = ap (λ (x : PortState). x.depth) i.only.state in
    let more : s.depth * (class + 1) ≡ s.depth * class + s.depth = omega arith in
    record {
      keeps = λ start n p. taken.keeps start n (i.keeps start n p);
      search = taken.search;
      polled = omega (arith, taken.polled, i.polled, depth, more);
      took = slots_then s m (g.P.Port.state c.take_class.new.port) c.args.ring.now c.loop-class.ring c.take_class.new.ring (classes_below s.depth from class) (places_of s.depth from class) (classes_below s.depth from (class + 1)) i.took
          (slots_as m (g.P.Port.state c.take_class.new.port) c.loop-class.ring c.take_class.new.ring (places_of m.depth from class) (places_of s.depth from class) (ap (λ (d : ℕ). places_of d from class) depth) taken.took)
          (ap (λ (x : PortState). x.caught_up) i.only.state) (class_more s.depth from class);
      only = only_then s m (g.P.Port.state c.take_class.new.port) i.only taken.only;
      same = taken.same ∙ ap (λ (r : Ring). record r { watches = c.take_class.new.ring.watches; imports = c.take_class.new.ring.imports }) i.same;
      port = taken.port;
    }

pub returns-in-Err-clause-some : goal.returns-in-Err-clause-some
returns-in-Err-clause-some g c =
    let s = g.P.Port.state c.args.port.now in
    let m = g.P.Port.state c.loop-class.port in
    let u = g.P.Port.state c.take_class.new.port in
    let from = c.args.from in
    let class = c.loop-class.class in
    let i = c.loop-class.invariant in
    let depth : m.depth ≡ s.depth = ap (λ (x : PortState). x.depth) i.only.state in
    some_then s m u c.args.ring.now c.loop-class.ring (classes_below s.depth from class) (places_of s.depth from class) (slots_of s.depth from) i.took
    (ap (λ (x : PortState). x.caught_up) i.only.state) (subst (λ (d : ℕ). PolledSome m u (places_of d from class)) depth c.take_class.ensures.some)
    (class_front s.depth from class (omega (arith, c.loop-class-test.true)))

pub returns-clause-took : goal.returns-clause-took
returns-clause-took g c =
    let s = g.P.Port.state c.args.port.now in
    slots_as s (g.P.Port.state c.loop-class.port) c.args.ring.now c.loop-class.ring (classes_below s.depth c.args.from c.loop-class.class) (slots_of s.depth c.args.from)
    (classes_all s.depth c.args.from c.loop-class.class (omega (arith, c.loop-class-test.false, c.loop-class.auto.class-end))) c.loop-class.invariant.took

pub returns-clause-some : goal.returns-clause-some
returns-clause-some g c =
    let s = g.P.Port.state c.args.port.now in
    some_slots s (g.P.Port.state c.loop-class.port) c.args.ring.now c.loop-class.ring (classes_below s.depth c.args.from c.loop-class.class) (slots_of s.depth c.args.from) c.loop-class.invariant.took
    (classes_front s.depth c.args.from c.loop-class.class (omega (arith, c.loop-class.auto.class-end)))
