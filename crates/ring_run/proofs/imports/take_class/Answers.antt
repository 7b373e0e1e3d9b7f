use Rattle.std.proofs.Common.{◌∙◌, ◌+◌, ◌∷◌, [], arith, ap}
use Rattle.ring_port.specs.PortState.{PortState}
use Rattle.ring_run.specs.declared.ring.Ring.{Ring}
use Rattle.ring_run.proofs.Importing.{only_then}
use Rattle.ring_run.proofs.imports.take_class.Goals as goal
use Rattle.ring_run.proofs.Slots.{slots_then, slots_as, some_then, some_slots}
use Rattle.ring_run.proofs.Rounds.{slot, places_below, place_more, place_front, places_front, places_all}
use Rattle.ring_run.specs.Ended.{places_of}

pub returns-in-Err-clause-keeps : goal.returns-in-Err-clause-keeps
returns-in-Err-clause-keeps g c = λ start n p. c.take_slot.ensures.keeps start n (c.loop-place.invariant.keeps start n p)

pub loop-place-preserved : goal.loop-place-preserved
loop-place-preserved g c =
    let s = g.P.Port.state c.args.port.now in
    let i = c.loop-place.invariant in
    let taken = c.in-Ok.ensures in
    let from = c.args.from in
    let class = c.args.class in
    let place = c.loop-place.place in
    record {
      keeps = λ start n p. taken.keeps start n (i.keeps start n p);
      search = taken.search;
      polled = omega (arith, taken.polled, i.polled);
      took = slots_then s (g.P.Port.state c.loop-place.port) (g.P.Port.state c.take_slot.new.port) c.args.ring.now c.loop-place.ring c.take_slot.new.ring (places_below from class place)
          (slot from class place ∷ []) (places_below from class (place + 1)) i.took taken.took (ap (λ (x : PortState). x.caught_up) i.only.state) (place_more from class place);
      only = only_then s (g.P.Port.state c.loop-place.port) (g.P.Port.state c.take_slot.new.port) i.only taken.only;
      same = taken.same ∙ ap (λ (r : Ring). record r { watches = c.take_slot.new.ring.watches; imports = c.take_slot.new.ring.imports }) i.same;
      port = taken.port;
    }

pub returns-in-Err-clause-some : goal.returns-in-Err-clause-some
returns-in-Err-clause-some g c =
    let s = g.P.Port.state c.args.port.now in
    let from = c.args.from in
    let class = c.args.class in
    let place = c.loop-place.place in
    let i = c.loop-place.invariant in
    some_then s (g.P.Port.state c.loop-place.port) (g.P.Port.state c.take_slot.new.port) c.args.ring.now c.loop-place.ring (places_below from class place) (slot from class place ∷ []) (places_of s.depth from class) i.took
    (ap (λ (x : PortState). x.caught_up) i.only.state) c.take_slot.ensures.some
    (place_front s.depth from class place (omega (arith, c.loop-place-test.true, c.depth-place-end.ensures.value)))

pub returns-clause-took : goal.returns-clause-took
returns-clause-took g c =
    let s = g.P.Port.state c.args.port.now in
    let from = c.args.from in
    let class = c.args.class in
    let place = c.loop-place.place in
    slots_as s (g.P.Port.state c.loop-place.port) c.args.ring.now c.loop-place.ring (places_below from class place) (places_of s.depth from class)
    (places_all s.depth from class place (omega (arith, c.loop-place-test.false, c.loop-place.auto.place-end, c.depth-place-end.ensures.value))) c.loop-place.invariant.took

pub returns-clause-some : goal.returns-clause-some
returns-clause-some g c =
    let s = g.P.Port.state c.args.port.now in
    let from = c.args.from in
    let class = c.args.class in
    let place = c.loop-place.place in
    some_slots s (g.P.Port.state c.loop-place.port) c.args.ring.now c.loop-place.ring (places_below from class place) (places_of s.depth from class) c.loop-place.invariant.took
    (places_front s.depth from class place (omega (arith, c.loop-place.auto.place-end, c.depth-place-end.ensures.value)))
