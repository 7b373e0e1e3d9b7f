use Rattle.std.proofs.Common.{◌≡◌, ◌∙◌, ℕ, List, [], take, drop, IsSome, Result, Err, refl, sym, ap, subst}
use Rattle.std.specs.Prelude.{IfErr}
use Rattle.std.specs.List.Sorted.{IsNonDecreasingBy}
use Rattle.std.proofs.lemmas.List.{take_all, take-append-drop}
use Rattle.std.proofs.lemmas.Result.{err_from_is_err_and}
use Rattle.ring_port.specs.declared.stops.PortStop.{PortStop}
use Rattle.ring_port.specs.declared.stops.PortStop.TheVariants.{Memory}
use Rattle.sat_words.specs.declared.shared.Cref.{Cref}
use Rattle.ring_port.specs.PortState.{PortState, lits_at}
use Rattle.watch_prop.specs.WatchData.{attached, without_all}
use Rattle.reduce_db.specs.Dropping.{DroppedAll, DroppedSome}
use Rattle.reduce_db.proofs.Drops.{dropped_none, dropped_more, held_yet, without_again, ready_dropped}
use Rattle.reduce_db.proofs.dropping.drop_each.Given.{Over}
use Rattle.reduce_db.proofs.dropping.drop_each.Goals as goal

abbrev no_cref : Cref
no_cref = record { address = 0 }

cut_short : (old s new : PortState) (lemmas : List Cref) (i : ℕ) (r : Result (Unit {0}) PortStop) (stop stop' : PortStop) → r ≡ Err stop → stop ≡ stop' → stop' ≡ Memory → new ≡ s → DroppedAll old s (take i lemmas) → IfErr r (DroppedSome old new lemmas)
cut_short old s new lemmas i r stop stop' e is memory same k =
    subst (λ (x : Result (Unit {0}) PortStop). IfErr x (DroppedSome old new lemmas)) (sym e)
    record { memory = is ∙ memory; dropped = take i lemmas; more = drop i lemmas; parts = take-append-drop i lemmas; port = subst (λ (x : PortState). DroppedAll old x (take i lemmas)) (sym same) k }

pub detach_all-requires : goal.detach_all-requires
detach_all-requires g c = subst (IsNonDecreasingBy (λ (d : Cref). d.address)) (sym c.as_slice.ensures.value) c.in-Ok.ensures.order

pub loop-c-init : goal.loop-c-init
loop-c-init g c = record { dropped = dropped_none (g.P.Port.state c.args.port.now); log = λ o h. h; port = c.vars-vars.ensures.port }

pub drop_clause-requires-clause-held : goal.drop_clause-requires-clause-held
drop_clause-requires-clause-held g c =
    subst IsSome (sym (held_yet (g.P.Port.state c.args.port.now) (g.P.Port.state c.loop-c.port) c.args.lemmas.now c.loop-c.c-index c.requires.distinct c.loop-c-test.true c.loop-c.invariant.dropped))
    (c.requires.held c.loop-c.c-index no_cref c.loop-c-test.true)

pub returns-in_default-clause-stopped : goal.returns-in_default-clause-stopped
returns-in_default-clause-stopped g c = record { memory = refl; dropped = []; more = c.args.lemmas.now; parts = refl; port = dropped_none (g.P.Port.state c.args.port.now) }

pub returns-in_err-drop_clause-clause-stopped : goal.returns-in_err-drop_clause-clause-stopped
returns-in_err-drop_clause-clause-stopped g c =
    let old = g.P.Port.state c.args.port.now in
    let new = g.P.Port.state c.drop_clause.new.self in
    let p = err_from_is_err_and c.from_residual.result c.from_residual.ensures.1 in
    let b = c.in_err-drop_clause.ensures.dropped in
    cut_short old (g.P.Port.state c.loop-c.port) new c.args.lemmas.now c.loop-c.c-index c.from_residual.result p.0 c.in_err-drop_clause.field-0.0 p.1 p.2 b.0 b.1 c.loop-c.invariant.dropped

pub loop-c-preserved : goal.loop-c-preserved
loop-c-preserved g c =
    let s = g.P.Port.state c.loop-c.port in
    let r = g.P.Port.state c.drop_clause.new.self in
    record {
      dropped = dropped_more (g.P.Port.state c.args.port.now) s r c.args.lemmas.now c.loop-c.c-index c.loop-c-test.true c.loop-c.invariant.dropped c.in_ok-drop_clause.ensures.dropped;
      log = λ o h. c.in_ok-drop_clause.ensures.log o (c.loop-c.invariant.log o h);
      port = c.in_ok-drop_clause.ensures.port;
    }

-- nothing but what goes is attached no longer
left_attached : (g : Over) (c : goal.After-drop-gone-2 g) → attached c.compact.new.self ≡ without_all (attached c.args.watches.now) c.args.lemmas.now
left_attached g c =
    c.compact.ensures.attached ∙ c.detach_all.ensures.attached ∙ ap (without_all (attached c.args.watches.now)) c.as_slice.ensures.value
    ∙ without_again (attached c.args.watches.now) c.args.lemmas.now c.in-Ok.gone.items c.in-Ok.ensures.same

pub returns-clause-attached : goal.returns-clause-attached
returns-clause-attached g c = left_attached g c

pub returns-clause-ready : goal.returns-clause-ready
returns-clause-ready g c =
    let s = g.P.Port.state c.args.port.now in
    let r = g.P.Port.state c.loop-c.port in
    let t = c.args.trail.now in
    let all : take c.loop-c.c-index c.args.lemmas.now ≡ c.args.lemmas.now = take_all c.loop-c.c-index c.args.lemmas.now c.loop-c-test.false in
    ready_dropped s r c.args.watches.now c.compact.new.self t c.args.lemmas.now (subst (DroppedAll s r) all c.loop-c.invariant.dropped) c.requires.free
    (c.compact.ensures.vars ∙ c.detach_all.ensures.vars) (left_attached g c)
    (λ h. c.compact.ensures.watched (lits_at s) t (c.detach_all.ensures.watched (lits_at s) t h))
