use Rattle.std.proofs.Common.{◌≡◌, ◌∙◌, List, [], ◌++◌, All, Contains, Result, Err, refl, inl, inr, sym, ap, subst}
use Rattle.std.proofs.lemmas.Result.{err_from_is_err_and}
use Rattle.std.proofs.lemmas.List.Elements.{All-contains_itself, All-nil}
use Rattle.sat_words.specs.declared.shared.Cref.{Cref}
use Rattle.rup_model.proofs.Lists.{In, In_append_left}
use Rattle.ring_port.specs.declared.stops.PortStop.{PortStop}
use Rattle.ring_port.specs.declared.stops.PortStop.TheVariants.{Memory}
use Rattle.ring_port.specs.PortState.{PortState}
use Rattle.ring_port.specs.Deleting.{IsNotTaken}
use Rattle.ring_port.proofs.Holdings.{All_In}
use Rattle.ring_port.proofs.LogSteps.{In_All}
use Rattle.ring_trail.specs.declared.step.TrailStep.{TrailStep}
use Rattle.watch_prop.specs.WatchData.{WatchData, attached, without_all}
use Rattle.reduce_db.specs.Lemmas.{AreDistinct}
use Rattle.reduce_db.specs.Choice.{IsChoice}
use Rattle.reduce_db.specs.Dropping.{DroppedAll, DroppedSome, HoldsOthers}
use Rattle.reduce_db.specs.Reduction.{Reduced, WasCutShort}
use Rattle.reduce_db.proofs.Drops.{dropped_none}
use Rattle.reduce_db.proofs.Left.{dropped_distinct, dropped_each, lemmas_left}
use Rattle.reduce_db.proofs.reducing.reduce.Goals as goal

-- none was dropped yet
none_dropped : (old new : PortState) (steps : List TrailStep) (lemmas : List Cref) → new ≡ old → WasCutShort old new steps lemmas Memory
none_dropped old new steps lemmas same = record { memory = refl; dropped = []; among = All-nil (Contains lemmas); front = inl refl; port = subst (λ (x : PortState). DroppedAll old x []) (sym same) (dropped_none old) }

-- the first ones of those that were chosen were
cut_short : (old new : PortState) (steps : List TrailStep) (lemmas kept dropped asked : List Cref) (stop : PortStop) → IsChoice old steps lemmas kept dropped → asked ≡ dropped → DroppedSome old new asked stop → WasCutShort old new steps lemmas stop
cut_short old new steps lemmas kept dropped asked stop choice e k =
    let chosen : k.dropped ++ k.more ≡ dropped = k.parts ∙ e in
    record {
      memory = k.memory;
      dropped = k.dropped;
      among = In_All (Contains lemmas) k.dropped (λ x m.
          All_In (Contains lemmas) dropped x (dropped_each old steps lemmas kept dropped choice (Contains lemmas) (All-contains_itself lemmas))
          (subst (λ (ys : List Cref). In x ys) chosen (In_append_left k.dropped k.more x m)));
      front = inr (record { left = kept; more = k.more; choice = subst (IsChoice old steps lemmas kept) (sym chosen) choice });
      port = k.port;
    }

-- and the answer is that
answered : (old new : PortState) (v w : WatchData) (steps : List TrailStep) (lemmas left : List Cref) (r : Result (Unit {0}) PortStop) (stop stop' : PortStop) → r ≡ Err stop → stop ≡ stop' → WasCutShort old new steps lemmas stop' → Reduced old new v w steps lemmas left r
answered old new v w steps lemmas left r stop stop' is same k = subst (Reduced old new v w steps lemmas left) (sym is) (subst (WasCutShort old new steps lemmas) (sym same) k)

pub returns-in_default-clause-reduced : goal.returns-in_default-clause-reduced
returns-in_default-clause-reduced g c = none_dropped (g.P.Port.state c.args.port.now) (g.P.Port.state c.choose.new.port) c.args.trail.now.steps c.args.lemmas.now.items c.choose.ensures.same

pub drop_each-requires-clause-distinct : goal.drop_each-requires-clause-distinct
drop_each-requires-clause-distinct g c =
    let s = g.P.Port.state c.args.port.now in
    let choice = subst (λ (xs : List Cref). IsChoice s c.args.trail.now.steps xs c.in-Ok.choice.kept.items c.in-Ok.choice.dropped.items) c.as_slice.ensures.value c.in-Ok.ensures.choice in
    subst AreDistinct (sym c.as_slice-2.ensures.value) (dropped_distinct s c.args.trail.now.steps c.args.lemmas.now.items c.in-Ok.choice.kept.items c.in-Ok.choice.dropped.items choice c.requires.lemmas.distinct)

pub drop_each-requires-clause-apart : goal.drop_each-requires-clause-apart
drop_each-requires-clause-apart g c =
    let s = g.P.Port.state c.args.port.now in
    let choice = subst (λ (xs : List Cref). IsChoice s c.args.trail.now.steps xs c.in-Ok.choice.kept.items c.in-Ok.choice.dropped.items) c.as_slice.ensures.value c.in-Ok.ensures.choice in
    subst (λ (q : PortState). All (λ (x : Cref). IsNotTaken q x.address) c.as_slice-2.result.now) (sym c.choose.ensures.same)
    (subst (All (λ (x : Cref). IsNotTaken s x.address)) (sym c.as_slice-2.ensures.value)
    (dropped_each s c.args.trail.now.steps c.args.lemmas.now.items c.in-Ok.choice.kept.items c.in-Ok.choice.dropped.items choice (λ (x : Cref). IsNotTaken s x.address) c.requires.lemmas.apart))

pub returns-in_err-drop_each-clause-reduced : goal.returns-in_err-drop_each-clause-reduced
returns-in_err-drop_each-clause-reduced g c =
    let s = g.P.Port.state c.args.port.now in
    let new = g.P.Port.state c.drop_each.new.port in
    let steps = c.args.trail.now.steps in
    let lemmas = c.args.lemmas.now.items in
    let choice = subst (λ (xs : List Cref). IsChoice s steps xs c.in-Ok.choice.kept.items c.in-Ok.choice.dropped.items) c.as_slice.ensures.value c.in-Ok.ensures.choice in
    let short = cut_short s new steps lemmas c.in-Ok.choice.kept.items c.in-Ok.choice.dropped.items c.as_slice-2.result.now c.in_err-drop_each.field-0.0 choice c.as_slice-2.ensures.value
    (subst (λ (q : PortState). DroppedSome q new c.as_slice-2.result.now c.in_err-drop_each.field-0.0) c.choose.ensures.same c.in_err-drop_each.ensures.stopped) in
    let p = err_from_is_err_and c.from_residual.result c.from_residual.ensures.1 in
    answered s new c.args.watches.now c.drop_each.new.watches steps lemmas lemmas c.from_residual.result p.0 c.in_err-drop_each.field-0.0 p.1 p.2 short

pub returns-clause-lemmas : goal.returns-clause-lemmas
returns-clause-lemmas g c =
    let s = g.P.Port.state c.args.port.now in
    let new = g.P.Port.state c.drop_each.new.port in
    let choice = subst (λ (xs : List Cref). IsChoice s c.args.trail.now.steps xs c.in-Ok.choice.kept.items c.in-Ok.choice.dropped.items) c.as_slice.ensures.value c.in-Ok.ensures.choice in
    lemmas_left s c.args.trail.now.steps c.args.lemmas.now.items c.in-Ok.choice.kept.items c.in-Ok.choice.dropped.items choice new (attached c.args.watches.now) (attached c.drop_each.new.watches) c.requires.lemmas
    (subst (DroppedAll s new) c.as_slice-2.ensures.value (subst (λ (q : PortState). DroppedAll q new c.as_slice-2.result.now) c.choose.ensures.same c.in_ok-drop_each.ensures.dropped))
    (c.in_ok-drop_each.ensures.attached ∙ ap (without_all (attached c.args.watches.now)) c.as_slice-2.ensures.value)

-- what is dropped is among the lemmas
others_kept : (old new : PortState) (lemmas dropped : List Cref) → All (Contains lemmas) dropped → DroppedAll old new dropped → HoldsOthers old new lemmas
others_kept old new lemmas dropped among gone a apart = gone.others a (λ c there. apart c (All_In (Contains lemmas) dropped c among (Rattle.rup_model.proofs.Lists.Contains_In dropped c there)))

pub returns-in_err-drop_each-clause-others : goal.returns-in_err-drop_each-clause-others
returns-in_err-drop_each-clause-others g c =
    let s = g.P.Port.state c.args.port.now in
    let new = g.P.Port.state c.drop_each.new.port in
    let steps = c.args.trail.now.steps in
    let lemmas = c.args.lemmas.now.items in
    let choice = subst (λ (xs : List Cref). IsChoice s steps xs c.in-Ok.choice.kept.items c.in-Ok.choice.dropped.items) c.as_slice.ensures.value c.in-Ok.ensures.choice in
    let short = cut_short s new steps lemmas c.in-Ok.choice.kept.items c.in-Ok.choice.dropped.items c.as_slice-2.result.now c.in_err-drop_each.field-0.0 choice c.as_slice-2.ensures.value
    (subst (λ (q : PortState). DroppedSome q new c.as_slice-2.result.now c.in_err-drop_each.field-0.0) c.choose.ensures.same c.in_err-drop_each.ensures.stopped) in
    others_kept s new lemmas short.dropped short.among short.port

pub returns-clause-others : goal.returns-clause-others
returns-clause-others g c =
    let s = g.P.Port.state c.args.port.now in
    let new = g.P.Port.state c.drop_each.new.port in
    let choice = subst (λ (xs : List Cref). IsChoice s c.args.trail.now.steps xs c.in-Ok.choice.kept.items c.in-Ok.choice.dropped.items) c.as_slice.ensures.value c.in-Ok.ensures.choice in
    let lemmas = c.args.lemmas.now.items in
    others_kept s new lemmas c.in-Ok.choice.dropped.items (dropped_each s c.args.trail.now.steps lemmas c.in-Ok.choice.kept.items c.in-Ok.choice.dropped.items choice (Contains lemmas) (All-contains_itself lemmas))
    (subst (DroppedAll s new) c.as_slice-2.ensures.value (subst (λ (q : PortState). DroppedAll q new c.as_slice-2.result.now) c.choose.ensures.same c.in_ok-drop_each.ensures.dropped))
