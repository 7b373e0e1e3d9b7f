use Rattle.std.proofs.Common.{◌≡◌, ◌∙◌, ◌<◌, ◌+◌, ℕ, List, [], ◌∷◌, ap, subst, sym, arith, true, false, not, refl, Ok, Err, Some, None, IsSome, length}
use Rattle.std.specs.Option.{is_some}
use Rattle.std.specs.declared.option.Option.{Option}
use Rattle.sat_words.specs.declared.shared.Cref.{Cref}
use Rattle.std.proofs.lemmas.Bool.{or_left, true≢false}
use Rattle.sat_words.specs.Clause.{has}
use Rattle.rup_model.specs.declared.journal.Kind.TheVariants.{UnitLine}
use Rattle.std.specs.Prelude.{OnOk}
use Rattle.std.specs.declared.result.Result.{Result}
use Rattle.sat_words.specs.Literal.{Literal, same}
use Rattle.ring_port.specs.PortState.{PortState, IsPort, IsOn, clause_at, known}
use Rattle.ring_port.specs.Port.{AreHints, UnitWritten, is_usable}
use Rattle.ring_port.specs.Log.{KeepsLog, StandsOver}
use Rattle.ring_port.specs.declared.stops.PortStop.{PortStop}
use Rattle.ring_trail.specs.TrailData.{TrailData, IsTrail, lit_at, reason_at}
use Rattle.rup_model.specs.Rup.{rup}
use Rattle.ring_run.specs.Searching.{Stands, AreTold, UnitsSeen, KeepsOn, OnlyWrote}
use Rattle.ring_run.proofs.LevelZero.{true_at_zero}
use Rattle.ring_run.proofs.Progress.{unit_goes_on, unit_looks, wrote_none, wrote_unit, unit_over}
use Rattle.ring_run.proofs.Offering.{nothing_none, nothing_unit}
use Rattle.ring_run.proofs.Remembering.{added_seen}
use Rattle.ring_run.proofs.Telling.{told_skipped, told_written}
use Rattle.ring_run.proofs.Standing.{stands_written, place_on}
use Rattle.ring_run.proofs.Told.{units_none, units_by, units_halted}
use Rattle.ring_run.proofs.Hinting.{unit_traces}
use Rattle.analyze.specs.Tracing.{CanTraceLiteral}
use Rattle.ring_run.proofs.units.write_unit.Given.{Over}
use Rattle.ring_run.proofs.units.write_unit.Goals.{After-unit}
use Rattle.ring_run.proofs.units.write_unit.Goals as goal

pub trace_literal-requires-clause-can : goal.trace_literal-requires-clause-can
trace_literal-requires-clause-can g c =
    subst (λ (l : Literal). CanTraceLiteral (clause_at (g.P.Port.state c.args.port.now)) c.args.trail.now.steps (l ∷ []) c.args.place) (sym c.lit_at-lit.ensures)
    (unit_traces (clause_at (g.P.Port.state c.args.port.now)) c.args.trail.now c.args.place c.requires.trail c.requires.level c.requires.place)

pub unit-requires-clause-usable : goal.unit-requires-clause-usable
unit-requires-clause-usable g c = ap (λ (x : PortState). is_usable x.refused) c.trace_literal.ensures.same ∙ ap is_usable c.requires.refused

pub unit-requires-clause-on : goal.unit-requires-clause-on
unit-requires-clause-on g c =
    let s = g.P.Port.state c.args.port.now in
    subst (λ (x : PortState). IsOn x.vars c.lit_at-lit.result) (sym c.trace_literal.ensures.same)
    (subst (IsOn s.vars) (sym c.lit_at-lit.ensures) (place_on s c.args.trail.now c.args.place c.requires.stands c.requires.trail c.requires.place))

pub unit-requires-clause-hints : goal.unit-requires-clause-hints
unit-requires-clause-hints g c =
    subst (λ (ns : List ℕ). AreHints (g.P.Port.state c.trace_literal.new.port) (c.lit_at-lit.result ∷ []) ns) (sym c.hints.ensures)
    (subst (λ (x : PortState). AreHints x (c.lit_at-lit.result ∷ []) c.trace_literal.new.self.hints) (sym c.trace_literal.ensures.same) c.trace_literal.ensures.hints)

-- what the port did: tracing left it as it was
written : (g : Over) (c : After-unit g) → UnitWritten (g.P.Port.state c.args.port.now) (g.P.Port.state c.unit.new.self) c.lit_at-lit.result c.unit.result
written g c = subst (λ (x : PortState). UnitWritten x (g.P.Port.state c.unit.new.self) c.lit_at-lit.result c.unit.result) c.trace_literal.ensures.same c.unit.ensures.written

logged : (g : Over) (c : After-unit g) → KeepsLog (g.P.Port.state c.args.port.now) (g.P.Port.state c.unit.new.self)
logged g c = λ o h. c.unit.ensures.log o (subst (StandsOver o) (sym c.trace_literal.ensures.same) h)

keeps_on : (s u : PortState) (l : Literal) (r : Result (Unit {0}) PortStop) → IsOn s.vars l → UnitsSeen s → has s.seen l ≡ false → UnitWritten s u l r → KeepsLog s u → IsPort u → OnOk r (KeepsOn s u)
keeps_on s u l (Ok done) on units unseen w log port = λ start n p. unit_goes_on start s u n l p on units unseen w log port
keeps_on s u l (Err stop) on units unseen w log port = tt

still_stands : (s u : PortState) (t : TrailData) (place : ℕ) (l : Literal) (r : Result (Unit {0}) PortStop) → Stands s t → IsTrail t → t.level ≡ 0 → place < length t.steps → l ≡ lit_at t.steps place
    → UnitWritten s u l r → OnOk r (Stands u t)
still_stands s u t place l (Ok done) p shape level h is w = stands_written s u t place l p shape level h is w
still_stands s u t place l (Err stop) p shape level h is w = tt

pub unit-requires-clause-rup : goal.unit-requires-clause-rup
unit-requires-clause-rup g c =
    subst (λ (x : PortState). rup (known x) (c.lit_at-lit.result ∷ []) ≡ true) (sym c.trace_literal.ensures.same)
    (subst (λ (l : Literal). rup (known (g.P.Port.state c.args.port.now)) (l ∷ []) ≡ true) (sym c.lit_at-lit.ensures)
    (true_at_zero (g.P.Port.state c.args.port.now) c.args.trail.now.steps c.args.place c.requires.stands.reasoned c.requires.place
    (λ p h. (let within = c.requires.trail.within p (omega (arith, c.requires.place)) in omega (arith, c.requires.level)))))

no_reason : (o : Option Cref) → is_some o ≡ false → o ≡ None
no_reason None e = refl
no_reason (Some c) e = absurd (true≢false e)

-- what has a reason after those that are known is not seen
not_seen : (s : PortState) (t : TrailData) (n : ℕ) (l : Literal) → AreTold s t n → n < length t.steps → IsSome (reason_at t.steps n) → l ≡ lit_at t.steps n → has s.seen l ≡ false
not_seen s t n l told lt some is = ap (has s.seen) is ∙ told.rest n (omega arith) lt some

still_told : (s u : PortState) (t : TrailData) (n : ℕ) (l : Literal) (r : Result (Unit {0}) PortStop) → AreTold s t n → IsTrail t → t.level ≡ 0 → n < length t.steps → l ≡ lit_at t.steps n
    → UnitWritten s u l r → OnOk r (AreTold u t (n + 1))
still_told s u t n l (Ok done) told shape level lt is w = told_written s u t n l told shape level lt is w.sees
still_told s u t n l (Err stop) told shape level lt is w = tt

still_seen : (s u : PortState) (l : Literal) (r : Result (Unit {0}) PortStop) → UnitsSeen s → UnitWritten s u l r → OnOk r (UnitsSeen u)
still_seen s u l (Ok done) p w = record {
  opening = λ k h. w.sees k ∙ or_left (has s.seen k) (same l k) (p.opening k (ap (λ (x : PortState). has x.opening k) (sym w.state) ∙ h));
  added = added_seen s u l UnitLine s.last w p.added;
}
still_seen s u l (Err stop) p w = tt

pub returns-clause-told : goal.returns-clause-told
returns-clause-told g c =
    still_told (g.P.Port.state c.args.port.now) (g.P.Port.state c.unit.new.self) c.args.trail.now c.args.place c.lit_at-lit.result c.unit.result c.requires.told c.requires.trail c.requires.level c.requires.place
    c.lit_at-lit.ensures (written g (goal.at.returns-clause-told g c).After-unit)

pub returns-clause-units : goal.returns-clause-units
returns-clause-units g c = still_seen (g.P.Port.state c.args.port.now) (g.P.Port.state c.unit.new.self) c.lit_at-lit.result c.unit.result c.requires.units (written g (goal.at.returns-clause-units g c).After-unit)

pub returns-clause-looks : goal.returns-clause-looks
returns-clause-looks g c = unit_looks (g.P.Port.state c.args.port.now) (g.P.Port.state c.unit.new.self) c.lit_at-lit.result c.unit.result (written g (goal.at.returns-clause-looks g c).After-unit)

pub returns-then-is_none-clause-told : goal.returns-then-is_none-clause-told
returns-then-is_none-clause-told g c =
    told_skipped (g.P.Port.state c.args.port.now) c.args.trail.now c.args.place c.requires.told c.requires.stands c.requires.trail c.requires.level c.requires.place (sym c.reason_at.ensures ∙ no_reason c.reason_at.result (c.is_none.ensures ∙ ap not c.if-is_none.true))

pub returns-clause-ok : goal.returns-clause-ok
returns-clause-ok g c =
    keeps_on (g.P.Port.state c.args.port.now) (g.P.Port.state c.unit.new.self) c.lit_at-lit.result c.unit.result
    (subst (IsOn (g.P.Port.state c.args.port.now).vars) (sym c.lit_at-lit.ensures) (place_on (g.P.Port.state c.args.port.now) c.args.trail.now c.args.place c.requires.stands c.requires.trail c.requires.place))
    c.requires.units (not_seen (g.P.Port.state c.args.port.now) c.args.trail.now c.args.place c.lit_at-lit.result c.requires.told c.requires.place (subst (λ (o : Option Cref). IsSome o) c.reason_at.ensures (c.if-is_none.ensures {u = tt})) c.lit_at-lit.ensures) (written g (goal.at.returns-clause-ok g c).After-unit) (logged g (goal.at.returns-clause-ok g c).After-unit) c.unit.ensures.port

pub returns-clause-stands : goal.returns-clause-stands
returns-clause-stands g c =
    still_stands (g.P.Port.state c.args.port.now) (g.P.Port.state c.unit.new.self) c.args.trail.now c.args.place c.lit_at-lit.result c.unit.result c.requires.stands c.requires.trail c.requires.level c.requires.place
    c.lit_at-lit.ensures (written g (goal.at.returns-clause-stands g c).After-unit)

only_wrote : (s u : PortState) (l : Literal) (r : Result (Unit {0}) PortStop) → UnitWritten s u l r → KeepsLog s u → OnOk r (OnlyWrote s u)
only_wrote s u l (Ok done) w log = wrote_unit s u l w log
only_wrote s u l (Err stop) w log = tt

pub returns-then-is_none-clause-wrote : goal.returns-then-is_none-clause-wrote
returns-then-is_none-clause-wrote g c = wrote_none (g.P.Port.state c.args.port.now)

pub returns-clause-wrote : goal.returns-clause-wrote
returns-clause-wrote g c = only_wrote (g.P.Port.state c.args.port.now) (g.P.Port.state c.unit.new.self) c.lit_at-lit.result c.unit.result (written g (goal.at.returns-clause-wrote g c).After-unit) (logged g (goal.at.returns-clause-wrote g c).After-unit)

pub returns-clause-over : goal.returns-clause-over
returns-clause-over g c =
    unit_over (g.P.Port.state c.args.port.now) (g.P.Port.state c.unit.new.self) c.lit_at-lit.result c.unit.result (written g (goal.at.returns-clause-over g c).After-unit) (logged g (goal.at.returns-clause-over g c).After-unit) c.unit.ensures.port

pub returns-then-is_none-clause-nothing : goal.returns-then-is_none-clause-nothing
returns-then-is_none-clause-nothing g c = nothing_none (g.P.Port.state c.args.port.now)

pub returns-clause-nothing : goal.returns-clause-nothing
returns-clause-nothing g c = nothing_unit (g.P.Port.state c.args.port.now) (g.P.Port.state c.unit.new.self) c.lit_at-lit.result c.unit.result (written g (goal.at.returns-clause-nothing g c).After-unit)

pub returns-then-is_none-clause-lines : goal.returns-then-is_none-clause-lines
returns-then-is_none-clause-lines g c = units_none (g.P.Port.state c.args.port.now)

pub returns-clause-lines : goal.returns-clause-lines
returns-clause-lines g c = units_by (g.P.Port.state c.args.port.now) (g.P.Port.state c.unit.new.self) c.lit_at-lit.result c.unit.result (written g (goal.at.returns-clause-lines g c).After-unit)

pub returns-clause-halts : goal.returns-clause-halts
returns-clause-halts g c = units_halted (g.P.Port.state c.args.port.now) (g.P.Port.state c.unit.new.self) c.lit_at-lit.result c.args.trail.now.steps c.unit.result c.requires.stands.seen (written g (goal.at.returns-clause-halts g c).After-unit)
