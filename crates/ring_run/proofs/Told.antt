-- Lines of units, one after another, and nothing else.
use Rattle.std.proofs.Common.{◌≡◌, ◌∙◌, ℕ, ◌||◌, Bool, true, false, length, arith, List, [], ◌∷◌, ◌++◌, sym, subst, ap, refl, Ok, Err, append-nil, append_assoc}
use Rattle.std.specs.Prelude.{All, OnOk, IfErr}
use Rattle.std.specs.declared.result.Result.{Result}
use Rattle.std.proofs.lemmas.List.Elements.{All-append, All-cons, All-nil}
use Rattle.sat_words.specs.Literal.{Literal}
use Rattle.sat_words.specs.Clause.{has}
use Rattle.rup_model.specs.declared.journal.Entry.{Entry}
use Rattle.rup_model.specs.declared.journal.Kind.TheVariants.{UnitLine}
use Rattle.rup_model.specs.Opening.{adds_unit}
use Rattle.ring_port.specs.PortState.{PortState}
use Rattle.ring_port.specs.Port.{WroteUnit, UnitWritten, entry_of}
use Rattle.ring_port.specs.declared.stops.PortStop.{PortStop}
use Rattle.ring_trail.specs.declared.step.TrailStep.{TrailStep}
use Rattle.ring_run.specs.Searching.{IsLineOfUnit, ToldUnits, SeenTrue}
use Rattle.ring_run.proofs.Remembering.{adds_append, adds_one}
use Rattle.ring_run.specs.Ending.{HaltsTelling, end_refused}
use Rattle.ring_run.specs.declared.job.End.{End}

pub or_none : (b : Bool) → (b || false) ≡ b
or_none true = refl
or_none false = refl

pub or_assoc : (a b c : Bool) → ((a || b) || c) ≡ (a || (b || c))
or_assoc true b c = refl
or_assoc false b c = refl

some_line : (x : Entry) (xs : List Entry) → x ∷ xs ≡ [] → ⊥
some_line x xs e = (let none = ap (λ (ys : List Entry). length ys) e in omega (arith, none))

-- lines that make no line are none
no_parts : (xs ys : List Entry) → xs ++ ys ≡ [] → (xs ≡ []) × (ys ≡ [])
no_parts [] ys e = (refl, e)
no_parts (x ∷ xs) ys e = absurd (some_line x (xs ++ ys) e)

pub units_none : (s : PortState) → ToldUnits s s
units_none s = record {
  entries = [];
  units = All-nil (IsLineOfUnit s.ring);
  mine = sym (append-nil s.mine);
  sees = λ k. sym (or_none (has s.seen k));
  looked = omega arith;
  idle = λ none. (refl, refl);
  state = refl;
}

units_one : (s u : PortState) (l : Literal) → WroteUnit s u l UnitLine s.last → ToldUnits s u
units_one s u l w =
    let e : Entry = entry_of s w.number (l ∷ []) UnitLine w.hints in
    let mine : u.mine ≡ s.mine ++ e ∷ [] = ap (λ (x : PortState). x.mine) w.state in
    record {
      entries = e ∷ [];
      units = All-cons (IsLineOfUnit s.ring) e [] (refl, refl, refl) (All-nil (IsLineOfUnit s.ring));
      mine = mine;
      sees = λ k. w.sees k ∙ ap (λ (b : Bool). has s.seen k || b) (sym (adds_one s.ring (record { ring = s.ring; number = w.number; lits = l ∷ []; kind = UnitLine; hints = w.hints }) l k refl refl));
      looked = w.looked;
      idle = λ none. absurd (some_line e [] none);
      state = w.state ∙ ap (λ (J : List Entry). record s { seen = u.seen; told = u.told; kept = u.kept; caught_up = u.caught_up; mine = J; output = u.output }) (sym mine);
    }

pub units_by : (s u : PortState) (l : Literal) (r : Result (Unit {0}) PortStop) → UnitWritten s u l r → OnOk r (ToldUnits s u)
units_by s u l (Ok done) w = units_one s u l w
units_by s u l (Err stop) w = tt

pub units_then : (s m u : PortState) → ToldUnits s m → ToldUnits m u → ToldUnits s u
units_then s m u p q = record {
  entries = p.entries ++ q.entries;
  units = All-append (IsLineOfUnit s.ring) p.entries q.entries p.units (subst (λ (r : ℕ). All (IsLineOfUnit r) q.entries) (ap (λ (x : PortState). x.ring) p.state) q.units);
  mine = q.mine ∙ ap (λ (J : List Entry). J ++ q.entries) p.mine ∙ append_assoc s.mine p.entries q.entries;
  sees = λ k. q.sees k ∙ ap (λ (b : Bool). b || adds_unit m.ring q.entries k) (p.sees k)
      ∙ ap (λ (r : ℕ). (has s.seen k || adds_unit s.ring p.entries k) || adds_unit r q.entries k) (ap (λ (x : PortState). x.ring) p.state)
      ∙ or_assoc (has s.seen k) (adds_unit s.ring p.entries k) (adds_unit s.ring q.entries k)
      ∙ ap (λ (b : Bool). has s.seen k || b) (sym (adds_append s.ring p.entries q.entries k));
  looked = omega (arith, p.looked, q.looked);
  idle = λ none. (let parts = no_parts p.entries q.entries none in
      let first = p.idle parts.0 in
      let then = q.idle parts.1 in
      (then.0 ∙ first.0, then.1 ∙ first.1));
  state = q.state ∙ ap (λ (x : PortState). record x { seen = u.seen; told = u.told; kept = u.kept; caught_up = u.caught_up; mine = u.mine; output = u.output }) p.state;
}

-- the call was refused
pub units_halted : (s u : PortState) (l : Literal) (steps : List TrailStep) (r : Result (Unit {0}) PortStop) → SeenTrue s steps → UnitWritten s u l r → IfErr r (λ stop. HaltsTelling s u steps (end_refused stop))
units_halted s u l steps (Ok done) alone w = tt
units_halted s u l steps (Err stop) alone w = (s, units_none s, alone, (stop, w, refl))

-- and so was one after lines that were written
pub halted_then : (s m u : PortState) (steps : List TrailStep) (end : End) → ToldUnits s m → HaltsTelling m u steps end → HaltsTelling s u steps end
halted_then s m u steps end p q = (q.0, units_then s m q.0 p q.1, q.2, q.3)
