use Rattle.std.proofs.Common.{◌≡◌, ◌-◌, ◌+◌, ◌∙◌, ℕ, suc, true, false, Bool, List, get_or, None, sym, ap, arith}
use Rattle.std.proofs.lemmas.Bool.{and_left, ne_eqb, and_right}
use Rattle.ring_port.specs.PortState.{lits_at}
use Rattle.ring_trail.specs.TrailData.{reason_at, level_at}
use Rattle.ring_port.specs.PortState.{clause_at}
use Rattle.analyze.specs.Marks.{marked, is_open}
use Rattle.analyze.proofs.Chains.{clause_held}
use Rattle.analyze.proofs.Marking.{IsMarking-none, marked-none}
use Rattle.analyze.proofs.Walking.{Walking, Walking-positive, Walking-small, Walking-in_table, Walking-skip, Walking-last, Walking-forced, Walking-resolve, Walking-start, CanMark-reason, forced_by}
use Rattle.analyze.proofs.LevelLemmas.{CanMark-conflict, some_marked}
use Rattle.analyze.proofs.walk.find_first_uip.Given.{Over}
use Rattle.analyze.proofs.walk.find_first_uip.Goals.{After-mark_clause-open, After-mark_clause-more}
use Rattle.analyze.proofs.walk.find_first_uip.Goals as goal
use Rattle.analyze.proofs.walk.find_first_uip.Goals.{else-at-via-then-at+else-level_at-level, else-at-via-else-at}

-- what was read in a table
read_mark : (ms : List Bool) (p : ℕ) (r b blank : Bool) → blank ≡ false → r ≡ get_or ms p blank → r ≡ b → marked ms p ≡ b
read_mark ms p r b blank none e f = ap (λ (x : Bool). get_or ms p x) (sym none) ∙ sym e ∙ f

-- nothing is marked before the walk
clear : (g : Over) (c : After-mark_clause-open g) → (p : ℕ) → marked c.args.marks.now.values p ≡ false
clear g c p = rw c.requires.blank (marked-none c.args.trail.now.vars p)

pub mark_clause-open-requires-clause-can : goal.mark_clause-open-requires-clause-can
mark_clause-open-requires-clause-can g c =
    rw c.len-place.ensures.len (CanMark-conflict c.args.trail.now c.args.level (lits_at (g.P.Port.state c.args.port.now) c.args.conflict.address) c.requires.shape c.requires.conflict c.requires.level)

pub mark_clause-open-requires-clause-marking : goal.mark_clause-open-requires-clause-marking
mark_clause-open-requires-clause-marking g c =
    rw c.requires.blank (IsMarking-none c.args.trail.now c.args.level)

pub places-init : goal.places-init
places-init g c =
    let lits = lits_at (g.P.Port.state c.args.port.now) c.args.conflict.address in
    let marks = rw c.len-place.ensures.len at c.mark_clause-open.ensures.marks in
    record {
      same = c.mark_clause-open.ensures.same;
      walking = rw c.len-place.ensures.len
          (Walking-start (clause_at (g.P.Port.state c.args.port.now)) c.args.trail.now.steps c.args.trail.now.vars c.args.level lits
          c.args.marks.now.values c.mark_clause-open.new.marks c.mark_clause-open.result (clear g c) marks c.mark_clause-open.ensures.marking
          (some_marked c.args.trail.now c.args.level c.mark_clause-open.result c.args.marks.now.values c.mark_clause-open.new.marks.values lits c.requires.shape c.requires.conflict c.requires.level c.requires.above (clear g c) marks));
    }

pub overflow_sub-place : goal.overflow_sub-place
overflow_sub-place g c = Walking-positive _ _ _ _ _ _ _ _ c.places.invariant.walking

pub at-requires : goal.at-requires
at-requires g c = omega (arith, Walking-in_table _ c.args.trail.now _ _ _ _ _ c.requires.shape c.places.invariant.walking)

pub level_at-requires : goal.level_at-requires
level_at-requires g c =
    let w = c.places.invariant.walking in
    let p = Walking-positive _ _ _ _ _ _ _ _ w in
    let h = w.in_range in
    omega arith

pub returns-then-open-eq1-clause-walked : goal.returns-then-open-eq1-clause-walked
returns-then-open-eq1-clause-walked g c =
    let w = c.places.invariant.walking in
    let p = Walking-positive _ _ _ _ _ _ _ _ w in
    let y = read_mark c.places.marks.values (c.places.place - 1) c.at.result true c.places.marks.blank w.marking.blank c.at.ensures c.if-at.true in
    Walking-last _ _ _ _ _ _ _ _ w (c.places.place - 1) (omega arith) y (sym c.level_at.ensures ∙ c.if-level_at-level.true) c.if-open-eq1.true

pub unreachable-requires : goal.unreachable-requires
unreachable-requires g c =
    let w = c.places.invariant.walking in
    let p = Walking-positive _ _ _ _ _ _ _ _ w in
    let y = read_mark c.places.marks.values (c.places.place - 1) c.at.result true c.places.marks.blank w.marking.blank c.at.ensures c.if-at.true in
    let f = Walking-forced _ _ _ _ _ _ _ _ w (c.places.place - 1) (omega arith) y (sym c.level_at.ensures ∙ c.if-level_at-level.true) c.if-open-eq1.false c.requires.above _ c.requires.reasoned in
    let none : reason_at c.args.trail.now.steps (c.places.place - 1) ≡ None = sym c.reason_at.ensures ∙ c.in_default.is in
    let some = f.reason_is in
    absurd (cc)

pub mark_clause-more-requires-clause-can : goal.mark_clause-more-requires-clause-can
mark_clause-more-requires-clause-can g c =
    let w = c.places.invariant.walking in
    let p = Walking-positive _ _ _ _ _ _ _ _ w in
    let h = w.in_range in
    let y = read_mark c.places.marks.values (c.places.place - 1) c.at.result true c.places.marks.blank w.marking.blank c.at.ensures c.if-at.true in
    let l : level_at c.args.trail.now.steps (c.places.place - 1) ≡ c.args.level = sym c.level_at.ensures ∙ c.if-level_at-level.true in
    let f = Walking-forced _ _ _ _ _ _ _ _ w (c.places.place - 1) (omega arith) y l c.if-open-eq1.false c.requires.above _ c.requires.reasoned in
    let r = forced_by _ _ _ c.in-Some.reason f (sym c.reason_at.ensures ∙ c.in-Some.is) in
    let lits = (clause_held (g.P.Port.state c.args.port.now) c.in-Some.reason.address r.lits r.held_is).1 in
    let can = CanMark-reason c.args.trail.now (c.places.place - 1) c.args.level r.lits c.requires.shape (omega arith) l r.unit in
    rw (c.places.invariant.same, lits) can

-- what marking the reason's literals leaves of the walk
resolved : (g : Over) (c : After-mark_clause-more g)
    → Walking (clause_at (g.P.Port.state c.args.port.now)) c.args.trail.now.steps c.args.trail.now.vars c.args.level (lits_at (g.P.Port.state c.args.port.now) c.args.conflict.address)
    c.mark_clause-more.new.marks (c.places.open - 1 + c.mark_clause-more.result) (c.places.place - 1)
resolved g c =
    let w = c.places.invariant.walking in
    let p = Walking-positive _ _ _ _ _ _ _ _ w in
    let e : c.places.place ≡ suc (c.places.place - 1) = omega arith in
    let y = read_mark c.places.marks.values (c.places.place - 1) c.at.result true c.places.marks.blank w.marking.blank c.at.ensures c.if-at.true in
    let l : level_at c.args.trail.now.steps (c.places.place - 1) ≡ c.args.level = sym c.level_at.ensures ∙ c.if-level_at-level.true in
    let f = Walking-forced _ _ _ _ _ _ _ _ w (c.places.place - 1) e y l c.if-open-eq1.false c.requires.above _ c.requires.reasoned in
    let is = sym c.reason_at.ensures ∙ c.in-Some.is in
    let r = forced_by _ _ _ c.in-Some.reason f is in
    let lits = (clause_held (g.P.Port.state c.args.port.now) c.in-Some.reason.address r.lits r.held_is).1 in
    Walking-resolve _ _ _ _ _ _ _ _ w (c.places.place - 1) e y l c.if-open-eq1.false c.in-Some.reason r.lits is r.held_is
    c.mark_clause-more.new.marks c.mark_clause-more.result
    (rw (c.places.invariant.same, lits) at c.mark_clause-more.ensures.marks) c.mark_clause-more.ensures.marking

pub overflow_add-open : goal.overflow_add-open
overflow_add-open g c =
    let w = resolved g (goal.at.overflow_add-open g c).After-mark_clause-more in
    let le = Walking-small _ _ _ _ _ _ _ _ w in
    let f = c.places.auto.place-fits in
    omega arith

pub places-smaller-then-level_at-level : goal.places-smaller-then-level_at-level
places-smaller-then-level_at-level g c =
    let p = Walking-positive _ _ _ _ _ _ _ _ c.places.invariant.walking in
    omega arith

pub places-preserved-then-level_at-level : goal.places-preserved-then-level_at-level
places-preserved-then-level_at-level g c = record {
  same = c.mark_clause-more.ensures.same ∙ c.places.invariant.same;
  walking = resolved g (goal.at.places-preserved-then-level_at-level g c).After-mark_clause-more;
}

pub places-smaller : goal.places-smaller
places-smaller g c =
    let p = Walking-positive _ _ _ _ _ _ _ _ c.places.invariant.walking in
    omega arith

pub places-preserved : goal.places-preserved
places-preserved g c =
    let w = c.places.invariant.walking in
    let p = Walking-positive _ _ _ _ _ _ _ _ w in
    record {
      same = c.places.invariant.same;
      walking = Walking-skip _ _ _ _ _ _ _ _ w (c.places.place - 1) (omega arith)
          (elim c.else-at.branch as (λ _. is_open c.args.trail.now.steps c.args.level c.places.marks.values (c.places.place - 1) ≡ false) [
            | else-at-via-then-at+else-level_at-level x ↦ and_right _ _ (ne_eqb _ _ (λ e. x.if-level_at-level.false (x.level_at.ensures ∙ e)))
            | else-at-via-else-at x ↦ and_left _ _ (read_mark c.places.marks.values (c.places.place - 1) c.at.result false c.places.marks.blank w.marking.blank c.at.ensures x.if-at.false)
          ]);
    }
