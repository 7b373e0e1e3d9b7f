-- A ring that has reduced its lemmas rests, and goes on from there.
use Rattle.std.proofs.Common.{◌≡◌, ◌∙◌, ℕ, ◌+◌, ◌≤◌, List, [], sym, subst, ap, arith}
use Rattle.sat_words.specs.Literal.{Literal}
use Rattle.sat_words.specs.Clause.{has}
use Rattle.sat_words.specs.declared.shared.Cref.{Cref}
use Rattle.rup_model.specs.Journal.{recent}
use Rattle.ring_port.specs.declared.stops.PortStop.{PortStop}
use Rattle.ring_port.specs.PortState.{PortState, lits_at}
use Rattle.ring_port.specs.Reducing.{NotedReduce}
use Rattle.ring_trail.specs.declared.step.TrailStep.{TrailStep}
use Rattle.ring_trail.specs.TrailData.{TrailData}
use Rattle.watch_prop.specs.WatchData.{WatchData, Lits}
use Rattle.watch_prop.specs.Propagation.{IsQuiet}
use Rattle.reduce_db.specs.Dropping.{StaysReady}
use Rattle.reduce_db.specs.Reduction.{WasReduced}
use Rattle.ring_run.specs.Ended.{HasLooked, last_looks, reductions}
use Rattle.ring_run.specs.Searching.{OpeningSeen, KeepsOn}
use Rattle.ring_run.specs.Ending.{EndsAt, end_refused}
use Rattle.ring_run.specs.Renewal.{HaltsAt}
use Rattle.ring_run.specs.Course.{IsLooking}
use Rattle.ring_run.specs.declared.job.End.{End}
use Rattle.ring_run.specs.declared.ring.Ring.{Ring}
use Rattle.std.specs.Prelude.{Result, Ok, Err, IfOk, OnOk}
use Rattle.ring_run.proofs.Reducing.{noted_lately, noted_none}
use Rattle.ring_run.proofs.Remembering.{lits_same}
use Rattle.ring_run.proofs.Tidying.{refused_halted, refused_last, refused_refusal}
use Rattle.ring_run.proofs.Numbering.{reductions_reduced}

module _ (s m u : PortState) (noted : NotedReduce s m) (v w : WatchData) (steps : List TrailStep) (lemmas left : List Cref) (done : WasReduced m u v w steps lemmas left) where
  pub reduced_lately : recent u.ring u.mine ≡ []
  reduced_lately = ap (λ (x : PortState). recent x.ring x.mine) done.port.state ∙ noted_lately s m noted

  pub reduced_some : 1 ≤ reductions u.ring u.mine
  reduced_some =
      let one = reductions_reduced s.ring s.mine in
      let is = ap (λ (x : PortState). reductions x.ring x.mine) done.port.state ∙ ap (λ (x : PortState). reductions x.ring x.mine) noted.state in
      omega (arith, one, is)

  pub reduced_none : u.taken ≡ []
  reduced_none = ap (λ (x : PortState). x.taken) done.port.state ∙ noted_none s m noted

  pub reduced_opening : OpeningSeen s → OpeningSeen u
  reduced_opening p l h =
      let seen : u.seen ≡ s.seen = ap (λ (x : PortState). x.seen) done.port.state ∙ ap (λ (x : PortState). x.seen) noted.state in
      let opening : u.opening ≡ s.opening = ap (λ (x : PortState). x.opening) done.port.state ∙ ap (λ (x : PortState). x.opening) noted.state in
      ap (λ (ls : List Literal). has ls l) seen ∙ p l (ap (λ (ls : List Literal). has ls l) (sym opening) ∙ h)

  pub reduced_quiet : (t : TrailData) → IsQuiet v (lits_at s) t → StaysReady m u v w t → IsQuiet w (lits_at u) t
  reduced_quiet t q ready = ready.quiet (subst (λ (f : Lits). IsQuiet v f t) (sym (lits_same s m (ap (λ (x : PortState). x.held) noted.state))) q)

-- a refusal is such an end
pub refused_halts : (s u : PortState) (stop : PortStop) (end : End) → end ≡ end_refused stop → EndsAt s u (end_refused stop) → HaltsAt s u end
refused_halts s u stop end is ends = subst (HaltsAt s u) (sym is) (record { ends = ends; halted = refused_halted stop; refusal = refused_refusal stop; none = refused_last stop })

-- and so is one after calls that leave each run as it was
pub halts_then : (s m u : PortState) (end : End) → KeepsOn s m → HaltsAt m u end → HaltsAt s u end
halts_then s m u end keeps h = record { ends = λ n start p. h.ends n start (keeps start n p); halted = h.halted; refusal = h.refusal; none = h.none }

-- looks stay counted
pub looks_kept : (s u : PortState) (old new : Ring) (base : ℕ) → u.looks ≡ s.looks → new.learned ≡ old.learned → new.trail.level ≡ old.trail.level → IsLooking base s old → IsLooking base u new
looks_kept s u old new base looks learned level p = omega (arith, p, looks, learned, level)

pub looks_halted : (s u : PortState) (old new : Ring) (base : ℕ) (end : End) → u.looks ≡ s.looks → new.learned ≡ old.learned → last_looks end ≡ 0 → IsLooking base s old → HasLooked (base + new.learned + last_looks end) u
looks_halted s u old new base end looks learned none p = omega (arith, p, looks, learned, none)

-- what is known of an answer
pub ok_of : {A E : Type 0} {P : A → Type 0} {Q : Type 0} (r : Result A E) → ((a : A) → P a → Q) → IfOk r P → OnOk r Q
ok_of (Ok a) f p = f a p
ok_of (Err e) f p = tt

pub if_ok_then : {A E : Type 0} {P Q : A → Type 0} (r : Result A E) → IfOk r P → ((a : A) → P a → Q a) → IfOk r Q
if_ok_then (Ok a) p f = f a p
if_ok_then (Err e) p f = tt
