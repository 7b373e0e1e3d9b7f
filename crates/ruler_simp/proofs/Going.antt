-- What a simplifier's run leaves, whichever it is.
use Rattle.std.proofs.Common.{◌≡◌, true, false, refl, ◌∙◌}
use Rattle.std.specs.Prelude.{Result, Ok, Err}
use Rattle.drat_text.specs.declared.stop.LineStop.{LineStop}
use Rattle.simp_base.specs.WorkState.{WorkState}
use Rattle.simp_base.specs.Causes.{HasCause}
use Rattle.simp_base.specs.Lifted.{Lifted}
use Rattle.simp_base.specs.declared.work.Run.{Run}
use Rattle.simp_base.specs.declared.work.Run.TheVariants.{Done, Refuted}
use Rattle.simp_base.proofs.LiftSteps.{lifted_along, lifted_self}
use Rattle.simp_base.proofs.Stopping.{cause_after}
use Rattle.ruler_simp.specs.declared.passes.Simplifier.{Simplifier}
use Rattle.ruler_simp.specs.declared.passes.Simplifier.TheVariants.{Units, Subsumption, Equivalence, Elimination, Addition}
use Rattle.ruler_simp.specs.Passes.{Ends}

-- a simplifier may run
pub record IsReady (w : WorkState) : Type 0 where
  pub going : w.ended ≡ false
  pub unspent : w.output.spent ≡ false

-- the next one may run, and models lift
pub record GoesOn (old new : WorkState) : Type 0 where
  pub ready : IsReady new
  pub quiet : new.output.faults ≡ old.output.faults
  pub lifted : Lifted old new

-- the empty clause was added
pub record IsOver (old new : WorkState) : Type 0 where
  pub ended : new.ended ≡ true
  pub unspent : new.output.spent ≡ false
  pub quiet : new.output.faults ≡ old.output.faults

-- how one run or several end
abbrev pub Comes : WorkState → WorkState → Result Run LineStop → Type 0
Comes old new (Ok Done) = GoesOn old new
Comes old new (Ok Refuted) = IsOver old new
Comes old new (Err stop) = HasCause old new stop

pub goes_self : (w : WorkState) → IsReady w → GoesOn w w
goes_self w r = record { ready = r; quiet = refl; lifted = lifted_self w }

pub goes_along : (a b c : WorkState) → GoesOn a b → GoesOn b c → GoesOn a c
goes_along a b c f g = record { ready = g.ready; quiet = g.quiet ∙ f.quiet; lifted = lifted_along a b c f.lifted g.lifted }

pub comes_along : (a b c : WorkState) (result : Result Run LineStop) → GoesOn a b → Comes b c result → Comes a c result
comes_along a b c (Ok Done) f h = goes_along a b c f h
comes_along a b c (Ok Refuted) f h = record { ended = h.ended; unspent = h.unspent; quiet = h.quiet ∙ f.quiet }
comes_along a b c (Err stop) f h = cause_after a b c stop f.quiet h

-- one simplifier
pub pass_comes : (pass : Simplifier) (old new : WorkState) (result : Result Run LineStop) → Ends pass old new result → Comes old new result
pass_comes Units old new (Ok Done) h = record { ready = record { going = h.going; unspent = h.unspent }; quiet = h.quiet; lifted = h.lifted }
pass_comes Units old new (Ok Refuted) h = record { ended = h.ended.ended; unspent = h.ended.unspent; quiet = h.ended.quiet }
pass_comes Units old new (Err stop) h = h
pass_comes Subsumption old new (Ok Done) h = record { ready = record { going = h.going; unspent = h.unspent }; quiet = h.quiet; lifted = h.lifted }
pass_comes Subsumption old new (Ok Refuted) h = absurd h
pass_comes Subsumption old new (Err stop) h = h
pass_comes Equivalence old new (Ok Done) h = record { ready = record { going = h.going; unspent = h.unspent }; quiet = h.quiet; lifted = h.lifted }
pass_comes Equivalence old new (Ok Refuted) h = record { ended = h.ended.ended; unspent = h.ended.unspent; quiet = h.ended.quiet }
pass_comes Equivalence old new (Err stop) h = h
pass_comes Elimination old new (Ok Done) h = record { ready = record { going = h.going; unspent = h.unspent }; quiet = h.quiet; lifted = h.lifted }
pass_comes Elimination old new (Ok Refuted) h = absurd h
pass_comes Elimination old new (Err stop) h = h
pass_comes Addition old new (Ok Done) h = record { ready = record { going = h.going; unspent = h.unspent }; quiet = h.quiet; lifted = h.lifted }
pass_comes Addition old new (Ok Refuted) h = absurd h
pass_comes Addition old new (Err stop) h = h
