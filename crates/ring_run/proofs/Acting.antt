-- What a turn comes to, and turns one after the other.
use Rattle.std.proofs.Common.{◌≡◌, ◌∙◌, ℕ, Bool, true, false, List, ◌∷◌, inl, inr, refl, subst, sym, ap}
use Rattle.sat_words.specs.Literal.{Literal}
use Rattle.sat_words.specs.declared.shared.Cref.{Cref}
use Rattle.ring_port.specs.PortState.{PortState, lits_at}
use Rattle.watch_prop.specs.Propagation.{IsQuiet, IsConflict}
use Rattle.ring_run.specs.Ending.{IsRefusal}
use Rattle.ring_port.specs.declared.stops.PortStop.TheVariants as answer
use Rattle.ring_run.specs.Searching.{HasTold, SeesFixed}
use Rattle.ring_run.specs.Halting.{HaltsRenewing}
use Rattle.ring_run.specs.Course.{CountsAlike, LearnsFrom, IsOnOrRefused, HaltsBy}
use Rattle.ring_run.specs.Turn.{HasPropagated, ActedAtQuiet, TookTurn, HaltedTurn, TakesTurn, CameTo, HasModel, EndsDeciding, HaltsQuietly, EndsQuietly}
use Rattle.ring_run.specs.declared.job.Job.{Job}
use Rattle.ring_run.specs.declared.job.End.{End}
use Rattle.ring_run.specs.declared.job.End.TheVariants.{Sat, Refuted, Spent, Stopped, NoHole, ProofFault, Memory}
use Rattle.ring_run.specs.declared.ring.Ring.{Ring}
use Rattle.ring_run.specs.declared.course.Next.{Next}
use Rattle.ring_run.specs.declared.course.Next.TheVariants.{Go, Finish}

-- a refusal ends a step that doesn't learn
pub quietly_halted : (s u : PortState) (old new : Ring) (end : End) → IsRefusal end → HaltsQuietly s u old new end → EndsQuietly s u old new (Finish end)
quietly_halted s u old new (Sat a) h how = absurd h
quietly_halted s u old new Refuted h how = how
quietly_halted s u old new Spent h how = h
quietly_halted s u old new (Stopped x) h how = absurd h
quietly_halted s u old new (NoHole lack) h how = how
quietly_halted s u old new ProofFault h how = how
quietly_halted s u old new Memory h how = how

-- and so it does where an import was yet to be
pub quietly_renewing : (s w u : PortState) (old ring new : Ring) (course : Next) → IsOnOrRefused course → old.import_due ≡ true → ring ≡ record old { written = ring.written } → CountsAlike old new → HasTold s w → SeesFixed w old.trail → HaltsBy (HaltsRenewing w u ring) course
    → EndsQuietly s u old new course
quietly_renewing s w u old ring new Go h due same counts told seen how = tt
quietly_renewing s w u old ring new (Finish end) h due same counts told seen how = quietly_halted s u old new end h (counts, w, told, seen.alone, inr (seen, due, ring, same, how))

found_alike : (s : PortState) (old : Ring) (written : ℕ) (a : List Bool) → HasModel s (record old { written = written }) a → HasModel s old a
found_alike s old written a (inl p) = inl (record { valued = p.valued; long = p.long; true_there = p.true_there; rest = p.rest })
found_alike s old written a (inr p) = inr (record { start = p.start; agrees = p.agrees })

-- what a decision comes to after a look and lines of units
pub quietly_decided : (s w : PortState) (old ring new : Ring) (course : Next) → old.import_due ≡ false → ring ≡ record old { written = ring.written } → CountsAlike old new → HasTold s w → SeesFixed w old.trail → EndsDeciding w ring new course → EndsQuietly s w old new course
quietly_decided s w old ring new Go settled same counts told seen d = tt
quietly_decided s w old ring new (Finish (Sat a)) settled same counts told seen d = record {
  settled = settled;
  told = told;
  seen = seen;
  found = found_alike w old ring.written a (subst (λ (r : Ring). HasModel w r a) same d.0);
  same = d.1 ∙ same ∙ ap (λ (r : Ring). record old { written = r.written }) (sym d.1);
}
quietly_decided s w old ring new (Finish Refuted) settled same counts told seen d = absurd d
quietly_decided s w old ring new (Finish Spent) settled same counts told seen d = d
quietly_decided s w old ring new (Finish (Stopped x)) settled same counts told seen d = absurd d
quietly_decided s w old ring new (Finish (NoHole lack)) settled same counts told seen d = absurd d
quietly_decided s w old ring new (Finish ProofFault) settled same counts told seen d = absurd d
quietly_decided s w old ring new (Finish Memory) settled same counts told seen d = (counts, w, told, seen.alone, inl (answer.Memory, record { reason = tt; state = refl }, refl))

pub refused_over : (course : Next) (end : End) → course ≡ Finish end → IsOnOrRefused course → IsRefusal end
refused_over course end is h = subst IsOnOrRefused is h

conflict_halted : (s u : PortState) (old between new : Ring) (c : Cref) (lits : List Literal) (end : End) → HasPropagated s old between → IsConflict between.watches (lits_at s) between.trail c → LearnsFrom s u between new c lits (Finish end)
    → HaltedTurn s u old new end
conflict_halted s u old between new c lits end p found learned = record { middle = between; propagated = p; halts = inr (inl (record { conflict = c; false_there = found; lits = lits; learned = learned })) }

-- a turn that met a conflict
pub conflict_turn : (s u : PortState) (old between new : Ring) (c : Cref) (lits : List Literal) (course : Next) → HasPropagated s old between → IsConflict between.watches (lits_at s) between.trail c → LearnsFrom s u between new c lits course
    → TakesTurn s u old new course
conflict_turn s u old between new c lits Go p found learned = record { middle = between; propagated = p; acted = inl (record { conflict = c; false_there = found; lits = lits; learned = learned }) }
conflict_turn s u old between new c lits (Finish (Sat a)) p found learned = absurd learned
conflict_turn s u old between new c lits (Finish Refuted) p found learned = conflict_halted s u old between new c lits Refuted p found learned
conflict_turn s u old between new c lits (Finish Spent) p found learned = record { middle = between; propagated = p; learned = record { conflict = c; false_there = found; lits = lits; learned = learned } }
conflict_turn s u old between new c lits (Finish (Stopped x)) p found learned = absurd learned
conflict_turn s u old between new c lits (Finish (NoHole lack)) p found learned = conflict_halted s u old between new c lits (NoHole lack) p found learned
conflict_turn s u old between new c lits (Finish ProofFault) p found learned = conflict_halted s u old between new c lits ProofFault p found learned
conflict_turn s u old between new c lits (Finish Memory) p found learned = conflict_halted s u old between new c lits Memory p found learned

quiet_halted : (s u : PortState) (old between new : Ring) (end : End) → HasPropagated s old between → IsQuiet between.watches (lits_at s) between.trail → HaltsQuietly s u between new end → HaltedTurn s u old new end
quiet_halted s u old between new end p quiet how = record { middle = between; propagated = p; halts = inr (inr (quiet, how)) }

-- a turn in which nothing was left to propagate
pub quiet_turn : (s u : PortState) (old between new : Ring) (course : Next) → HasPropagated s old between → IsQuiet between.watches (lits_at s) between.trail → (course ≡ Go → ActedAtQuiet s u between new) → EndsQuietly s u between new course
    → TakesTurn s u old new course
quiet_turn s u old between new Go p quiet acted ended = record { middle = between; propagated = p; acted = inr (quiet, acted refl) }
quiet_turn s u old between new (Finish (Sat a)) p quiet acted ended = record { middle = between; propagated = p; quiet = quiet; found = ended }
quiet_turn s u old between new (Finish Refuted) p quiet acted ended = quiet_halted s u old between new Refuted p quiet ended
quiet_turn s u old between new (Finish Spent) p quiet acted ended = absurd ended
quiet_turn s u old between new (Finish (Stopped x)) p quiet acted ended = record {
  propagated = subst (HasPropagated s old) (sym ended.1) p;
  quiet = subst (λ (r : Ring). IsQuiet r.watches (lits_at s) r.trail) (sym ended.1) quiet;
  seen = ended.0;
}
quiet_turn s u old between new (Finish (NoHole lack)) p quiet acted ended = quiet_halted s u old between new (NoHole lack) p quiet ended
quiet_turn s u old between new (Finish ProofFault) p quiet acted ended = quiet_halted s u old between new ProofFault p quiet ended
quiet_turn s u old between new (Finish Memory) p quiet acted ended = quiet_halted s u old between new Memory p quiet ended

-- a turn more
pub came_further : (job : Job) (s m u : PortState) (old between new : Ring) → CameTo job s m old between → TookTurn m u between new → CameTo job s u old new
came_further job s m u old between new p search_step = record { imported_port = p.imported_port; imported = p.imported; first = p.first; walked = p.walked; model = p.model; walk = p.walk; states = (m, between) ∷ p.states; turns = (p.turns, search_step) }
