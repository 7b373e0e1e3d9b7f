-- What learning comes to.
use Rattle.std.proofs.Common.{◌≡◌, ◌∙◌, ◌⊎◌, ℕ, ◌+◌, List, subst, ap, refl, inl, inr}
use Rattle.std.specs.declared.option.Option.{Option}
use Rattle.sat_words.specs.Literal.{Literal}
use Rattle.sat_words.specs.declared.shared.Cref.{Cref}
use Rattle.ring_port.specs.PortState.{PortState, lits_at}
use Rattle.restart_plan.specs.Plan.{Restarting, noted, asked, is_due}
use Rattle.analyze.specs.Lemma.{IsLemma}
use Rattle.ring_run.specs.Ending.{EndsRefused, IsRefusal}
use Rattle.ring_run.specs.Searching.{HasLent, IsAsserting, IsGlueOf}
use Rattle.ring_run.specs.Course.{WasShared, CountsAlike, HaltsBehind, HaltsLearning, HaltsAtConflict, LearnsTo, LearnsFrom}
use Rattle.ring_run.specs.declared.job.End.{End}
use Rattle.ring_run.specs.declared.job.End.TheVariants.{Sat, Refuted, Spent, Stopped, NoHole, ProofFault, Memory}
use Rattle.ring_run.specs.declared.ring.Ring.{Ring}
use Rattle.ring_run.specs.declared.course.Next.{Next}
use Rattle.ring_run.specs.declared.course.Next.TheVariants.{Go, Finish}
use Rattle.ring_run.proofs.Lending.{left_alike}

-- what came to a refusal
pub learns_halted : (s u : PortState) (old new : Ring) (lits : List Literal) (back glue : ℕ) (end : End) → IsRefusal end → HaltsLearning s u old new lits glue end → LearnsTo s u old new lits back glue (Finish end)
learns_halted s u old new lits back glue (Sat a) h how = h
learns_halted s u old new lits back glue Refuted h how = how
learns_halted s u old new lits back glue Spent h how = absurd h
learns_halted s u old new lits back glue (Stopped x) h how = h
learns_halted s u old new lits back glue (NoHole lack) h how = how
learns_halted s u old new lits back glue ProofFault h how = how
learns_halted s u old new lits back glue Memory h how = how

pub from_halted : (s u : PortState) (old new : Ring) (c : Cref) (lits : List Literal) (end : End) → IsRefusal end → HaltsAtConflict s u old new c lits end → LearnsFrom s u old new c lits (Finish end)
from_halted s u old new c lits (Sat a) h how = h
from_halted s u old new c lits Refuted h how = how
from_halted s u old new c lits Spent h how = absurd h
from_halted s u old new c lits (Stopped x) h how = h
from_halted s u old new c lits (NoHole lack) h how = how
from_halted s u old new c lits ProofFault h how = how
from_halted s u old new c lits Memory h how = how

-- two rings that have the same, except the room of the variables analyzed in a conflict
pub record AreSameButBumps (between old : Ring) : Type 0 where
  pub trail : between.trail ≡ old.trail
  pub watches : between.watches ≡ old.watches
  pub lemmas : between.lemmas.items ≡ old.lemmas.items
  pub imports : between.imports.items ≡ old.imports.items
  pub last_start : between.last_start ≡ old.last_start
  pub reductions : between.reductions ≡ old.reductions
  pub reduced_at : between.reduced_at ≡ old.reduced_at
  pub next_probe : between.next_probe ≡ old.next_probe
  pub written : between.written ≡ old.written
  pub decider : between.decider ≡ old.decider
  pub restarts : between.restarts ≡ old.restarts
  pub learned : between.learned ≡ old.learned
  pub exported : between.exported ≡ old.exported
  pub offered : between.offered ≡ old.offered

shared_alike : (s u : PortState) (between old new : Ring) (lits : List Literal) (glue : ℕ) (address : Option Cref) → AreSameButBumps between old → WasShared s u between new lits glue address → WasShared s u old new lits glue address
shared_alike s u between old new lits glue address b p = record {
  middle = p.middle;
  learned = p.learned;
  lent = subst (λ (e : ℕ). HasLent p.middle u address e old.offered new.exported new.offered) b.exported
      (subst (λ (o : ℕ). HasLent p.middle u address between.exported o new.exported new.offered) b.offered p.lent);
}

alike_bumped : (between old new : Ring) → AreSameButBumps between old → CountsAlike between new → CountsAlike old new
alike_bumped between old new b p = record { learned = p.learned ∙ b.learned; restarts = p.restarts ∙ b.restarts; exported = p.exported ∙ b.exported; offered = p.offered ∙ b.offered }

halts_bumped : (s u : PortState) (between old new : Ring) (lits : List Literal) (glue : ℕ) (end : End) → AreSameButBumps between old → HaltsLearning s u between new lits glue end → HaltsLearning s u old new lits glue end
halts_bumped s u between old new lits glue end b h = (h.0, h.1, by h.2)
  where
    by : (EndsRefused h.0 u end × CountsAlike between new) ⊎ HaltsBehind h.0 u between new lits glue end → (EndsRefused h.0 u end × CountsAlike old new) ⊎ HaltsBehind h.0 u old new lits glue end
    by (inl p) = inl (p.0, alike_bumped between old new b p.1)
    by (inr p) = inr (record {
      address = p.address;
      between = p.between;
      shared = shared_alike h.0 p.between between old new lits glue p.address b p.shared;
      deleting = p.deleting;
      learned = p.learned ∙ ap (λ (n : ℕ). n + 1) b.learned;
      restarts = p.restarts ∙ ap (λ (r : Restarting). asked (noted r glue)) b.restarts;
    })

-- what came of a conflict whose variables were bumped
learns_bumped : (s u : PortState) (between old new : Ring) (lits : List Literal) (back glue : ℕ) (course : Next) → AreSameButBumps between old → LearnsTo s u between new lits back glue course → LearnsTo s u old new lits back glue course
learns_bumped s u between old new lits back glue Go b p = record {
  drawn = p.drawn;
  ticket = p.ticket;
  address = p.address;
  stored = p.stored;
  between = p.between;
  shared = shared_alike p.drawn p.between between old new lits glue p.address b p.shared;
  tidied = p.tidied;
  learned = p.learned ∙ ap (λ (n : ℕ). n + 1) b.learned;
  restarts = p.restarts ∙ ap (λ (r : Restarting). asked (noted r glue)) b.restarts;
  import_due = p.import_due ∙ ap (λ (r : Restarting). is_due (noted r glue)) b.restarts;
  left = left_alike u (record between { import_due = new.import_due }) (record old { import_due = new.import_due }) new lits back p.address
      (record { import_due = refl; trail = b.trail; watches = b.watches; lemmas = b.lemmas; imports = b.imports; last_start = b.last_start; reductions = b.reductions; reduced_at = b.reduced_at; next_probe = b.next_probe; written = b.written; decider = b.decider })
      p.left;
}
learns_bumped s u between old new lits back glue (Finish (Sat a)) b p = p
learns_bumped s u between old new lits back glue (Finish Refuted) b p = halts_bumped s u between old new lits glue Refuted b p
learns_bumped s u between old new lits back glue (Finish Spent) b p = record { gone = p.gone; counts = alike_bumped between old new b p.counts }
learns_bumped s u between old new lits back glue (Finish (Stopped x)) b p = p
learns_bumped s u between old new lits back glue (Finish (NoHole lack)) b p = halts_bumped s u between old new lits glue (NoHole lack) b p
learns_bumped s u between old new lits back glue (Finish ProofFault) b p = halts_bumped s u between old new lits glue ProofFault b p
learns_bumped s u between old new lits back glue (Finish Memory) b p = halts_bumped s u between old new lits glue Memory b p

pub learned_from : (s u : PortState) (between old new : Ring) (c : Cref) (lits : List Literal) (back glue : ℕ) (course : Next) → AreSameButBumps between old → IsLemma s old.trail (lits_at s c.address) lits back glue → IsAsserting s old.trail lits back
    → IsGlueOf old.trail.steps lits glue → LearnsTo s u between new lits back glue course → LearnsFrom s u old new c lits course
learned_from s u between old new c lits back glue Go b lemma asserting counted p =
    record { back = back; glue = glue; lemma = lemma; asserting = asserting; counted = counted; learned = learns_bumped s u between old new lits back glue Go b p }
learned_from s u between old new c lits back glue (Finish (Sat a)) b lemma asserting counted p = p
learned_from s u between old new c lits back glue (Finish Refuted) b lemma asserting counted p =
    inr (inr (record { back = back; glue = glue; lemma = lemma; asserting = asserting; counted = counted; learned = learns_bumped s u between old new lits back glue (Finish Refuted) b p }))
learned_from s u between old new c lits back glue (Finish Spent) b lemma asserting counted p =
    record { back = back; glue = glue; lemma = lemma; asserting = asserting; counted = counted; learned = learns_bumped s u between old new lits back glue (Finish Spent) b p }
learned_from s u between old new c lits back glue (Finish (Stopped x)) b lemma asserting counted p = p
learned_from s u between old new c lits back glue (Finish (NoHole lack)) b lemma asserting counted p =
    inr (inr (record { back = back; glue = glue; lemma = lemma; asserting = asserting; counted = counted; learned = learns_bumped s u between old new lits back glue (Finish (NoHole lack)) b p }))
learned_from s u between old new c lits back glue (Finish ProofFault) b lemma asserting counted p =
    inr (inr (record { back = back; glue = glue; lemma = lemma; asserting = asserting; counted = counted; learned = learns_bumped s u between old new lits back glue (Finish ProofFault) b p }))
learned_from s u between old new c lits back glue (Finish Memory) b lemma asserting counted p =
    inr (inr (record { back = back; glue = glue; lemma = lemma; asserting = asserting; counted = counted; learned = learns_bumped s u between old new lits back glue (Finish Memory) b p }))
