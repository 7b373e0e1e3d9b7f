-- What comes after a lemma.
use Rattle.std.proofs.Common.{◌≡◌, ◌∙◌, ℕ, Bool, List, [], sym, subst, refl, length, inl, inr}
use Rattle.std.specs.declared.option.Option.{Option}
use Rattle.sat_words.specs.Literal.{Literal}
use Rattle.sat_words.specs.declared.shared.Cref.{Cref}
use Rattle.ring_port.specs.PortState.{PortState}
use Rattle.ring_port.specs.Deleting.{TidiedUpTo, TidiedSome}
use Rattle.ring_port.specs.declared.stops.PortStop.{PortStop}
use Rattle.restart_plan.specs.Plan.{Restarting, asked, is_due}
use Rattle.ring_run.specs.Searching.{KeepsOn, OffersNothing, OnlyWrote}
use Rattle.ring_run.specs.Ending.{EndsAt, HaltsDeleting, IsRefusal, end_refused}
use Rattle.ring_run.specs.Course.{HasLeft, AreSameOffers}
use Rattle.ring_run.specs.Learning.{HasAsked, HasFinished, HasLeftTidy}
use Rattle.ring_run.specs.declared.job.End.{End}
use Rattle.ring_run.specs.declared.job.End.TheVariants.{Memory}
use Rattle.ring_run.specs.declared.ring.Ring.{Ring}
use Rattle.ring_run.specs.declared.course.Next.TheVariants.{Go, Finish}
use Rattle.ring_run.proofs.Lending.{left_alike}
use Rattle.ring_run.proofs.Progress.{out_of_memory}
use Rattle.ring_run.proofs.Tidying.{refused_refusal}

-- the ring that was asked
abbrev pub asked_ring : Ring → Restarting → Bool → Ring
asked_ring old r due = record old { restarts = r; import_due = due }

-- what a call that tidies leaves after the question
pub asked_then : (s w : PortState) (old : Ring) (r : Restarting) (due : Bool) → r ≡ asked old.restarts → due ≡ is_due old.restarts → OffersNothing s w → w.held ≡ s.held → w.looks ≡ s.looks → HasAsked s w old (asked_ring old r due)
asked_then s w old r due restarts import_due nothing held looks = record {
  learned = refl;
  restarts = restarts;
  import_due = import_due;
  offers = record { exported = refl; offered = refl; place = refl };
  active = refl;
  nothing = nothing;
  held = held;
  looks = looks;
}

-- the call was refused
pub finished_refused : (s w : PortState) (old new : Ring) (lits : List Literal) (back : ℕ) (address : Option Cref) (stop : PortStop) (end : End) → end ≡ end_refused stop → EndsAt s w (end_refused stop) → TidiedSome s w stop → HasAsked s w old new → HasFinished s w old new lits back address (Finish end)
finished_refused s w old new lits back address stop end is over some a = record {
  asked_for = a;
  leaves = (subst (EndsAt s w) (sym is) over, subst IsRefusal (sym is) (refused_refusal stop), inl (stop, some, is));
}

-- the call that leaves the conflict changes neither the port nor what was asked
pub record KeepsAsked (old new : Ring) : Type 0 where
  pub learned : new.learned ≡ old.learned
  pub restarts : new.restarts ≡ old.restarts
  pub import_due : new.import_due ≡ old.import_due
  pub active : new.decider.active ≡ old.decider.active
  pub offers : AreSameOffers old new

asked_kept : (s w u : PortState) (old between new : Ring) → u ≡ w → KeepsAsked between new → HasAsked s w old between → HasAsked s u old new
asked_kept s w u old between new same k a = subst (λ (x : PortState). HasAsked s x old new) (sym same) (record {
  learned = k.learned ∙ a.learned;
  restarts = k.restarts ∙ a.restarts;
  import_due = k.import_due ∙ a.import_due;
  offers = record { exported = k.offers.exported ∙ a.offers.exported; offered = k.offers.offered ∙ a.offers.offered; place = k.offers.place ∙ a.offers.place };
  active = k.active ∙ a.active;
  nothing = a.nothing;
  held = a.held;
  looks = a.looks;
})

module _ (s w u : PortState) (old : Ring) (r : Restarting) (due : Bool) (new : Ring) (lits : List Literal) (back : ℕ) (address : Option Cref) (same : u ≡ w) (k : KeepsAsked (asked_ring old r due) new) (a : HasAsked s w old (asked_ring old r due)) (keeps : KeepsOn s w) where
  -- there was no memory
  pub finished_memory : TidiedUpTo s w (length s.waiting) → HasFinished s u old new lits back address (Finish Memory)
  finished_memory tidied = record {
    asked_for = asked_kept s w u old (asked_ring old r due) new same k a;
    leaves = (subst (λ (x : PortState). EndsAt s x Memory) (sym same) (λ count start p. out_of_memory start w count (keeps start count p)), tt, subst (λ (x : PortState). HaltsDeleting s x Memory) (sym same) (inr (tidied, refl)));
  }

  -- the conflict was left
  pub finished_on : OnlyWrote s w → w.seen ≡ s.seen → w.waiting ≡ [] → TidiedUpTo s w (length s.waiting) → HasLeft w (asked_ring old r due) new lits back address → HasFinished s u old new lits back address Go
  finished_on wrote seen waiting tidied left = record {
    asked_for = asked_kept s w u old (asked_ring old r due) new same k a;
    leaves = subst (λ (x : PortState). HasLeftTidy s x old new lits back address) (sym same) (record {
      keeps = keeps;
      wrote = wrote;
      seen = seen;
      waiting = waiting;
      tidied = tidied;
      left = left_alike w (asked_ring old r due) (record old { import_due = new.import_due }) new lits back address
          (record { import_due = sym k.import_due; trail = refl; watches = refl; lemmas = refl; imports = refl; last_start = refl; reductions = refl; reduced_at = refl; next_probe = refl; written = refl; decider = refl }) left;
    });
  }
