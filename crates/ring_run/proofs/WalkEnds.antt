-- A model that a walk found, and a search that goes on with it.
use Rattle.std.proofs.Common.{◌≡◌, ◌∙◌, Bool, true, List, get_or, Option, Some, None, IfSome, sym, subst, refl, inl, inr}
use Rattle.std.specs.List.{Contains}
use Rattle.std.proofs.lemmas.List.{get_or_default}
use Rattle.sat_words.specs.Literal.{Literal}
use Rattle.sat_words.specs.Clause.{has}
use Rattle.sat_words.specs.Truth.{lit_true}
use Rattle.rup_model.proofs.Lists.{In_get_or, In_has}
use Rattle.ring_port.specs.PortState.{PortState, Holding, lits_at}
use Rattle.ring_trail.specs.TrailData.{IsTrueOn}
use Rattle.ring_trail.specs.Closed.{TrueWithin}
use Rattle.watch_prop.specs.Propagation.{IsQuiet}
use Rattle.ring_run.specs.Ended.{IsModelOf}
use Rattle.ring_run.specs.Searching.{AreFirst}
use Rattle.ring_run.specs.Ending.{EndsBy}
use Rattle.ring_run.specs.Course.{InSearch, Leads}
use Rattle.ring_run.specs.Walked.{IsStartModel, Agrees, IsFound, EndsFound}
use Rattle.ring_run.specs.declared.ring.Ring.{Ring}
use Rattle.ring_run.specs.declared.job.End.TheVariants.{Sat}
use Rattle.ring_run.specs.declared.course.Next.{Next}
use Rattle.ring_run.proofs.Tickets.{drawn_none}
use Rattle.ring_run.proofs.Progress.{usable_none, out_of_memory}
use Rattle.ring_run.proofs.Telling.{told_model}

walked_model : (s : PortState) (ring : Ring) (a : List Bool) → InSearch s ring → IsStartModel s a → Agrees ring.trail a → IsModelOf s a
walked_model s ring a p model agrees = record {
  long = model.long;
  start = λ k d lt. model.clauses (get_or s.start k d) (k, lt, get_or_default s.start k (get_or s.start k d) d lt);
  opening = λ k d lt. of_seen (get_or s.opening k d) (p.opening (get_or s.opening k d) (In_has s.opening (get_or s.opening k d) (In_get_or s.opening k d lt)));
  seen = λ k d lt. of_seen (get_or s.seen k d) (In_has s.seen (get_or s.seen k d) (In_get_or s.seen k d lt));
}
  where
    within : (l : Literal) → TrueWithin ring.trail.steps 0 l → IsTrueOn ring.trail.steps l
    within l w = record { place = w.place; before = w.in_range; true_there = w.true_there }

    of_seen : (l : Literal) → has s.seen l ≡ true → lit_true a l ≡ true
    of_seen l h = agrees.true_there l (within l (p.stands.seen l h))

pub walked_found : (s : PortState) (ring : Ring) (a : List Bool) → InSearch s ring → IsQuiet ring.watches (lits_at s) ring.trail → AreFirst ring.trail ring.written → IsStartModel s a → Agrees ring.trail a → EndsBy s ring.learned s ring.learned (Sat a)
walked_found s ring a p quiet first model agrees = λ start goes. record {
  runs = goes.runs;
  cause = (walked_model s ring a p model agrees, usable_none s goes.refused, told_model s ring.trail ring.watches ring.written p quiet first, goes.going);
  unset = goes.stop;
  tickets = (goes.draws.none, goes.draws.left);
  drawn = drawn_none s ring.learned goes.draws;
}

pub same_some : {X : Type 0} (o : Option X) (a b : X) → o ≡ Some a → o ≡ Some b → a ≡ b
same_some o a b e f = cc

-- the end with the model that was found, or without memory for it
pub found_leads : (s : PortState) (ring : Ring) (model : Option (List Bool)) (course : Next) → InSearch s ring → IsQuiet ring.watches (lits_at s) ring.trail → AreFirst ring.trail ring.written → IsFound s model
    → (a : List Bool) → model ≡ Some a → Agrees ring.trail a → EndsFound model course → Leads s ring s ring course
found_leads s ring model course p quiet first found a is agrees (inl e) = subst (Leads s ring s ring) (sym e) (λ start goes. out_of_memory start s ring.learned goes)
found_leads s ring model course p quiet first found a is agrees (inr f) =
    subst (Leads s ring s ring) (sym f.2)
    (walked_found s ring f.0 p quiet first (found f.0 f.1) (subst (Agrees ring.trail) (same_some model a f.0 is f.1) agrees))

-- for each model there may be
pub if_some : {X : Type 0} (o : Option X) (P : X → Type 0) → ((x : X) → o ≡ Some x → P x) → IfSome o P
if_some None P f = tt
if_some (Some x) P f = f x refl

-- a port that keeps its start clauses
pub model_by : (s u : PortState) (a : List Bool) → u.start ≡ s.start → u.vars ≡ s.vars → IsStartModel s a → IsStartModel u a
model_by s u a start vars m = record {
  long = m.long ∙ sym vars;
  clauses = λ h there. m.clauses h (subst (λ (hs : List Holding). Contains hs h) start there);
}

pub found_by : (s u : PortState) (model : Option (List Bool)) → u.start ≡ s.start → u.vars ≡ s.vars → IsFound s model → IsFound u model
found_by s u model start vars found a is = model_by s u a start vars (found a is)
