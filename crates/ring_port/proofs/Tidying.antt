-- Deletions of clauses that wait, one after another.
use Rattle.std.proofs.Common.{◌≡◌, ℕ, zero, suc, ◌+◌, List, [], ◌∷◌, ◌++◌, take, drop, sym, refl, ap, subst, ◌∙◌, arith, append_assoc, append-nil, Option, Some, None}
use Rattle.std.specs.Prelude.{Err}
use Rattle.std.specs.Option.{option_map}
use Rattle.std.proofs.lemmas.List.{map-append}
use Rattle.rup_model.specs.declared.journal.Entry.TheVariants.{Del}
use Rattle.io_edge.specs.Causes.{Rose}
use Rattle.drat_text.specs.LineState.{LineState}
use Rattle.ring_port.specs.declared.stops.PortStop.{PortStop}
use Rattle.ring_port.specs.declared.stops.PortStop.TheVariants.{Ended, Broken, ProofFault, NoHole, Memory}
use Rattle.ring_port.specs.PortState.{Holding, PortState}
use Rattle.ring_port.specs.Port.{Refused, after_refusal}
use Rattle.ring_port.specs.PlainPort.{faults_of, HasFailedSince, FaultRose, HasNoRoom, HasCauseAlone, HasTidyCause}
use Rattle.ring_port.specs.Deleting.{deletions, TidiedUpTo}

drop_more : (hs : List Holding) (k : ℕ) → drop 1 (drop k hs) ≡ drop (suc k) hs
drop_more [] zero = refl
drop_more [] (suc k) = refl
drop_more (h ∷ hs) zero = refl
drop_more (h ∷ hs) (suc k) = drop_more hs k

take_more : (hs : List Holding) (k : ℕ) → take k hs ++ take 1 (drop k hs) ≡ take (suc k) hs
take_more [] zero = refl
take_more [] (suc k) = refl
take_more (h ∷ hs) zero = refl
take_more (h ∷ hs) (suc k) = ap (λ ks. h ∷ ks) (take_more hs k)

pub tidied_none : (s : PortState) → TidiedUpTo s s 0
tidied_none s = record { going = λ lt. absurd (omega arith); state = λ i. record s { mine = sym (append-nil s.mine) i } }

-- one more
pub tidied_more : (old mid new : PortState) (k : ℕ) → TidiedUpTo old mid k → TidiedUpTo mid new 1 → TidiedUpTo old new (k + 1)
tidied_more old mid new k first next = record {
  going = λ some. (sym (ap (λ (s : PortState). s.ended) first.state) ∙ next.going (omega arith));
  state =
      next.state
      ∙ ap (λ (s : PortState). record s { waiting = drop 1 s.waiting; mine = s.mine ++ deletions s.ring (take 1 s.waiting); output = new.output }) first.state
      ∙ (λ i. record old { waiting = waiting i; mine = mine i; output = new.output });
}
  where
    suc_is : suc k ≡ k + 1
    suc_is = omega arith

    waiting : drop 1 (drop k old.waiting) ≡ drop (k + 1) old.waiting
    waiting = drop_more old.waiting k ∙ ap (λ n. drop n old.waiting) suc_is

    mine : (old.mine ++ deletions old.ring (take k old.waiting)) ++ deletions old.ring (take 1 (drop k old.waiting)) ≡ old.mine ++ deletions old.ring (take (k + 1) old.waiting)
    mine =
        append_assoc old.mine (deletions old.ring (take k old.waiting)) (deletions old.ring (take 1 (drop k old.waiting)))
        ∙ ap (λ es. old.mine ++ es)
        (sym (map-append (λ (h : Holding). Del old.ring h.number) (take k old.waiting) (take 1 (drop k old.waiting)))
        ∙ ap (deletions old.ring) (take_more old.waiting k ∙ ap (λ n. take n old.waiting) suc_is))

-- The cause of a refusal

-- where the output has failed once more
failed_since : (a b c : Option LineState) → option_map (λ (x : LineState). x.faults) b ≡ option_map (λ (x : LineState). x.faults) a → FaultRose b c → HasFailedSince a c
failed_since a None c e h = absurd h
failed_since a (Some y) None e h = absurd h
failed_since None (Some y) (Some z) e h = absurd (cc e)
failed_since (Some x) (Some y) (Some z) e h = let same : y.faults ≡ x.faults = cc e in subst (λ (n : ℕ). Rose n z.faults) same h.0

-- it is that of the deletion that was refused
pub tidy_cause : (old mid new : PortState) (k : ℕ) (stop : PortStop) → TidiedUpTo old mid k → faults_of mid ≡ faults_of old → Refused mid new stop → HasCauseAlone {T = Unit {0}} mid new (Err stop) → HasTidyCause old new (Err stop)
tidy_cause old mid new k stop first same r cause = by stop r.state cause
  where
    by : (x : PortStop) → new ≡ after_refusal mid new.output x → HasCauseAlone {T = Unit {0}} mid new (Err x) → HasTidyCause old new (Err x)
    by Ended is h = (sym (ap (λ (s : PortState). s.ended) first.state) ∙ h, ap faults_of is ∙ same)
    by Broken is h = absurd h
    by ProofFault is h = failed_since old.output mid.output new.output same h
    by (NoHole lack) is h = (subst HasNoRoom (sym (ap (λ (s : PortState). s.output) is)) h.0, h.1, h.2, ap faults_of is ∙ same)
    by Memory is h = ap faults_of is ∙ same
