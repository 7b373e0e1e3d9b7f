-- Rounds went by, and the ruler goes on with what they left: the rings rest then, whatever it comes to.
use Rattle.std.proofs.Common.{Less, ◌≡◌, ◌∙◌, ◌<◌, ◌≤◌, ◌^◌, ℕ, zero, suc, true, List, [], ◌∷◌, ◌++◌, All, Contains, Ok, None, append-nil, append_assoc, refl, sym, ap, subst, inl, inr, arith}
use Rattle.std.specs.List.{AllByRecursion}
use Rattle.std.specs.List.Sorted.{IsStrictlySortedBy}
use Rattle.std.specs.Ordering.{nat_cmp}
use Rattle.sat_words.specs.Literal.{IsOn}
use Rattle.sat_words.specs.Formats.{has_hints}
use Rattle.sat_words.specs.FormulaData.{FormulaData}
use Rattle.rup_model.specs.declared.journal.Round.{Round as RoundStart}
use Rattle.rup_model.specs.declared.journal.Entry.{Entry}
use Rattle.rup_model.specs.declared.journal.Entry.TheVariants.{Round}
use Rattle.rup_model.specs.Journal.{added, LogSound}
use Rattle.rup_model.specs.NumberedLines.{AreHinted}
use Rattle.model_stack.specs.declared.stack.Fix.{Fix}
use Rattle.simp_base.specs.WorkState.{begun as begun_work}
use Rattle.simp_base.specs.declared.work.Run.TheVariants.{Done}
use Rattle.ruler_simp.specs.Rounds.{SimplifiedTo}
use Rattle.core_rounds.specs.Rounds.{RoundRun, written_in, start_for}
use Rattle.core_rounds.specs.InRounds.{learned_by}
use Rattle.core_rounds.proofs.Learned.{rulers_more}
use Rattle.core_rounds.proofs.OneRound.{journal_is}
use Rattle.ring_run.specs.declared.job.Counts.{Counts}
use Rattle.portfolio_run.specs.declared.plan.Plan.{Plan}
use Rattle.portfolio_run.specs.Pauses.{StandsInRounds, HasBegun}
use Rattle.portfolio_run.specs.Ruled.{schedule_of, IsRuled, IsRuledThrough}
use Rattle.portfolio_run.specs.Rulings.{Ruling, deletions, AreDropped, IsLastRuling}
use Rattle.portfolio_run.proofs.InRounds.{rulers_stand}
use Rattle.portfolio_run.proofs.Passed.{HavePassed}
use Rattle.portfolio_run.proofs.Resting.{IsResting}
use Rattle.portfolio_run.proofs.Rulers.{AreRulers, front_stays}
use Rattle.portfolio_run.proofs.Spelling.{wider}
use Rattle.rup_model.specs.Opening.{ruler_part}

-- Deletions

pub deletions_rulers : (ns : List ℕ) → AreRulers (deletions ns)
deletions_rulers [] k d lt = absurd (omega arith)
deletions_rulers (n ∷ ns) zero d lt = refl
deletions_rulers (n ∷ ns) (suc k) d lt = deletions_rulers ns k d (omega arith)

-- they add nothing
pub deletions_add : (ns : List ℕ) → added (deletions ns) ≡ []
deletions_add [] = refl
deletions_add (n ∷ ns) = deletions_add ns

-- A front of what was deleted

front_each : (P : ℕ → Type 0) (xs ys : List ℕ) → AllByRecursion P (xs ++ ys) → AllByRecursion P xs
front_each P [] ys all = tt
front_each P (x ∷ xs) ys all = (all.0, front_each P xs ys all.1)

pub front_sorted : (xs ys : List ℕ) → IsStrictlySortedBy nat_cmp (xs ++ ys) → IsStrictlySortedBy nat_cmp xs
unfolding IsStrictlySortedBy
front_sorted [] ys up = tt
front_sorted (x ∷ xs) ys up = (front_each (λ y. nat_cmp x y ≡ Less) xs ys up.0, front_sorted xs ys up.1)

front_All : {X : Type 0} (P : X → Type 0) (xs ys : List X) → All P (xs ++ ys) → All P xs
front_All P [] ys all k d lt = absurd (omega arith)
front_All P (x ∷ xs) ys all zero d lt = all 0 d (omega arith)
front_All P (x ∷ xs) ys all (suc k) d lt = front_All P xs ys (λ j e less. all (suc j) e (omega arith)) k d (omega arith)

pub dropped_front : (x : RoundRun) (ns ms : List ℕ) → AreDropped x (ns ++ ms) → AreDropped x ns
dropped_front x ns ms h = record { own = front_All (λ (n : ℕ). Contains (start_for x.opening).starts n → ⊥) ns ms h.own; ascending = front_sorted ns ms h.ascending }

pub dropped_none : (x : RoundRun) → AreDropped x []
unfolding IsStrictlySortedBy
dropped_none x = record { own = λ k d lt. absurd (omega arith); ascending = tt }

-- What the rounds left

module _ (plan : Plan) (F : FormulaData) (vars : ℕ) (stack : List Fix) (tally : List Counts) (done : ℕ) (x : RoundRun) (xs : List RoundRun) (J : List Entry) (h : HavePassed plan F vars stack tally done x xs J) (more : done < plan.conflicts) where
  -- what the ruler wrote before the first round stays at the front
  pub front_same : (written : List Entry) → ruler_part (J ++ written) ≡ ruler_part J
  front_same written =
      let before : List Entry = h.rounds.0 ++ h.rounds.1 in
      let begins : RoundStart = start_for x.opening in
      let K : List Entry = written_in x in
      let parts : J ≡ (before ++ Round begins ∷ []) ++ K = h.rounds.6 ∙ journal_is h.rounds.5 ∙ sym (append_assoc before (Round begins ∷ []) K) in
      ap (λ (I : List Entry). ruler_part (I ++ written)) parts
      ∙ ap ruler_part (append_assoc (before ++ Round begins ∷ []) K written)
      ∙ front_stays before begins (K ++ written)
      ∙ sym (front_stays before begins K) ∙ ap ruler_part (sym parts)

  -- so the run of the ruler before it is known
  abbrev pub began : (written : List Entry) → HasBegun F (schedule_of plan) (J ++ written)
  began written = record {
    output = h.first.output;
    unspent = h.first.unspent;
    none = h.first.none;
    last = h.first.last;
    work = h.first.work;
    ran = subst (SimplifiedTo (schedule_of plan) (begun_work F h.first.output) h.first.work (Ok Done)) (sym (front_same written)) h.first.ran;
  }

  abbrev pub ruled : (written : List Entry) → IsRuled F (schedule_of plan) (J ++ written)
  ruled written = record {
    output = h.first.output;
    unspent = h.first.unspent;
    none = h.first.none;
    last = h.first.last;
    work = h.first.work;
    result = Ok Done;
    ran = subst (SimplifiedTo (schedule_of plan) (begun_work F h.first.output) h.first.work (Ok Done)) (sym (front_same written)) h.first.ran;
    alone = λ other. absurd (other refl);
  }

  pub through : (written : List Entry) → IsRuledThrough F (schedule_of plan) (J ++ written)
  through written = record { ruled = ruled written; through = λ why e. cc e }

  stood_wide : (wide : ℕ) → vars ≤ wide → StandsInRounds wide plan.threads F.clauses J
  stood_wide wide le = record {
    on = wider vars wide le (added J) h.stood.on;
    of_rounds = h.stood.of_rounds;
    plain = h.stood.plain;
    begins = h.stood.begins;
    each_new = h.stood.each_new;
    spaced = h.stood.spaced;
  }

  -- the ruler learns nothing
  learned_still : (written : List Entry) → AreRulers written → learned_by plan.threads (J ++ written) ≡ done
  learned_still written rulers = rulers_more plan.threads J written rulers ∙ sym h.done_is

  -- the ruler went on
  module _ (wide : ℕ) (more_vars : vars ≤ wide) (few : wide ≤ 2 ^ 30) (written : List Entry) (rulers : AreRulers written) (on : All (All (IsOn wide)) (added written)) where
    pub stood_on : StandsInRounds wide plan.threads F.clauses (J ++ written)
    stood_on = rulers_stand wide plan.threads F.clauses J written (stood_wide wide more_vars) rulers on

    formula_on : All (All (IsOn wide)) F.clauses
    formula_on = let first = h.more in wider F.vars wide (omega (arith, first, more_vars)) F.clauses h.on

    pub rests : LogSound F.clauses (J ++ written) → (has_hints plan.format ≡ true → AreHinted F.clauses (J ++ written)) → (rulings : List Ruling) → IsLastRuling F.clauses (schedule_of plan) h.first.work x xs written None rulings → IsResting plan F tally None (J ++ written)
    rests sound hinted rulings last =
        let same = learned_still written rulers in
        record {
          some_ring = h.some_ring;
          runs = x ∷ xs;
          past = J;
          written = written;
          rounds = h.rounds;
          due = (h.spent, subst (λ (n : ℕ). n < plan.conflicts) h.done_is more);
          rulers = rulers;
          journal_is = sym (append-nil (J ++ written));
          within = omega (arith, same, more);
          never = inr (omega (arith, same, more));
          counts = h.counts;
          tallied = h.tallied;
          tally_is = inl h.tally_is;
          ruled = ruled written;
          rulings = rulings;
          again = last;
          vars = wide;
          few = few;
          on = formula_on;
          stood = stood_on;
          sound = sound;
          hinted = hinted;
        }

  -- the rings rest as they left it
  pub rests_still : IsResting plan F tally None J
  rests_still =
      subst (IsResting plan F tally None) (append-nil J)
      (rests vars (omega arith) h.few [] (λ k d lt. absurd (omega arith)) (λ k d lt. absurd (omega arith)) (subst (LogSound F.clauses) (sym (append-nil J)) h.sound) (λ q. subst (AreHinted F.clauses) (sym (append-nil J)) (h.hinted q)) h.rulings (inl ([], dropped_none x, refl, refl, h.ruled)))

  pub through_still : IsRuledThrough F (schedule_of plan) J
  through_still = subst (IsRuledThrough F (schedule_of plan)) (append-nil J) (through [])
