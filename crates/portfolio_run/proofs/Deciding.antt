-- The answer of the end that counts holds over the journal of all rings.
use Rattle.sat_words.specs.Formats.{has_hints}
use Rattle.std.proofs.Common.{◌≡◌, ◌∙◌, ◌+◌, ◌-◌, ◌<◌, ◌≤◌, ℕ, Bool, true, false, List, [], ◌∷◌, ◌++◌, map, length, get_or, append-nil, refl, sym, ap, subst, arith, inl, inr, eq-eqb}
use Rattle.std.specs.Prelude.{◌≢◌, ◌⊎◌, All, Some, None, Option, if◌then◌else◌}
use Rattle.std.specs.Option.{option_map}
use Rattle.std.proofs.lemmas.List.{get_or-map, length-map}
use Rattle.std.specs.List.{list_any}
use Rattle.sat_words.specs.Literal.{Literal}
use Rattle.sat_words.specs.Clause.{is_empty}
use Rattle.sat_words.specs.FormulaData.{FormulaData}
use Rattle.sat_words.specs.declared.shared.NoRoom.{NoRoom}
use Rattle.sat_words.specs.declared.shared.TheConstants.{STOP_SAT, STOP_PROOF, STOP_MEMORY}
use Rattle.rup_model.specs.declared.journal.Round.{Round as RoundStart}
use Rattle.rup_model.specs.declared.journal.Entry.{Entry}
use Rattle.rup_model.specs.Basics.{below}
use Rattle.rup_model.specs.Journal.{added, ended, learned}
use Rattle.rup_model.specs.Windows.{opening_by}
use Rattle.share_core.specs.declared.part.CoreOpening.{CoreOpening}
use Rattle.share_core.specs.declared.part.Placed.{Placed}
use Rattle.share_core.specs.State.{State}
use Rattle.share_core.specs.declared.event.Stop.{Stop}
use Rattle.share_core.specs.Sound.{Sound}
use Rattle.share_core.proofs.Leaving.{left_sound}
use Rattle.share_core.proofs.Tickets.{all_used, few_used}
use Rattle.share_core.proofs.Counting.{none_some, some_same}
use Rattle.core_rounds.specs.Rounds.{KeepsStarts, IsSpent, written_in}
use Rattle.core_rounds.specs.InRounds.{learned_by}
use Rattle.core_rounds.proofs.AllRounds.{rounds_due, rounds_spent}
use Rattle.core_rounds.proofs.Learned.{limit_left}
use Rattle.rup_model.proofs.Sums.{below_same, below_at, below_none}
use Rattle.share_rule.specs.declared.Layout.{Layout}
use Rattle.share_rule.specs.declared.view.BookOrigin.{BookOrigin}
use Rattle.share_rule.specs.declared.view.View.{View}
use Rattle.share_rule.specs.FirstWords.{starts_at, begun_with}
use Rattle.share_rule.specs.Layout.{first_cell}
use Rattle.share_rule.specs.Passes.{TellsFaults}
use Rattle.share_rule.specs.Seen.{Seen}
use Rattle.share_rule.specs.Tight.{IsTight}
use Rattle.share_rule.specs.Views.{first_view, start_glues, own_stop}
use Rattle.ring_port.specs.declared.stops.PortStop.TheVariants.{NoHole as NoHoleAnswer}
use Rattle.ring_port.specs.Port.{is_usable}
use Rattle.ring_port.specs.PortState.{PortState}
use Rattle.ring_run.specs.declared.job.Counts.{Counts}
use Rattle.ring_run.specs.declared.job.End.{End}
use Rattle.ring_run.specs.declared.job.End.TheVariants as end
use Rattle.ring_run.specs.Ended.{IsIntact, Cause, stop_kind}
use Rattle.ruler_simp.specs.declared.ruling.Simplified.{Simplified}
use Rattle.ruler_simp.specs.Again.{round_start, before_round}
use Rattle.portfolio_run.specs.declared.answer.Answer.{Answer}
use Rattle.portfolio_run.specs.declared.answer.Answer.TheVariants.{Unknown, ProofFault, Memory}
use Rattle.portfolio_run.specs.declared.plan.Plan.{Plan}
use Rattle.portfolio_run.specs.Ends.{set_of}
use Rattle.portfolio_run.specs.Held.{IsTallied, IsRoundTallied, AreTallied, RestsBetween, RanWithin, IsHeld, HasStop, NeverGone, IsRunning, no_counts, add_tallies}
use Rattle.portfolio_run.specs.Journaled.{IsJournal, IsUnrefuted}
use Rattle.portfolio_run.specs.Pauses.{Pause, IsPaused, IsSmall}
use Rattle.portfolio_run.specs.Reached.{RanAt}
use Rattle.portfolio_run.specs.Room.{layout_of, laid_out}
use Rattle.portfolio_run.specs.Ruled.{schedule_of, IsRuledThrough}
use Rattle.portfolio_run.specs.Rulings.{Ruling, HasRuledBetween, work_after}
use Rattle.portfolio_run.specs.Searched.{answer_of, AllSpent, WasWon}
use Rattle.portfolio_run.specs.Solved.{Holds, IsUnsettled, kind_of}
use Rattle.portfolio_run.proofs.Gathered.{GoesOn, began_with, journal_at, begun_then, through_then}
use Rattle.portfolio_run.proofs.InRounds.{HasWritten, IsAlike}
use Rattle.portfolio_run.proofs.Interleaving.{own, none_of, learned_own}
use Rattle.portfolio_run.proofs.Keeping.{starts_kept}
use Rattle.portfolio_run.proofs.Mending.{alike, model, placed_numbered}
use Rattle.portfolio_run.proofs.Opens.{begins_well, went_on, still_due}
use Rattle.portfolio_run.proofs.Passed.{HavePassed}
use Rattle.portfolio_run.proofs.Placing.{placed_own}
use Rattle.portfolio_run.proofs.RingsJournal.{AreTogether, stands, journal_stands, unrefuted as together_unrefuted, learned_all, unsettled, refutation}
use Rattle.portfolio_run.proofs.RoundOver.{run, left_is, core_journal, written_is, rings_there, limit_there, learned_then, rounds, ruled_over}
use Rattle.portfolio_run.proofs.RingsRun.{starts_from, port, has_written, tallied, ended_is, cause, wanted, faulty, gone, never_gone, unrefuted, calm}
use Rattle.portfolio_run.proofs.Spelling.{wider}
use Rattle.portfolio_run.proofs.Summing.{added_many, all_small, small_of}

-- the answer holds over this journal, whose first part the ruler wrote; the first of these says what is so if it is a fault of the
-- proof, the second what is so of a lone ring at each other answer
pub record IsDecided (plan : Plan) (F : FormulaData) (answer : Answer) (tally : List Counts) (Failed Calm : Type 0) (J : List Entry) : Type 0 where
  pub stands : IsJournal plan.threads (has_hints plan.format) F.clauses J
  pub ruled : IsRuledThrough F (schedule_of plan) J
  pub held : IsHeld plan.threads plan.slots plan.round plan.conflicts F.clauses J tally
  pub rulings : List Ruling
  pub again : HasRuledBetween (schedule_of plan) ruled.ruled.work held rulings
  pub running : IsRunning held
  pub stop : HasStop held (kind_of answer)
  pub holds : Holds plan (work_after ruled.ruled.work rulings).vars F J held answer
  pub rose : answer ≡ ProofFault → Failed
  pub calm : plan.threads ≡ 1 → kind_of answer ≢ Some STOP_PROOF → Calm

module _ (p : Pause) (was : IsPaused p) (limit : ℕ) (l : Layout) (origin : BookOrigin) (K : List Entry) (w : View) (s : Seen w) (g : GoesOn p was limit l K w s) where
  abbrev plan : Plan
  plan = p.plan

  abbrev F : FormulaData
  F = p.formula

  abbrev left : Simplified
  left = p.left

  -- what the round begins with
  abbrev beginning : RoundStart
  beginning = round_start left

  abbrev J0 : List Entry
  J0 = journal_at p was

  abbrev J : List Entry
  J = before_round J0 left ++ K

  -- the formula, on the variables that are left
  abbrev wide : FormulaData
  wide = record { vars = left.vars; clauses = F.clauses }

  -- the variables of the table
  abbrev vars : ℕ
  vars = (work_after was.first.work was.rulings).vars

  -- the table as it was opened
  abbrev v : View
  v = first_view l (began_with F l (has_hints plan.format) J0 left) origin

  alike_there : IsAlike (starts_from v) (opening_by F.clauses (before_round J0 left) (Some beginning))
  alike_there = alike F J0 left was.is_left (start_glues (starts_at (first_cell l) left.start.items)) (first_cell l)

  together : ((r : ℕ) → r < plan.threads → HasWritten left.vars (starts_from v) r (own r K)) → AreTogether wide J0 beginning K plan.threads (starts_from v)
  together each = record {
    few = was.few;
    on = wider F.vars left.vars was.more F.clauses g.on;
    few_rings = g.few_rings;
    stood = was.stood;
    begins = begins_well F J0 left was.is_left was.sound;
    going = was.is_left.going;
    sound = g.sound;
    of_rings = g.of_rings;
    same = alike_there;
    each = each;
  }

  -- No ring wrote anything

  nothing_written : (r : ℕ) → own r K ≡ [] → HasWritten left.vars (starts_from v) r (own r K)
  nothing_written r none = subst (HasWritten left.vars (starts_from v) r) (sym none) (record { wrote = λ k d lt. absurd (omega arith); each_new = tt; spaced = tt })

  -- all that was learned was so before the round
  learned_before : K ≡ [] → learned_by plan.threads J ≡ p.done
  learned_before no_more =
      let all = learned_then p was limit l K w s g in
      let none : learned_by plan.threads K ≡ 0 = ap (learned_by plan.threads) no_more ∙ below_none plan.threads (λ r. 0) (λ r lt. refl) in
      omega (arith, all, none)

  -- the rings rest, after the round has begun
  rested : (tally : List Counts) → tally ≡ p.tally → K ≡ [] → RestsBetween plan.threads plan.slots plan.round plan.conflicts F.clauses J tally
  rested tally same no_more = record {
    runs = was.runs;
    left = was.past;
    rounds = was.rounds;
    due = was.due;
    written = was.mine;
    rulers = was.rulers;
    begun = Some beginning;
    journal_is = ap (λ (es : List Entry). before_round J0 left ++ es) no_more ∙ append-nil (before_round J0 left);
    within = (let learns = learned_before no_more in let few = was.within in omega (arith, learns, few));
    counts = was.counts;
    tallied = was.tallied;
    tally_is = inl (same ∙ was.tally_is);
  }

  pub starved : (Failed Calm : Type 0) → (plan.threads ≡ 1 → Calm) → (tally : List Counts) → tally ≡ p.tally → ((r : ℕ) → r < plan.threads → (s.core.part r).wrote ≡ []) → IsDecided plan F Memory tally Failed Calm s.core.journal
  unfolding rested
  starved Failed Calm calm tally same idle =
      let own_none : (r : ℕ) → r < plan.threads → own r K ≡ [] = λ r lt. sym (placed_own r (length s.core.opening.journal) K) ∙ ap (map (λ (e : Placed). e.entry)) (sym (g.wrote r lt) ∙ idle r lt) in
      let t : AreTogether wide J0 beginning K plan.threads (starts_from v) = together (λ r lt. nothing_written r (own_none r lt)) in
      let o = starts_from v in
      let threads = plan.threads in
      let some_ring : 0 < plan.threads = let h = g.some_ring in omega (arith, h) in
      let none_there : own 0 K ≡ [] = own_none 0 some_ring in
      let none_more : K ≡ [] = none_of plan.threads K g.of_rings own_none in
      let held : IsHeld plan.threads plan.slots plan.round plan.conflicts F.clauses J tally = inl (rested tally same none_more) in
      let never : (was.runs ≡ []) ⊎ (learned_by plan.threads J < plan.conflicts) = subst (λ (n : ℕ). (was.runs ≡ []) ⊎ (n < plan.conflicts)) (sym was.done_is ∙ sym (learned_before none_more)) (still_due plan.threads plan.conflicts was.runs was.past was.due) in
      subst (IsDecided plan F Memory tally Failed Calm) (sym g.journal_is) (record {
        stands = journal_stands wide J0 beginning K threads o t (has_hints plan.format) g.hinted;
        ruled = through_then p was K;
        held = held;
        rulings = was.rulings;
        again = went_on F.clauses (schedule_of plan) was.first.work was.runs was.mine (Some beginning) was.rulings was.again;
        running = λ e. cc e;
        stop = (λ e. absurd (let k = some_same STOP_MEMORY STOP_SAT e in omega arith), λ e. none_some STOP_MEMORY (sym e));
        holds = unsettled wide J0 beginning K threads o t plan.slots plan.round plan.conflicts tally held 0 some_ring never (ap (λ (I : List Entry). list_any is_empty (added I)) none_there);
        rose = λ e. cc e;
        calm = λ one ne. calm one;
      })

  -- All rings ran

  module _ (home : List ℕ) (ends : List (End × Counts)) (many : length ends ≡ plan.threads)
      (ran : (i : ℕ) (d : End × Counts) → i < length ends → RanAt v home plan w i (get_or ends i d).0 (get_or ends i d).1)
      (counts : List Counts) (counts_are : counts ≡ map (λ e. e.1) ends) where
    none_ended : End × Counts
    none_ended = (end.Spent, no_counts)

    abbrev end_at : ℕ → End
    end_at r = (get_or ends r none_ended).0

    abbrev counts_at : ℕ → Counts
    counts_at r = (get_or ends r none_ended).1

    abbrev start : ℕ
    start = length s.core.opening.journal

    among : (r : ℕ) → r < plan.threads → r < length ends
    among r lt = omega (arith, many)

    ran_at : (r : ℕ) → r < plan.threads → RanAt v home plan w r (end_at r) (counts_at r)
    ran_at r lt = ran r none_ended (among r lt)

    abbrev port_at : (r : ℕ) → r < plan.threads → PortState
    port_at r lt = port v w home plan s r (end_at r) (counts_at r) (ran_at r lt) plan.threads g.rings_are lt K start (g.wrote r lt)

    cause_at : (r : ℕ) (lt : r < plan.threads) → Cause (port_at r lt) (end_at r)
    cause_at r lt = cause v w home plan s r (end_at r) (counts_at r) (ran_at r lt) plan.threads g.rings_are lt K start (g.wrote r lt)

    unrefuted_at : (r : ℕ) (lt : r < plan.threads) → list_any is_empty (added (port_at r lt).mine) ≡ false → IsUnrefuted (own r K)
    unrefuted_at r lt = unrefuted v w home plan s r (end_at r) (counts_at r) (ran_at r lt) plan.threads g.rings_are lt K start (g.wrote r lt)

    written_at : (r : ℕ) → r < plan.threads → HasWritten left.vars (starts_from v) r (own r K)
    written_at r lt =
        subst (λ (n : ℕ). HasWritten n (starts_from v) r (own r K)) g.vars_are
        (has_written v w home plan s r (end_at r) (counts_at r) (ran_at r lt) plan.threads g.rings_are lt K start (g.wrote r lt))

    t : AreTogether wide J0 beginning K plan.threads (starts_from v)
    t = together written_at

    tallied_at : (r : ℕ) (d : Counts) → r < plan.threads → IsTallied plan.threads r s.left.events (written_in (run s)) (get_or counts r d)
    tallied_at r d lt =
        subst (λ (es : List Entry). IsTallied plan.threads r s.left.events es (get_or counts r d)) (sym (written_is p was limit l K w s g))
        (subst (IsTallied plan.threads r s.left.events K) (sym (ap (λ (cs : List Counts). get_or cs r d) counts_are ∙ get_or-map (λ (e : End × Counts). e.1) ends r none_ended d (among r lt)))
        (tallied v w home plan s r (end_at r) (counts_at r) (ran_at r lt) plan.threads g.rings_are lt K start (g.wrote r lt) K (sym (learned_own r K))))

    counts_many : length counts ≡ plan.threads
    counts_many = ap length counts_are ∙ length-map ends (λ (e : End × Counts). e.1) ∙ many

    round_tallied : IsRoundTallied plan.threads (run s) counts
    round_tallied = record { many = counts_many; each = λ r d lt. tallied_at r d lt }

    -- What the rings learned together in the round, as the core counts it

    core_sound : Sound s.core
    core_sound = left_sound s.core.opening s.core s.left

    -- the number of lemmas of a ring among the entries of the round, and in its part of the core
    abbrev lemmas : ℕ → ℕ
    lemmas r = length (learned r K)

    abbrev lemmas_core : ℕ → ℕ
    lemmas_core r = length (learned r (map (λ (e : Placed). e.entry) (s.core.part r).wrote))

    lemmas_same : (r : ℕ) → r < plan.threads → lemmas r ≡ lemmas_core r
    lemmas_same r lt =
        ap length (sym (learned_own r K))
        ∙ ap (λ (I : List Entry). length (learned r I)) (sym (ap (map (λ (e : Placed). e.entry)) (g.wrote r lt) ∙ placed_own r start K))

    together_learned : learned_by plan.threads K ≡ below s.core.opening.rings lemmas_core
    together_learned = below_same plan.threads lemmas_core lemmas lemmas_same ∙ ap (λ (n : ℕ). below n lemmas_core) (sym (rings_there p was limit l K w s g))

    pub within_round : learned_by plan.threads K ≤ limit
    within_round =
        let few = few_used s.core.opening s.core.drawn s.core.part core_sound.tickets in
        let same = together_learned in
        let limit_is = limit_there p was limit l K w s g in omega (arith, few, same, limit_is)

    -- what a ring counted is little
    pub small_at : (r : ℕ) (d : Counts) → r < length counts → IsSmall plan.threads limit (get_or counts r d)
    small_at r d lt =
        let low : r < plan.threads = omega (arith, lt, counts_many) in
        let one = below_at plan.threads r lemmas low in
        let all = within_round in
        subst (IsSmall plan.threads limit) (sym (ap (λ (cs : List Counts). get_or cs r d) counts_are ∙ get_or-map (λ (e : End × Counts). e.1) ends r none_ended d (among r low)))
        (small_of plan.threads limit r s.left.events K (counts_at r)
        (tallied v w home plan s r (end_at r) (counts_at r) (ran_at r low) plan.threads g.rings_are low K start (g.wrote r low) K (sym (learned_own r K)))
        (omega (arith, one, all)))

    within : learned_by plan.threads J ≤ plan.conflicts
    within =
        let few = within_round in
        let all = learned_then p was limit l K w s g in
        let room : limit ≤ plan.conflicts - p.done = subst (λ (n : ℕ). n ≤ plan.conflicts - p.done) (sym g.limit_is) (limit_left plan.round plan.conflicts p.done) in
        let before = was.within in omega (arith, few, all, room, before)

    -- if each ring found all tickets gone, they learned as many as they may
    all_learned : ((r : ℕ) → r < plan.threads → s.core.opening.limit < (s.core.part r).found) → learned_by plan.threads K ≡ limit
    all_learned gone_at =
        together_learned
        ∙ all_used s.core.opening s.core.drawn s.core.part core_sound.tickets core_sound.opens.some_ring (λ r lt. gone_at r (subst (λ (n : ℕ). r < n) (rings_there p was limit l K w s g) lt))
        ∙ limit_there p was limit l K w s g

    -- none of the rings deleted a start clause, since the first held them to the last
    keeps : All (KeepsStarts s.core.opening) K
    keeps =
        let first : 0 < plan.threads = let h = g.some_ring in omega (arith, h) in
        starts_kept w s v home plan 0 (end_at 0) (counts_at 0) (ran_at 0 first) (s.opening ∙ g.opening_is) (subst (λ (n : ℕ). 0 < n) (sym (rings_there p was limit l K w s g)) first)
        K (λ k d lt. (let low = g.of_rings k d lt in let few = g.few_rings in omega (arith, low, few))) (core_journal p was limit l K w s g)

    abbrev tally : List Counts
    tally = add_tallies counts p.tally

    tallied_all : AreTallied plan.threads (run s ∷ was.runs) (counts ∷ was.counts)
    tallied_all = (round_tallied, was.tallied)

    ran_within : RanWithin plan.threads plan.slots plan.round plan.conflicts F.clauses J tally
    ran_within = record {
      last = run s;
      before = was.runs;
      rounds = rounds p was limit l K w s g keeps;
      within = within;
      counts = counts ∷ was.counts;
      tallied = tallied_all;
      tally_is = ap (add_tallies counts) was.tally_is;
    }

    decided : (Failed Calm : Type 0) (answer : Answer) → option_map (λ (x : Stop). x.kind) s.core.stop ≡ kind_of answer → Holds plan vars F J (inr ran_within) answer → (answer ≡ ProofFault → Failed) → (plan.threads ≡ 1 → kind_of answer ≢ Some STOP_PROOF → Calm) → IsDecided plan F answer tally Failed Calm s.core.journal
    unfolding ran_within
    decided Failed Calm answer stop holds rose calm =
        subst (IsDecided plan F answer tally Failed Calm) (sym g.journal_is)
        (record { stands = journal_stands wide J0 beginning K plan.threads (starts_from v) t (has_hints plan.format) g.hinted; ruled = through_then p was K; held = inr ran_within; rulings = was.rulings; again = ruled_over p was limit l K w s g; running = tt; stop = ap (λ (c : State). option_map (λ (y : Stop). y.kind) c.stop) (left_is p was limit l K w s g) ∙ stop; holds = holds; rose = rose; calm = calm })

    -- if the ring is alone and its port can be used, no write has failed
    calm_at : (r : ℕ) (lt : r < plan.threads) → plan.threads ≡ 1 → length w.parts ≡ plan.threads → (fault : Bool) → TellsFaults w.parts fault → is_usable (port_at r lt).refused ≡ true → fault ≡ false
    calm_at r lt threads long = calm v w home plan s r (end_at r) (counts_at r) (ran_at r lt) plan.threads g.rings_are lt K start (g.wrote r lt) threads (long ∙ threads)

    -- if each ring is spent, none has set a stop
    set_none : ((r : ℕ) → r < plan.threads → end_at r ≡ end.Spent) → (r : ℕ) → r < plan.threads → own_stop r s.core.stop ≡ None
    set_none spent r lt =
        let h = ran_at r lt in
        ap (λ (q : ℕ). own_stop q s.core.stop) (sym h.ring_is) ∙ sym (s.parts r h.part h.there).set ∙ h.ran.set ∙ ap (set_of r) (spent r lt)

    unstopped : ((r : ℕ) → r < plan.threads → end_at r ≡ end.Spent) → (x : Option Stop) → s.core.stop ≡ x → x ≡ None
    unstopped spent None is = refl
    unstopped spent (Some y) is =
        let lt : y.ring < plan.threads = subst (λ (n : ℕ). y.ring < n) (ap (λ (q : CoreOpening). q.rings) g.opening_is ∙ g.rings_are) ((left_sound s.core.opening s.core s.left).stops.kinds y is).2 in
        absurd (none_some y (sym (set_none spent y.ring lt) ∙ ap (own_stop y.ring) is ∙ ap (λ (t : Bool). if t then Some y else None) (eq-eqb y.ring y.ring refl)))

    -- Each ring is spent

    module _ (spent : All (λ (e : End × Counts). e.0 ≡ end.Spent) ends) where
      spent_at : (r : ℕ) → r < plan.threads → end_at r ≡ end.Spent
      spent_at r lt = spent r none_ended (among r lt)

      intact_at : (r : ℕ) (lt : r < plan.threads) → IsIntact (port_at r lt)
      intact_at r lt = subst (Cause (port_at r lt)) (spent_at r lt) (cause_at r lt)

      pub going_at : (r : ℕ) → r < plan.threads → IsUnrefuted (own r K)
      going_at r lt = unrefuted_at r lt (intact_at r lt).going

      pub learned_limit : learned_by plan.threads K ≡ limit
      learned_limit = all_learned (λ r lt.
          subst (λ (q : CoreOpening). q.limit < (s.core.part r).found) (sym g.opening_is) (gone v w home plan s r (end_at r) (counts_at r) (ran_at r lt) plan.threads g.rings_are lt K start (g.wrote r lt) (spent_at r lt)))

      pub learned_sum : learned_by plan.threads J ≡ p.done + limit
      learned_sum = learned_then p was limit l K w s g ∙ ap (λ (n : ℕ). p.done + n) learned_limit

      spent_round : IsSpent (run s)
      spent_round = ap (learned_by s.core.opening.rings) (written_is p was limit l K w s g) ∙ ap (λ (n : ℕ). learned_by n K) (rings_there p was limit l K w s g) ∙ learned_limit ∙ sym (limit_there p was limit l K w s g)

      -- the round is passed
      pub passed : HavePassed plan F left.vars left.stack tally (p.done + limit) (run s) was.runs s.core.journal
      passed = subst (HavePassed plan F left.vars left.stack tally (p.done + limit) (run s) was.runs) (sym g.journal_is) (record {
        some_ring = g.some_ring;
        rounds = rounds p was limit l K w s g keeps;
        spent = spent_round;
        done_is = sym learned_sum;
        within = subst (λ (n : ℕ). n ≤ plan.conflicts) learned_sum within;
        counts = counts ∷ was.counts;
        tallied = tallied_all;
        tally_is = ap (add_tallies counts) was.tally_is;
        many = added_many plan.threads counts p.tally counts_many was.many;
        small = all_small plan.threads limit p.done counts p.tally small_at was.small;
        first = begun_then p was K;
        rulings = was.rulings;
        ruled = ruled_over p was limit l K w s g;
        vars_are = was.vars_are;
        stack_is = was.stack_is;
        more = was.more;
        few = was.few;
        on = g.on;
        whole = was.is_left.whole;
        going = together_unrefuted wide J0 beginning K plan.threads (starts_from v) t going_at;
        stood = stands wide J0 beginning K plan.threads (starts_from v) t;
        sound = g.sound;
        hinted = g.hinted;
      })

    -- no stop stands
    pub decided_spent : (Failed : Type 0) (fault : Bool) → TellsFaults w.parts fault → length w.parts ≡ plan.threads → p.done + limit ≡ plan.conflicts → (answer : Answer) → AllSpent ends answer → IsDecided plan F answer tally Failed (fault ≡ false) s.core.journal
    decided_spent Failed fault tells long last answer h =
        decided Failed (fault ≡ false) answer
        (ap (option_map (λ (x : Stop). x.kind)) (unstopped (λ r lt. h.each r none_ended (among r lt)) s.core.stop refl) ∙ ap kind_of (sym h.is))
        (subst (Holds plan vars F J (inr ran_within)) (sym h.is)
        (learned_all wide J0 beginning K plan.threads (starts_from v) t plan.round plan.conflicts (learned_sum h.each ∙ last)
        (rounds_spent plan.threads plan.slots plan.round plan.conflicts F.clauses (run s) was.runs J (rounds p was limit l K w s g keeps) (spent_round h.each))
        (rounds_due plan.threads plan.slots plan.round plan.conflicts F.clauses (run s ∷ was.runs) J (rounds p was limit l K w s g keeps)) (going_at h.each)))
        (λ e. (let clash : Unknown ≡ ProofFault = sym h.is ∙ e in absurd (cc clash)))
        (λ threads ne. let low : 0 < plan.threads = omega (arith, threads) in calm_at 0 low threads long fault tells (intact_at h.each 0 low).usable)

    -- the stop that an end sets is of its answer's kind
    answers_kind : (x : End) → kind_of (answer_of F.vars left.stack x) ≡ stop_kind x
    answers_kind (end.Sat a) = refl
    answers_kind end.Refuted = refl
    answers_kind end.Spent = refl
    answers_kind (end.Stopped x) = refl
    answers_kind (end.NoHole lack) = refl
    answers_kind end.ProofFault = refl
    answers_kind end.Memory = refl

    -- the start clauses lie one after another
    laid_there : laid_out l (began_with F l (has_hints plan.format) J0 left) ≡ began_with F l (has_hints plan.format) J0 left
    laid_there = ap (λ (ps : List (ℕ × List Literal)). record (began_with F l (has_hints plan.format) J0 left) { starts = starts_at (first_cell l) ps }) (placed_numbered (first_cell l) left.start.items)

    -- what the end of a ring whose stop stands says
    module _ (r : ℕ) (lt : r < plan.threads) where
      log_ended : (port_at r lt).ended ≡ true → ended F.clauses J ≡ true
      log_ended e =
          ap (ended F.clauses) (sym g.journal_is) ∙ ap (λ (q : CoreOpening). ended q.formula s.core.journal) (sym g.opening_is)
          ∙ ended_is v w home plan s r (end_at r) (counts_at r) (ran_at r lt) plan.threads g.rings_are lt K start (g.wrote r lt) e

      unsettled_by : (x : End) → end_at r ≡ x → (x ≡ end.Spent → ⊥) → list_any is_empty (added (port_at r lt).mine) ≡ false → IsUnsettled (inr ran_within)
      unfolding ran_within
      unsettled_by x is other none = unsettled wide J0 beginning K plan.threads (starts_from v) t plan.slots plan.round plan.conflicts tally (inr ran_within) r lt tickets (unrefuted_at r lt none)
        where
          tickets : NeverGone (inr ran_within) r
          tickets =
              subst (λ (c : State). (c.part r).found ≤ s.core.opening.limit) (sym (left_is p was limit l K w s g))
              (subst (λ (q : CoreOpening). (s.core.part r).found ≤ q.limit) (sym g.opening_is)
              (never_gone v w home plan s r (end_at r) (counts_at r) (ran_at r lt) plan.threads g.rings_are lt K start (g.wrote r lt) (λ e. other (sym is ∙ e))))

      table_there : l ≡ layout_of plan vars s.core.opening.limit
      table_there = g.table_is ∙ (λ i. layout_of plan (was.vars_are i) (sym (limit_there p was limit l K w s g) i))

      -- if its port was refused for want of room, the table had none
      no_room : (lack : NoRoom) → (port_at r lt).refused ≡ Some (NoHoleAnswer lack) → IsTight (layout_of plan vars s.core.opening.limit) (laid_out (layout_of plan vars s.core.opening.limit) s.core.opening) J lack.need lack.largest
      no_room lack e =
          let there : IsTight w.layout s.core.opening s.core.journal lack.need lack.largest =
          wanted v w home plan s r (end_at r) (counts_at r) (ran_at r lt) plan.threads g.rings_are lt K start (g.wrote r lt) lack e in
          let placed : laid_out l s.core.opening ≡ s.core.opening = ap (laid_out l) g.opening_is ∙ laid_there ∙ sym g.opening_is in
          subst (λ (m : Layout). IsTight m (laid_out m s.core.opening) J lack.need lack.largest) table_there
          (subst (λ (y : Layout × (CoreOpening × List Entry)). IsTight y.0 y.1.0 y.1.1 lack.need lack.largest) (λ i. (g.layout_is i, (sym placed i, g.journal_is i))) there)

      holds_by : (kind : ℕ) (x : End) → end_at r ≡ x → Cause (port_at r lt) x → stop_kind x ≡ Some kind → Holds plan vars F J (inr ran_within) (answer_of F.vars left.stack x)
      unfolding ran_within
      holds_by kind (end.Sat a) is c won = model F J0 left was.is_left (start_glues (starts_at (first_cell l) left.start.items)) (first_cell l) a was.more g.on (c.0.long ∙ g.vars_are) c.0.start c.0.opening
      holds_by kind end.Refuted is c won = refutation wide J0 beginning K plan.threads (starts_from v) t was.is_left.whole (log_ended c.0)
      holds_by kind end.Spent is c won = absurd (none_some kind won)
      holds_by kind (end.Stopped x) is c won = absurd (none_some kind won)
      holds_by kind (end.NoHole lack) is c won = (no_room lack c.0, unsettled_by (end.NoHole lack) is (λ e. cc e) c.2)
      holds_by kind end.ProofFault is c won = tt
      holds_by kind end.Memory is c won = unsettled_by end.Memory is (λ e. cc e) c.1

      rose_by : (fault : Bool) → TellsFaults w.parts fault → (x : End) → Cause (port_at r lt) x → answer_of F.vars left.stack x ≡ ProofFault → fault ≡ true
      rose_by fault tells (end.Sat a) c e = absurd (cc e)
      rose_by fault tells end.Refuted c e = absurd (cc e)
      rose_by fault tells end.Spent c e = absurd (cc e)
      rose_by fault tells (end.Stopped x) c e = absurd (cc e)
      rose_by fault tells (end.NoHole lack) c e = absurd (cc e)
      rose_by fault tells end.ProofFault c e = faulty v w home plan s r (end_at r) (counts_at r) (ran_at r lt) plan.threads g.rings_are lt K start (g.wrote r lt) fault tells c.0
      rose_by fault tells end.Memory c e = absurd (cc e)

      -- at each end that sets a stop but a fault of the proof the port can be used
      usable_by : (kind : ℕ) (x : End) → Cause (port_at r lt) x → stop_kind x ≡ Some kind → (kind ≡ STOP_PROOF → ⊥) → is_usable (port_at r lt).refused ≡ true
      usable_by kind (end.Sat a) c won ne = c.1
      usable_by kind end.Refuted c won ne = c.1
      usable_by kind end.Spent c won ne = absurd (none_some kind won)
      usable_by kind (end.Stopped x) c won ne = absurd (none_some kind won)
      usable_by kind (end.NoHole lack) c won ne = ap is_usable c.0
      usable_by kind end.ProofFault c won ne = absurd (ne (sym (some_same STOP_PROOF kind won)))
      usable_by kind end.Memory c won ne = c.0

    -- the stop that stands is a ring's, whose end counts
    pub decided_won : (Failed : Type 0) (fault : Bool) → (fault ≡ true → Failed) → TellsFaults w.parts fault → length w.parts ≡ plan.threads → (answer : Answer) → WasWon w F.vars left.stack ends answer → IsDecided plan F answer tally Failed (fault ≡ false) s.core.journal
    decided_won Failed fault fails tells long answer h =
        let lt : h.ring < plan.threads = let below = h.won.below in omega (arith, below, many) in
        let is : answer ≡ answer_of F.vars left.stack (end_at h.ring) = h.is none_ended in
        let kind_is : kind_of answer ≡ Some h.won.kind = ap kind_of is ∙ answers_kind (end_at h.ring) ∙ h.won.decided none_ended in
        decided Failed (fault ≡ false) answer
        (ap (option_map (λ (x : Stop). x.kind)) (s.stops.stands (record { kind = h.won.kind; ring = h.ring }) h.won.stop) ∙ sym (h.won.decided none_ended) ∙ sym (answers_kind (end_at h.ring)) ∙ ap kind_of (sym is))
        (subst (Holds plan vars F J (inr ran_within)) (sym is) (holds_by h.ring lt h.won.kind (end_at h.ring) refl (cause_at h.ring lt) (h.won.decided none_ended)))
        (λ e. fails (rose_by h.ring lt fault tells (end_at h.ring) (cause_at h.ring lt) (sym is ∙ e)))
        (λ threads ne. calm_at h.ring lt threads long fault tells (usable_by h.ring lt h.won.kind (end_at h.ring) (cause_at h.ring lt) (h.won.decided none_ended) (λ e. ne (kind_is ∙ ap Some e))))
