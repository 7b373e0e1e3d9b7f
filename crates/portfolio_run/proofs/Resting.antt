-- The rings rest, and the run ends there: the answer holds over the journal.
use Rattle.std.proofs.Common.{◌≡◌, ◌≢◌, ◌∙◌, ◌≤◌, ◌<◌, ◌^◌, ◌+◌, ℕ, true, List, [], ◌++◌, length, All, Option, Some, None, append-nil, refl, sym, ap, inl, inr, arith, true≢false}
use Rattle.std.specs.Prelude.{◌⊎◌}
use Rattle.std.specs.Option.{option_map, option_to_list}
use Rattle.io_edge.specs.Causes.{Rose}
use Rattle.sat_words.specs.Literal.{Literal, IsOn}
use Rattle.sat_words.specs.Clause.{is_empty}
use Rattle.sat_words.specs.Formats.{has_hints}
use Rattle.sat_words.specs.FormulaData.{FormulaData}
use Rattle.sat_words.specs.declared.line.Line.{Line}
use Rattle.sat_words.specs.declared.shared.NoRoom.{NoRoom}
use Rattle.sat_words.specs.declared.shared.TheConstants.{MAX_ENTRIES, STOP_SAT, STOP_REFUTED, STOP_ROOM, STOP_PROOF, STOP_MEMORY}
use Rattle.rup_model.specs.Log.{OnVariables, Refutes}
use Rattle.rup_model.specs.declared.journal.TheConstants.{RULER_RING}
use Rattle.rup_model.specs.declared.journal.Round.{Round as RoundStart}
use Rattle.rup_model.specs.declared.journal.Entry.{Entry}
use Rattle.rup_model.specs.declared.journal.Entry.TheVariants.{Round}
use Rattle.rup_model.specs.Journal.{learned, lines, LogSound}
use Rattle.rup_model.specs.NumberedLines.{AreHinted}
use Rattle.rup_model.specs.Opening.{program_opening}
use Rattle.rup_model.proofs.Additions.{learned-append}
use Rattle.rup_model.proofs.LogLaw.{refutes_none}
use Rattle.rup_model.proofs.Sums.{below_none, below_same}
use Rattle.drat_text.specs.Text.{CanBeSpelled}
use Rattle.core_rounds.specs.Rounds.{RoundRun, IsDue, AreRounds}
use Rattle.core_rounds.specs.InRounds.{learned_by, round_limit}
use Rattle.share_core.proofs.Counting.{some_same, none_some}
use Rattle.share_rule.specs.FirstWords.{IsNoHole}
use Rattle.share_rule.specs.Tight.{numbered}
use Rattle.ring_run.specs.declared.job.Counts.{Counts}
use Rattle.portfolio_run.specs.declared.answer.Answer.{Answer}
use Rattle.portfolio_run.specs.declared.answer.Answer.TheVariants.{Unsat, NoHole, ProofFault, Memory}
use Rattle.portfolio_run.specs.declared.plan.Plan.{Plan}
use Rattle.portfolio_run.specs.Held.{RestsBetween, IsHeld, AreTallied, total}
use Rattle.portfolio_run.specs.Journaled.{IsJournal, IsUnrefuted}
use Rattle.portfolio_run.specs.Pauses.{StandsInRounds}
use Rattle.portfolio_run.specs.Room.{layout_of, HasNoRoom}
use Rattle.portfolio_run.specs.Ruled.{schedule_of, IsRuled, IsRuledThrough}
use Rattle.portfolio_run.specs.Rulings.{Ruling, HasRuledOn, work_after}
use Rattle.portfolio_run.specs.Solved.{is_verdict, kind_of, Holds, IsUnsettled, IsReached}
use Rattle.portfolio_run.proofs.InRounds.{journal_of_rounds}
use Rattle.portfolio_run.proofs.Interleaving.{own_adds_none}
use Rattle.portfolio_run.proofs.Rulers.{AreRulers, rulers_learned}

-- rounds left the front of the journal, the ruler wrote after it, and a round may have begun, in which no ring wrote
pub record IsResting (plan : Plan) (F : FormulaData) (tally : List Counts) (begun : Option RoundStart) (I : List Entry) : Type 0 where
  pub some_ring : 1 ≤ plan.threads
  pub runs : List RoundRun
  pub past : List Entry
  pub written : List Entry
  pub rounds : AreRounds plan.threads plan.slots plan.round plan.conflicts F.clauses runs past
  pub due : IsDue plan.threads plan.conflicts runs past
  pub rulers : AreRulers written
  pub journal_is : I ≡ (past ++ written) ++ option_to_list (option_map Round begun)
  pub within : learned_by plan.threads I ≤ plan.conflicts
  pub never : (runs ≡ []) ⊎ (learned_by plan.threads I < plan.conflicts)
  pub counts : List (List Counts)
  pub tallied : AreTallied plan.threads runs counts
  pub tally_is : (tally ≡ total plan.threads counts) ⊎ ((runs ≡ []) × (tally ≡ []))
  pub ruled : IsRuled F (schedule_of plan) I
  pub rulings : List Ruling
  pub again : HasRuledOn F.clauses (schedule_of plan) ruled.work runs written begun rulings
  pub vars : ℕ
  pub few : vars ≤ 2 ^ 30
  pub on : All (All (IsOn vars)) F.clauses
  pub stood : StandsInRounds vars plan.threads F.clauses I
  pub sound : LogSound F.clauses I
  pub hinted : has_hints plan.format ≡ true → AreHinted F.clauses I

-- nothing is learned in no entry
pub none_learned : (rings : ℕ) → learned_by rings [] ≡ 0
none_learned rings = below_none rings (λ r. length (learned r [])) (λ r lt. refl)

-- a sum over rings that learned nothing more
pub same_learned : (rings : ℕ) (J K : List Entry) → ((r : ℕ) → learned r J ≡ learned r K) → learned_by rings J ≡ learned_by rings K
same_learned rings J K same = below_same rings (λ r. length (learned r K)) (λ r. length (learned r J)) (λ r lt. ap length (same r))

-- neither the ruler's entries nor one that begins a round have lemmas
pub learned_resting : (rings : ℕ) (past written : List Entry) (begun : Option RoundStart) → AreRulers written → learned_by rings ((past ++ written) ++ option_to_list (option_map Round begun)) ≡ learned_by rings past
learned_resting rings past written begun rulers = same_learned rings ((past ++ written) ++ option_to_list (option_map Round begun)) past one
  where
    beginning : (r : ℕ) (b : Option RoundStart) → learned r (option_to_list (option_map Round b)) ≡ []
    beginning r None = refl
    beginning r (Some x) = refl

    one : (r : ℕ) → learned r ((past ++ written) ++ option_to_list (option_map Round begun)) ≡ learned r past
    one r =
        learned-append r (past ++ written) (option_to_list (option_map Round begun)) ∙ ap (λ (cs : List (List Literal)). learned r (past ++ written) ++ cs) (beginning r begun) ∙ append-nil (learned r (past ++ written))
        ∙ learned-append r past written ∙ ap (λ (cs : List (List Literal)). learned r past ++ cs) (rulers_learned r written rulers) ∙ append-nil (learned r past)

on_variables : (L : List Line) → CanBeSpelled L → OnVariables L
on_variables L spelled k d lt j l less = (spelled k d lt j l less).low

module _ (plan : Plan) (F : FormulaData) (tally : List Counts) (begun : Option RoundStart) (I : List Entry) (h : IsResting plan F tally begun I) where
  pub journal_stands : IsJournal plan.threads (has_hints plan.format) F.clauses I
  journal_stands = journal_of_rounds h.vars plan.threads (has_hints plan.format) F.clauses I h.few h.on h.sound h.hinted h.stood

  pub rested : RestsBetween plan.threads plan.slots plan.round plan.conflicts F.clauses I tally
  rested = record {
    runs = h.runs;
    left = h.past;
    rounds = h.rounds;
    due = h.due;
    written = h.written;
    rulers = h.rulers;
    begun = begun;
    journal_is = h.journal_is;
    within = h.within;
    counts = h.counts;
    tallied = h.tallied;
    tally_is = h.tally_is;
  }

  pub held : IsHeld plan.threads plan.slots plan.round plan.conflicts F.clauses I tally
  held = inl rested

  pub unsettled : IsUnrefuted I → IsUnsettled held
  unfolding held rested
  unsettled going =
      let some = h.some_ring in
      record {
        ring = 0;
        below = omega (arith, some);
        tickets = h.never;
        going = own_adds_none is_empty 0 I going;
        rulers = own_adds_none is_empty RULER_RING I going;
      }

  -- the variables of a table that could be made
  abbrev vars : ℕ
  vars = (work_after h.ruled.work h.rulings).vars

  module _ (old now : ℕ) where
    -- no ring ran, and the run came to this kind of stop
    is_reached : (answer : Answer) (kind : ℕ) → kind_of answer ≡ Some kind → kind ≢ STOP_SAT → Holds plan vars F I held answer → (is_verdict answer ≡ true → IsRuledThrough F (schedule_of plan) I) → (kind ≡ STOP_PROOF → Rose old now) → (kind ≢ STOP_PROOF → now ≡ old)
        → IsReached plan F answer tally old now I
    unfolding held rested
    is_reached answer kind is other holds through rose still = record {
      stands = journal_stands;
      ruled = h.ruled;
      held = held;
      rulings = h.rulings;
      again = h.again;
      stop = (λ e. other (some_same kind STOP_SAT (sym is ∙ e)), λ e. none_some kind (sym e ∙ is));
      holds = holds;
      through = through;
      faults_fit = record {
        rose = λ e. rose (some_same kind STOP_PROOF (sym is ∙ e));
        calm = λ ne. inl (still (λ e. ne (is ∙ ap Some e)));
      };
    }

    -- memory ran out
    pub no_memory : IsUnrefuted I → now ≡ old → IsReached plan F Memory tally old now I
    no_memory going still = is_reached Memory STOP_MEMORY refl (λ e. absurd (omega arith)) (unsettled going) (λ e. absurd (true≢false (sym e))) (λ e. absurd (omega arith)) (λ _. still)

    -- there was no room
    no_room : (lack : NoRoom) → HasNoRoom plan vars held lack → IsUnrefuted I → now ≡ old → IsReached plan F (NoHole lack) tally old now I
    no_room lack short going still = is_reached (NoHole lack) STOP_ROOM refl (λ e. absurd (omega arith)) (short, unsettled going) (λ e. absurd (true≢false (sym e))) (λ e. absurd (omega arith)) (λ _. still)

    -- the journal is full
    pub no_entry : MAX_ENTRIES ≤ length I → IsUnrefuted I → now ≡ old → IsReached plan F (NoHole (record { need = MAX_ENTRIES + 1; largest = MAX_ENTRIES })) tally old now I
    unfolding held
    no_entry full = no_room (record { need = MAX_ENTRIES + 1; largest = MAX_ENTRIES }) (inr (record { full = full; need_is = refl; most_is = refl }))

    -- a start clause of the program's opening finds no hole
    pub no_place : (start : RoundStart) → begun ≡ Some start → (need most : ℕ) → IsNoHole (layout_of plan vars (round_limit plan.round plan.conflicts (learned_by plan.threads h.past))) (numbered (program_opening F.clauses (h.past ++ h.written)).starts) need most
        → IsUnrefuted I → now ≡ old → IsReached plan F (NoHole (record { need = need; largest = most })) tally old now I
    unfolding held rested
    no_place start is need most hole = no_room (record { need = need; largest = most }) (inl (record { start = start; begun = is; none = hole }))

    -- a line failed
    pub failed : Rose old now → IsReached plan F ProofFault tally old now I
    failed rose = is_reached ProofFault STOP_PROOF refl (λ e. absurd (omega arith)) tt (λ e. absurd (true≢false (sym e))) (λ _. rose) (λ ne. absurd (ne refl))

    -- the formula is refuted
    pub refuted : Refutes F.clauses (lines F.clauses I) → IsRuledThrough F (schedule_of plan) I → now ≡ old → IsReached plan F Unsat tally old now I
    refuted none through still =
        is_reached Unsat STOP_REFUTED refl (λ e. absurd (omega arith)) (record { refuted = none; no_model = λ m t. refutes_none F.clauses (lines F.clauses I) none (on_variables (lines F.clauses I) journal_stands.spelled) (m, t) }) (λ _. through)
        (λ e. absurd (omega arith)) (λ _. still)
