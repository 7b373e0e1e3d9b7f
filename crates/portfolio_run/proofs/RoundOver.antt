-- The rings' steps over a table are a round of the core, after those before it.
use Rattle.share_core.specs.State.{unit_lits}
use Rattle.std.proofs.Common.{◌≡◌, ◌∙◌, ◌+◌, ℕ, List, [], ◌∷◌, ◌++◌, All, Option, sym, ap, subst}
use Rattle.std.proofs.Math.Seq.{drop-append_seam}
use Rattle.sat_words.specs.Literal.{Literal}
use Rattle.sat_words.specs.Clause.{has}
use Rattle.sat_words.specs.FormulaData.{FormulaData}
use Rattle.rup_model.specs.declared.journal.Round.{Round as RoundStart}
use Rattle.rup_model.specs.declared.journal.Entry.{Entry}
use Rattle.rup_model.specs.declared.journal.Entry.TheVariants.{Round}
use Rattle.share_core.specs.declared.part.CoreOpening.{CoreOpening}
use Rattle.share_core.specs.State.{State, opening_of, later}
use Rattle.core_rounds.specs.Rounds.{RoundRun, left_by, written_in, start_for, beginning_of, KeepsStarts, IsRound, AreRounds}
use Rattle.core_rounds.specs.InRounds.{learned_by, round_limit}
use Rattle.core_rounds.proofs.Learned.{learned_more, rulers_more, round_more}
use Rattle.share_rule.specs.declared.Layout.{Layout}
use Rattle.share_rule.specs.declared.view.View.{View}
use Rattle.share_rule.specs.Layout.{first_cell}
use Rattle.share_rule.specs.Seen.{Seen}
use Rattle.ruler_simp.specs.declared.ruling.Simplified.{Simplified}
use Rattle.ruler_simp.specs.Again.{round_start, before_round}
use Rattle.portfolio_run.specs.declared.plan.Plan.{Plan}
use Rattle.portfolio_run.specs.Pauses.{Pause, IsPaused}
use Rattle.portfolio_run.specs.Ruled.{schedule_of}
use Rattle.portfolio_run.specs.Rulings.{left_of, HaveRuled}
use Rattle.portfolio_run.proofs.Gathered.{GoesOn, journal_at}
use Rattle.portfolio_run.proofs.Mending.{placed_starts, placed_numbers}

-- what a round begins with
abbrev start_with : List Literal → List ℕ → RoundStart
start_with us ns = record { starts = ns; units = us }

-- The journal that rounds left is that of the last

pub rounds_left : (rings depth : ℕ) (every : Option ℕ) (most : ℕ) (F : List (List Literal)) (xs : List RoundRun) (J : List Entry) → AreRounds rings depth every most F xs J → left_of xs ≡ J
rounds_left rings depth every most F [] J r = sym r
rounds_left rings depth every most F (x ∷ xs) J r = sym r.6

-- what the rings did
abbrev pub run : {w : View} → Seen w → RoundRun
run s = record { opening = s.core.opening; events = s.left.events }

module _ (p : Pause) (was : IsPaused p) (limit : ℕ) (l : Layout) (K : List Entry) (w : View) (s : Seen w) (g : GoesOn p was limit l K w s) where
  abbrev plan : Plan
  plan = p.plan

  abbrev F : FormulaData
  F = p.formula

  abbrev left : Simplified
  left = p.left

  abbrev J0 : List Entry
  J0 = journal_at p was

  pub left_is : left_by (run s) ≡ s.core
  left_is = s.left.leaves

  pub core_journal : s.core.journal ≡ s.core.opening.journal ++ K
  core_journal = g.journal_is ∙ ap (λ (o : CoreOpening). o.journal ++ K) (sym g.opening_is)

  -- they wrote the journal's last entries
  pub written_is : written_in (run s) ≡ K
  written_is = ap (later s.core.opening) (ap (λ (c : State). c.journal) left_is ∙ core_journal) ∙ drop-append_seam s.core.opening.journal K

  start_is : start_for s.core.opening ≡ round_start left
  start_is = ap start_for g.opening_is ∙ ap (start_with (unit_lits left.units.items)) (placed_numbers (first_cell l) left.start.items)

  -- Lemmas

  pub rings_there : s.core.opening.rings ≡ plan.threads
  rings_there = ap (λ (o : CoreOpening). o.rings) g.opening_is ∙ g.rings_are

  pub limit_there : s.core.opening.limit ≡ limit
  limit_there = ap (λ (o : CoreOpening). o.limit) g.opening_is ∙ g.lemmas_are

  -- as many as before the round, and those of the round
  pub learned_then : learned_by plan.threads (before_round J0 left ++ K) ≡ p.done + learned_by plan.threads K
  learned_then =
      learned_more plan.threads (before_round J0 left) K
      ∙ ap (λ (n : ℕ). n + learned_by plan.threads K) (round_more plan.threads J0 (round_start left) ∙ rulers_more plan.threads was.past was.mine was.rulers ∙ sym was.done_is)

  -- The round

  round_begins : s.core.opening.journal ≡ J0 ++ beginning_of s.core.opening ∷ []
  round_begins = ap (λ (o : CoreOpening). o.journal) g.opening_is ∙ ap (λ (y : RoundStart). J0 ++ Round y ∷ []) (sym start_is)

  is_round : All (KeepsStarts s.core.opening) K → IsRound plan.threads plan.slots (round_limit plan.round plan.conflicts (learned_by plan.threads was.past)) F.clauses J0 (run s)
  is_round keeps = record {
    rings_are = rings_there;
    depth_is = ap (λ (o : CoreOpening). o.depth) g.opening_is ∙ g.depth_is;
    limit_is = limit_there ∙ g.limit_is ∙ ap (round_limit plan.round plan.conflicts) was.done_is;
    formula_is = ap (λ (o : CoreOpening). o.formula) g.opening_is;
    journal_is = round_begins;
    starts = ap (λ (o : CoreOpening). (opening_of o).starts) g.opening_is ∙ placed_starts (first_cell l) left.start.items ∙ was.is_left.starts;
    units = λ lit. ap (λ (o : CoreOpening). has o.units lit) g.opening_is ∙ was.is_left.units lit;
    opens = s.left.opens;
    enabled = s.left.enabled;
    keeps = subst (λ (es : List Entry). All (KeepsStarts s.core.opening) es) (sym written_is) keeps;
  }

  -- it comes after those before it
  pub rounds : All (KeepsStarts s.core.opening) K → AreRounds plan.threads plan.slots plan.round plan.conflicts F.clauses (run s ∷ was.runs) (before_round J0 left ++ K)
  rounds keeps = (was.past, was.mine, was.rounds, was.rulers, was.due, is_round keeps, sym (ap (λ (c : State). c.journal) left_is ∙ g.journal_is))

  -- and the ruler went on before it
  pub ruled_over : HaveRuled F.clauses (schedule_of plan) was.first.work (run s ∷ was.runs) was.rulings
  ruled_over = (
    was.mine,
    round_begins
        ∙ ap (λ (I : List Entry). (I ++ was.mine) ++ beginning_of s.core.opening ∷ []) (sym (rounds_left plan.threads plan.slots plan.round plan.conflicts F.clauses was.runs was.past was.rounds)),
    was.again,
  )
