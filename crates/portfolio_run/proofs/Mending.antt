-- A model of what the rings start from, mended by the ruler's stack.
use Rattle.std.proofs.Common.{◌≡◌, ◌∙◌, ◌+◌, ◌≤◌, ℕ, suc, Bool, true, false, List, [], ◌∷◌, ◌++◌, map, length, take, Some, refl, sym, ap, arith}
use Rattle.std.specs.Prelude.{All}
use Rattle.std.specs.Cmp.Derive.{both_true}
use Rattle.std.proofs.lemmas.Bool.{or_left}
use Rattle.std.proofs.lemmas.List.{length-take-le}
use Rattle.std.proofs.lemmas.List.Folds.{list_all-append}
use Rattle.sat_words.specs.Literal.{Literal, IsOn}
use Rattle.sat_words.specs.Truth.{lit_true, clause_true, formula_true}
use Rattle.sat_words.specs.FormulaData.{FormulaData}
use Rattle.clause_cell.specs.Packing.{words_for}
use Rattle.rup_model.specs.declared.journal.Entry.{Entry}
use Rattle.rup_model.specs.Journal.{book}
use Rattle.rup_model.specs.Opening.{Start}
use Rattle.rup_model.specs.Windows.{opening_by}
use Rattle.model_stack.specs.declared.stack.Fix.{Fix}
use Rattle.model_stack.specs.Extend.{extend}
use Rattle.model_stack.proofs.Walk.{length-mended}
use Rattle.share_core.specs.declared.stored.ClauseAt.{ClauseAt}
use Rattle.share_rule.specs.declared.view.GlueAt.{GlueAt}
use Rattle.share_rule.specs.FirstWords.{starts_at}
use Rattle.share_rule.specs.Tight.{numbered}
use Rattle.ring_port.specs.PortState.{Holding}
use Rattle.ring_port.specs.Log.{start_of}
use Rattle.ring_pass.specs.RingState.{holding_of}
use Rattle.simp_base.specs.WorkState.{IsFixOn, lists, unit_clauses, unit_lits}
use Rattle.ruler_simp.specs.declared.ruling.Simplified.{Simplified}
use Rattle.ruler_simp.specs.Left.{start_of as left_start}
use Rattle.ruler_simp.specs.Again.{round_start, before_round}
use Rattle.portfolio_run.specs.Pauses.{IsLeft}
use Rattle.portfolio_run.specs.Solved.{IsModel}
use Rattle.portfolio_run.proofs.Cutting.{formula_cut}
use Rattle.portfolio_run.proofs.InRounds.{IsAlike}
use Rattle.portfolio_run.proofs.Opens.{by_numbers}

abbrev Pair : Type 0
Pair = ℕ × List Literal

-- The start clauses, where they stand

held_lits : (gs : List GlueAt) (k : ℕ) (ps : List Pair) → map (λ (s : Start). s.lits) (map start_of (map (holding_of gs) (starts_at k ps))) ≡ map (λ (p : Pair). p.1) ps
held_lits gs k [] = refl
held_lits gs k (p ∷ ps) = ap (λ (cs : List (List Literal)). p.1 ∷ cs) (held_lits gs (k + words_for (length p.1)) ps)

-- without their addresses
pub placed_starts : (k : ℕ) (ps : List Pair) → map (λ (c : ClauseAt). record { number = c.number; lits = c.lits }) (starts_at k ps) ≡ map left_start ps
placed_starts k [] = refl
placed_starts k (p ∷ ps) = ap (λ (ss : List Start). left_start p ∷ ss) (placed_starts (k + words_for (length p.1)) ps)

-- their numbers
pub placed_numbers : (k : ℕ) (ps : List Pair) → map (λ (c : ClauseAt). c.number) (starts_at k ps) ≡ map (λ (p : Pair). p.0) ps
placed_numbers k [] = refl
placed_numbers k (p ∷ ps) = ap (λ (ns : List ℕ). p.0 ∷ ns) (placed_numbers (k + words_for (length p.1)) ps)

-- and with them
pub placed_numbered : (k : ℕ) (ps : List Pair) → numbered (map (λ (c : ClauseAt). record { number = c.number; lits = c.lits }) (starts_at k ps)) ≡ ps
placed_numbered k [] = refl
placed_numbered k (p ∷ ps) = ap (λ (qs : List Pair). p ∷ qs) (placed_numbered (k + words_for (length p.1)) ps)

-- The model

module _ (a : List Bool) where
  starts_true : (gs : List GlueAt) (k : ℕ) (ps : List Pair) → All (λ (h : Holding). clause_true a h.lits ≡ true) (map (holding_of gs) (starts_at k ps)) → formula_true a (lists ps) ≡ true
  starts_true gs k [] all = refl
  starts_true gs k (p ∷ ps) all =
      let first : Holding = holding_of gs (record { address = k; number = p.0; lits = p.1 }) in
      both_true (all 0 first (omega arith)) (starts_true gs (k + words_for (length p.1)) ps (λ j d lt. all (suc j) d (omega arith)))

  units_true : (us : List Literal) → All (λ l. lit_true a l ≡ true) us → formula_true a (unit_clauses us) ≡ true
  units_true [] all = refl
  units_true (l ∷ us) all = both_true (or_left (lit_true a l) false (all 0 l (omega arith))) (units_true us (λ j d lt. all (suc j) d (omega arith)))

  all_true : (F G : List (List Literal)) → formula_true a F ≡ true → formula_true a G ≡ true → formula_true a (F ++ G) ≡ true
  all_true F G t u = list_all-append (clause_true a) F G ∙ both_true t u

extended_long : (vars : ℕ) (S : List Fix) (a : List Bool) → All (IsFixOn vars) S → length a ≡ vars → length (extend S a) ≡ vars
extended_long vars [] a on long = long
extended_long vars (fix ∷ S) a on long =
    let rest : length (extend S a) ≡ vars = extended_long vars S a (λ j d lt. on (suc j) d (omega arith)) long in
    let lit = (on 0 fix (omega arith)).lit in
    let high = lit.high in
    length-mended (extend S a) fix lit.low (omega (arith, rest, high)) ∙ rest

module _ (F : FormulaData) (J0 : List Entry) (left : Simplified) (h : IsLeft F J0 left) (gs : List GlueAt) (k : ℕ) where
  -- what the rings' ports start from is what their round begins with
  pub alike : IsAlike (record { journal = []; starts = map start_of (map (holding_of gs) (starts_at k left.start.items)); units = unit_lits left.units.items }) (opening_by F.clauses (before_round J0 left) (Some (round_start left)))
  alike = record {
    starts = held_lits gs k left.start.items ∙ sym (by_numbers (book F.clauses (before_round J0 left)) left.start.items h.opens.starts);
    units = λ l. refl;
  }

  -- what makes true all that is left is a model once it is mended, and cut to the formula's variables
  pub model : (a : List Bool) → F.vars ≤ left.vars → All (All (IsOn F.vars)) F.clauses → length a ≡ left.vars → All (λ (x : Holding). clause_true a x.lits ≡ true) (map (holding_of gs) (starts_at k left.start.items)) → All (λ l. lit_true a l ≡ true) (unit_lits left.units.items) → IsModel F (take F.vars (extend left.stack a))
  model a more on long starts units = record {
    holds = formula_cut F.vars (extend left.stack a) F.clauses on
        ∙ h.lifts a (all_true a (lists left.start.items) (unit_clauses (unit_lits left.units.items)) (starts_true a gs k left.start.items starts) (units_true a (unit_lits left.units.items) units));
    long = length-take-le F.vars (extend left.stack a) (let wide = extended_long left.vars left.stack a h.on.stack long in omega (arith, more, wide));
  }
