use Rattle.std.proofs.Common.{ℕ, List, filter, subst}
use Rattle.std.specs.List.Sorted.{IsPermutation}
use Rattle.sat_words.specs.Literal.{Literal}
use Rattle.simp_base.specs.WorkState.{AreHeld}
use Rattle.simp_base.specs.Parts.{takes_part}
use Rattle.ruler_simp.proofs.ruling.leave.Goals as goal

pub returns-clause-left : goal.returns-clause-left
returns-clause-left g c =
    let parts = c.into_parts-clauses.result in
    record {
      vars = c.vars-vars.ensures;
      kept = subst (λ (cells : List (ℕ × List Literal)). IsPermutation (filter (λ x. takes_part x.1) cells) c.starts_of-start.result.items) c.into_parts-clauses.ensures.clauses c.starts_of-start.ensures.kept;
      sorted = c.starts_of-start.ensures.sorted;
      units = c.into_parts-clauses.ensures.units;
      held = subst (λ (cells : List (ℕ × List Literal)). AreHeld cells parts.units.items) c.into_parts-clauses.ensures.clauses c.into_parts-clauses.ensures.held;
      stack = c.into_parts-clauses.ensures.stack;
    }
