-- How turns and runs end.
use Rattle.std.proofs.Common.{◌≡◌, ◌≢◌, ◌⊎◌, ℕ, ◌+◌, ◌<◌, ◌≤◌, true, false, List, [], sym, subst, ◌∙◌, ⊎_elim, arith}
use mathlib.Core.Logic.{dite}
use native.Mathlib.Decide.{ℕ_discrete}
use Rattle.std.specs.List.{Contains}
use Rattle.std.proofs.lemmas.Bool.{true≢false}
use Rattle.sat_words.specs.Literal.{Literal}
use Rattle.rup_model.proofs.Lists.{Contains_In}
use Rattle.drat_text.specs.declared.stop.LineStop.{LineStop}
use Rattle.simp_base.specs.WorkState.{WorkState, IsWork}
use Rattle.simp_base.specs.Causes.{HasCause}
use Rattle.simp_base.specs.Log.{KeepsLog}
use Rattle.simp_base.proofs.LiftSteps.{logs_along}
use Rattle.simp_base.proofs.Lists.{All_In}
use Rattle.simp_base.proofs.Removal.{same_number}
use Rattle.simp_base.proofs.Stopping.{cause_after}
use Rattle.simp_base.specs.Parts.{takes_part}
use Rattle.simp_subsume.specs.Related.{IsUnrelated}
use Rattle.simp_subsume.specs.Ends.{Subsumed}
use Rattle.simp_subsume.specs.Compared.{IsLoaded, IsReducedBelow, Comparing, Processed}
use Rattle.simp_subsume.proofs.Reducing.{reduces_self, reduces_along, lifted_reduced}

-- One turn

-- all are listed but those to which the clause is of no use
pub comparing_start : (w : WorkState) (n : ℕ) (c : List Literal) (others : List ℕ) → w.ended ≡ false → w.output.spent ≡ false → IsWork w → IsReducedBelow w n → IsLoaded w n c
    → ((m : ℕ) (d : List Literal) → Contains w.clauses (m, d) → IsUnrelated c d ⊎ Contains others m) → Comparing w w n c others
comparing_start w n c others going unspent kept before loaded every = record {
  reduces = reduces_self w going unspent kept;
  alive = loaded.alive;
  before = before;
  apart = λ m d i ne part. every m d i;
}

-- the clause was compared with all others
pub processed_compared : (old new : WorkState) (n : ℕ) (c : List Literal) → takes_part c ≡ true → Comparing old new n c [] → Processed old new (n + 1)
processed_compared old new n c part t = record {
  reduces = t.reduces;
  below = λ p q e f ep fq ne lt te tf. dite (ℕ_discrete p n)
      (λ (same : p ≡ n). (
      let e_is : c ≡ e = same_number new.clauses t.reduces.work.numbers n c e t.alive (subst (λ (j : ℕ). Contains new.clauses (j, e)) same ep) in
      ⊎_elim
      (λ (u : IsUnrelated c f). subst (λ x. IsUnrelated x f) e_is u)
      (λ (i : Contains [] q). (let z = i.1 in absurd (omega arith)))
      (t.apart q f fq (λ x. ne (same ∙ sym x)) tf)))
      (λ (other : p ≢ n). t.before p q e f ep fq ne (below p n lt other) te tf);
}
  where
    below : (p n : ℕ) → p < n + 1 → p ≢ n → p < n
    below p n lt ne = omega arith

-- the clause takes no part
pub processed_idle : (w : WorkState) (n : ℕ) → w.ended ≡ false → w.output.spent ≡ false → IsWork w → IsReducedBelow w n → ((d : List Literal) → Contains w.clauses (n, d) → takes_part d ≡ false) → Processed w w (n + 1)
processed_idle w n going unspent kept before none = record {
  reduces = reduces_self w going unspent kept;
  below = λ p q e f ep fq ne lt te tf. dite (ℕ_discrete p n)
      (λ (same : p ≡ n). absurd (true≢false (sym te ∙ none e (subst (λ (j : ℕ). Contains w.clauses (j, e)) same ep))))
      (λ (other : p ≢ n). before p q e f ep fq ne (below p n lt other) te tf);
}
  where
    below : (p n : ℕ) → p < n + 1 → p ≢ n → p < n
    below p n lt ne = omega arith

-- Turn by turn

pub processed_none : (w : WorkState) → w.ended ≡ false → w.output.spent ≡ false → IsWork w → Processed w w 0
processed_none w going unspent kept = record {
  reduces = reduces_self w going unspent kept;
  below = λ p q e f ep fq ne lt te tf. absurd (omega arith);
}

pub processed_more : (old now new : WorkState) (n : ℕ) → Processed old now n → Processed now new (n + 1) → Processed old new (n + 1)
processed_more old now new n a b = record { reduces = reduces_along old now new a.reduces b.reduces; below = b.below }

pub stopped_processing : (old now new : WorkState) (n : ℕ) (stop : LineStop) → Processed old now n → HasCause now new stop × KeepsLog now new → HasCause old new stop × KeepsLog old new
stopped_processing old now new n stop p h = (cause_after old now new stop p.reduces.quiet h.0, logs_along old now new p.reduces.log h.1)

-- every clause had its turn
pub ends_done : (old new : WorkState) (n : ℕ) → new.output.last < n → Processed old new n → Subsumed old new
ends_done old new n above p = record {
  reduced = λ m q c d i j ne part other. p.below m q c d i j ne (let low = All_In (λ (x : ℕ × List Literal). x.0 ≤ new.output.last) new.clauses (m, c) p.reduces.work.given (Contains_In new.clauses (m, c) i) in omega arith) part other;
  passed = p.reduces.passed;
  covered = p.reduces.covered;
  parts = p.reduces.parts;
  vars = p.reduces.vars;
  units = p.reduces.units;
  stack = p.reduces.stack;
  lifted = lifted_reduced old new p.reduces;
  going = p.reduces.going;
  unspent = p.reduces.unspent;
  quiet = p.reduces.quiet;
}
