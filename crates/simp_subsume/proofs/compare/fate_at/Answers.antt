use Rattle.std.proofs.Common.{◌≢◌, ◌∙◌, ℕ, List, ap, subst, Contains}
use Rattle.sat_words.specs.Literal.{Literal}
use Rattle.simp_base.specs.WorkState.{WorkState, IsWork}
use Rattle.simp_base.proofs.Removal.{same_number}
use Rattle.simp_subsume.specs.Compared.{IsFate, IsFateAt}
use Rattle.simp_base.specs.Parts.{takes_part}
use Rattle.simp_subsume.specs.Related.{IsUnrelated}
use Rattle.simp_subsume.specs.declared.compare.Fate.{Fate}
use Rattle.simp_subsume.specs.declared.compare.Fate.TheVariants.{Stays, Goes, Shrinks}
use Rattle.simp_subsume.proofs.compare.fate_at.Goals as goal

fate_is : (w : WorkState) (n m : ℕ) (c d : List Literal) → IsWork w → m ≢ n → Contains w.clauses (m, d) → (fate : Fate) → IsFate c d fate → IsFateAt w n c m fate
fate_is w n m c d kept ne alive Stays h = λ e i other part. subst (IsUnrelated c) (same_number w.clauses kept.numbers m d e alive i) (h (ap takes_part (same_number w.clauses kept.numbers m d e alive i) ∙ part))
fate_is w n m c d kept ne alive Goes h = (d, alive, ne, h)
fate_is w n m c d kept ne alive (Shrinks rest) h = (d, alive, ne, h)

pub returns-in_default-clause-fate : goal.returns-in_default-clause-fate
returns-in_default-clause-fate g c d h = absurd (c.in_default.ensures.none d h)

pub returns-in-Ok-clause-fate : goal.returns-in-Ok-clause-fate
returns-in-Ok-clause-fate g c = fate_is c.args.work.now c.args.number c.args.other c.args.clause.now c.in-Some.found.now c.in-Some.ensures.work c.if-other-number.false c.in-Some.ensures.some c.in-Ok.fate c.in-Ok.ensures
