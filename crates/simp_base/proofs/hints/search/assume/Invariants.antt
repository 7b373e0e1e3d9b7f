use Rattle.std.proofs.Common.{◌≡◌, take}
use Rattle.simp_base.proofs.Assuming.{Assumed}
use Rattle.simp_base.proofs.hints.search.assume.Given as goal

abbrev pub invariant-loop-lit : goal.invariant-loop-lit
invariant-loop-lit l = record {
  assumed : Assumed l.trail.steps (take l.lit-index l.lits);
  codes : l.trail.codes ≡ l.initial.trail.codes;
}
