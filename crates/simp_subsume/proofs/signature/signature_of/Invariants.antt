use Rattle.std.proofs.Common.{◌≡◌, take}
use Rattle.simp_subsume.specs.Signed.{signature_of}
use Rattle.simp_subsume.proofs.signature.signature_of.Given as goal

abbrev pub invariant-loop-lit : goal.invariant-loop-lit
invariant-loop-lit l = l.word ≡ signature_of (take l.lit-index l.clause)
