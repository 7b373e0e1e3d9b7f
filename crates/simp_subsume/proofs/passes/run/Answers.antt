use Rattle.std.proofs.Common.{sym, subst, arith}
use Rattle.simp_subsume.specs.Compared.{WasProcessed}
use Rattle.simp_subsume.specs.Signed.{AreSignatures}
use Rattle.simp_subsume.proofs.Signing.{signed_along}
use Rattle.simp_subsume.proofs.Ending.{processed_none, processed_more, stopped_processing, ends_done}
use Rattle.simp_subsume.proofs.passes.run.Goals as goal

pub loop-number-init : goal.loop-number-init
loop-number-init g c = processed_none c.args.work.now c.requires.going c.requires.unspent c.in_ok-signatures.ensures.work

pub returns-then-number-last_number-clause-ends : goal.returns-then-number-last_number-clause-ends
returns-then-number-last_number-clause-ends g c =
    ends_done c.args.work.now c.loop-number.work c.loop-number.number (omega (arith, c.last_number.ensures.last, c.if-number-last_number.true)) c.loop-number.invariant

pub returns-in-Err-clause-log : goal.returns-in-Err-clause-log
returns-in-Err-clause-log g c =
    (stopped_processing c.args.work.now c.loop-number.work c.process.new.work c.loop-number.number c.in-Err.stop c.loop-number.invariant
    (subst (λ r. WasProcessed c.loop-number.work c.process.new.work c.loop-number.number r) c.in-Err.is c.process.ensures.processed)).1

pub loop-number-preserved : goal.loop-number-preserved
loop-number-preserved g c =
    processed_more c.args.work.now c.loop-number.work c.process.new.work c.loop-number.number c.loop-number.invariant
    (subst (λ r. WasProcessed c.loop-number.work c.process.new.work c.loop-number.number r) c.in-Ok.is c.process.ensures.processed)

pub returns-clause-ends : goal.returns-clause-ends
returns-clause-ends g c =
    ends_done c.args.work.now c.loop-number.work c.loop-number.number (omega (arith, c.last_number-last.ensures.last, c.last_number-last.ensures.low, c.loop-number-test.false)) c.loop-number.invariant

pub process-requires-clause-signed : goal.process-requires-clause-signed
process-requires-clause-signed g c =
    subst (AreSignatures c.loop-number.work) (sym c.as_slice.ensures.value)
    (signed_along c.args.work.now c.loop-number.work c.in_ok-signatures.signatures.items c.loop-number.invariant.reduces c.in_ok-signatures.ensures.signed)
