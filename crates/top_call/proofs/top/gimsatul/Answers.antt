use Rattle.std.proofs.Common.{refl}
use Rattle.top_call.proofs.StatusLemmas.{headline}
use Rattle.top_call.proofs.Promised.{promised}
use Rattle.top_call.proofs.top.gimsatul.Goals as goal

pub returns-clause-headline : goal.returns-clause-headline
returns-clause-headline g c =
    let report = c.report_of.ensures in
    rw (report.file, report.proof, report.tally) (headline c.read_or_bad.ensures _ c.run-ended.result.end _ _ _ c.run-ended.ensures.outcome report.status report.model)

pub returns-clause-promise : goal.returns-clause-promise
returns-clause-promise g c =
    let report = c.report_of.ensures in
    rw report.proof
    (promised g.F.Writer.Sink.faults g.F.Writer.Sink.written g.F.Writer.Sink.flushed c.run-ended.result.proof _ c.report_of.result.status c.report_of.result.model _
    (headline c.read_or_bad.ensures _ c.run-ended.result.end _ _ _ c.run-ended.ensures.outcome report.status report.model) refl)
