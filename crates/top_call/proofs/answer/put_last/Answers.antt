use Rattle.std.proofs.lemmas.Result.{err_from_is_err_and}
use Rattle.drat_text.proofs.Progress.{progress_none, progress_cut_last}
use Rattle.top_call.proofs.answer.put_last.Goals as goal

pub returns-in_err-write_to-clause-part : goal.returns-in_err-write_to-clause-part
returns-in_err-write_to-clause-part g c =
    let p = err_from_is_err_and c.from_residual.result c.from_residual.ensures.1 in
    let start = g.O.Sink.written c.args.out.now in
    rw (p.1, p.2)
    (progress_cut_last start start (g.O.Sink.written c.write_to.new.sink) c.args.text c.args.text 0 c.in_err-write_to.field-0.0.taken (progress_none start c.args.text) c.in_err-write_to.ensures.part)
