use Rattle.std.proofs.Common.{◌∙◌, [], refl, sym, ap, is_some}
use Rattle.top_call.proofs.Finishes.{no_formula}
use Rattle.top_call.specs.Words.{file_path}
use Rattle.top_call.specs.Planned.{plan_of}
use Rattle.top_call.specs.Run.{text_in}
use Rattle.top_call.proofs.Lawful.{asked_proof, asked_file, has_file, same_there, file_there, text_same, input_cases, is_call, rose_behind, words_stopped, none_read, call_opened, opened_read, call_read, words_status, run_status}
use Rattle.top_call.proofs.top.run.Goals as goal

pub returns-in-Err-clause-outcome : goal.returns-in-Err-clause-outcome
returns-in-Err-clause-outcome g c = record {
  formula = no_formula;
  journal = [];
  outcome = words_stopped c.in-Err.end _ _ c.in-Err.ensures.ends (λ e. c.in-Err.ensures.usage (cc e)) c.new-tally.ensures refl refl refl refl refl;
}

pub returns-in-Err-open-clause-outcome : goal.returns-in-Err-open-clause-outcome
returns-in-Err-open-clause-outcome g c = record {
  formula = no_formula;
  journal = [];
  outcome = (c.in-Err-open.ensures.cause.failed, asked_file _ _ c.in-Ok.ensures.asks c.in-Err-open.ensures.asked, record { barren = record { no_proof = refl; nothing = refl; counts = c.new-tally.ensures; input = refl; out = refl }; no_file = refl });
}

pub returns-in-Err-create-clause-outcome : goal.returns-in-Err-create-clause-outcome
returns-in-Err-create-clause-outcome g c = record {
  formula = no_formula;
  journal = [];
  outcome = (
    rose_behind _ _ _ c.in-Ok-open.ensures.cause.quiet c.in-Err-create.ensures.cause.failed,
    asked_proof _ _ c.in-Ok.ensures.asks c.in-Err-create.ensures.asked,
    record { opened = has_file _ _ _ _ _ c.in-Ok-open.file c.in-Ok.ensures.asks c.in-Ok-open.ensures.opened; there = file_there _ _ _ c.in-Ok.ensures.asks c.in-Ok-open.ensures.there },
    record { no_proof = refl; nothing = refl; counts = c.new-tally.ensures; input = refl; out = refl },
  );
}

pub returns-in-Ok-create-clause-outcome : goal.returns-in-Ok-create-clause-outcome
returns-in-Ok-create-clause-outcome g c =
    let asks = c.in-Ok.ensures.asks in
    let contents = g.F.Files.contents c.args.files.now in
    let opened = c.in-Ok-open.ensures.opened in
    let text = text_same g.F.Reader.Source.left g.F.Reader.Source.faults contents (g.I.Source.left c.args.input.now) _ c.in-Ok-open.file opened ∙ ap (text_in contents (g.I.Source.left c.args.input.now)) (sym (ap file_path asks)) in
    let plan = c.plan_in.ensures ∙ sym (ap plan_of asks) in
    is_call c.decide.result.end c.decide.result.tally _ _ _ c.decide.ensures.outcome plan text (ap is_some asks)
    (record {
      opened = same_there g.F.Reader.Source.faults c.decide.result.file ∙ c.decide.ensures.file ∙ sym (same_there g.F.Reader.Source.faults c.in-Ok-open.file) ∙ has_file _ _ _ _ _ c.in-Ok-open.file asks opened;
      there = file_there _ _ _ asks c.in-Ok-open.ensures.there;
    })
    (c.in-Ok-create.ensures.cause.quiet ∙ c.in-Ok-open.ensures.cause.quiet)
    (input_cases g.F.Reader.Source.faults c.decide.result.file c.in-Ok-open.file c.decide.ensures.file (λ some. ap g.I.Source.faults (c.decide.ensures.unread some)))

pub returns-in-Err-clause-file_rest : goal.returns-in-Err-clause-file_rest
returns-in-Err-clause-file_rest g c = none_read g.F.Reader.Source.left g.F.Reader.Source.faults (g.F.Files.contents c.args.files.now) _

pub returns-in-Err-clause-file_unread : goal.returns-in-Err-clause-file_unread
returns-in-Err-clause-file_unread g c = λ e. absurd (words_status c.in-Err.end c.in-Err.ensures.ends e)

pub returns-in-Err-open-clause-file_rest : goal.returns-in-Err-open-clause-file_rest
returns-in-Err-open-clause-file_rest g c = none_read g.F.Reader.Source.left g.F.Reader.Source.faults (g.F.Files.contents c.args.files.now) _

pub returns-in-Err-create-clause-file_rest : goal.returns-in-Err-create-clause-file_rest
returns-in-Err-create-clause-file_rest g c =
    opened_read g.F.Reader.Source.left g.F.Reader.Source.faults (g.F.Files.contents c.args.files.now) _ c.in-Ok-open.file
    (call_opened g.F.Reader.Source.left g.F.Reader.Source.faults (g.F.Files.contents c.args.files.now) _ _ c.in-Ok-open.file c.in-Ok.ensures.asks c.in-Ok-open.ensures.opened)

pub returns-in-Err-create-clause-file_unread : goal.returns-in-Err-create-clause-file_unread
returns-in-Err-create-clause-file_unread g c = λ e.
    call_opened g.F.Reader.Source.left g.F.Reader.Source.faults (g.F.Files.contents c.args.files.now) _ _ c.in-Ok-open.file c.in-Ok.ensures.asks c.in-Ok-open.ensures.opened

pub returns-in-Ok-create-clause-file_rest : goal.returns-in-Ok-create-clause-file_rest
returns-in-Ok-create-clause-file_rest g c =
    call_read g.F.Reader.Source.left g.F.Reader.Source.faults (g.F.Files.contents c.args.files.now) (g.I.Source.left c.args.input.now) _ _ c.in-Ok-open.file c.decide.result.file
    c.in-Ok.ensures.asks c.in-Ok-open.ensures.opened c.decide.ensures.file c.decide.ensures.file_rest

pub returns-in-Ok-create-clause-file_unread : goal.returns-in-Ok-create-clause-file_unread
returns-in-Ok-create-clause-file_unread g c = λ e. absurd (run_status _ c.decide.ensures.ends e)
