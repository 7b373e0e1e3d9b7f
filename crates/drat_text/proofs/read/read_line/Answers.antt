use Rattle.std.proofs.Common.{◌∙◌, sym, ap}
use Rattle.std.specs.Option.{is_some}
use Rattle.std.proofs.lemmas.Bool.{false≢true}
use Rattle.rup_model.specs.Log.{lits_of}
use Rattle.drat_text.proofs.Reading.{behind_d, not_behind_d}
use Rattle.drat_text.proofs.read.read_line.Goals as goal

pub returns-in-None-2-clause-all : goal.returns-in-None-2-clause-all
returns-in-None-2-clause-all c = λ b.
    let e = behind_d b.line c.in-Some.rest.now b.more b.spelled (sym c.in-Some.ensures.found ∙ b.split) in
    sym (ap (λ o. is_some o) c.in-None-2.is) ∙ c.in_ok-lits-in-Some.ensures.all (lits_of b.line) b.more b.spelled e

pub returns-in-None-3-clause-all : goal.returns-in-None-3-clause-all
returns-in-None-3-clause-all c = λ b.
    let e = not_behind_d b.line c.args.bytes.now b.more (λ rest is. false≢true (c.in-None.ensures.all rest is)) b.split in
    sym (ap (λ o. is_some o) c.in-None-3.is) ∙ c.in_ok-lits-in-None.ensures.all (lits_of b.line) b.more b.spelled e
