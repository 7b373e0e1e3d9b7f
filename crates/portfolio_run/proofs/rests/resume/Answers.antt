use Rattle.std.proofs.Common.{ℕ, List, [], append-nil, map, filter, refl, sym, subst, ap, ◌∙◌, ◌++◌, inl, inr}
use Rattle.std.proofs.lemmas.List.{map-append}
use Rattle.sat_words.specs.Formats.{has_hints}
use Rattle.sat_words.specs.Literal.{Literal}
use Rattle.drat_text.specs.declared.stop.LineStop.TheVariants.{Memory}
use Rattle.log_book.specs.Books.{told_of}
use Rattle.simp_base.specs.WorkState.{resumed, unit_cells}
use Rattle.simp_base.specs.Resumed.{Resumes}
use Rattle.ruler_simp.specs.Again.{RuledAgain}
use Rattle.portfolio_run.specs.Rulings.{deletions}
use Rattle.portfolio_run.specs.Resumed.{is_dropped, dropped_of}
use Rattle.portfolio_run.specs.Ruled.{schedule_of}
use Rattle.portfolio_run.proofs.Deleting.{took_spent, took_format, took_faults, lines_after, resumes_after, front_cause, front_lines, front_sound}
use Rattle.portfolio_run.proofs.rests.resume.Goals as goal

pub again-requires-clause-unspent : goal.again-requires-clause-unspent
again-requires-clause-unspent g c =
    let told = told_of g.S.Sink.written g.S.Sink.flushed g.S.Sink.target g.S.Sink.faults in
    took_spent (filter is_dropped c.args.rests.items) (told c.args.book) (told c.drop_rests.new.output) c.in-Ok.ensures.took ∙ c.requires.unspent

pub again-requires-clause-plain : goal.again-requires-clause-plain
again-requires-clause-plain g c added =
    let told = told_of g.S.Sink.written g.S.Sink.flushed g.S.Sink.target g.S.Sink.faults in
    ap has_hints (took_format (filter is_dropped c.args.rests.items) (told c.args.book) (told c.drop_rests.new.output) c.in-Ok.ensures.took) ∙ c.requires.plain added

pub again-requires-clause-resumes : goal.again-requires-clause-resumes
again-requires-clause-resumes g c =
    let told = told_of g.S.Sink.written g.S.Sink.flushed g.S.Sink.target g.S.Sink.faults in
    let F = c.args.formula.now.clauses in
    let us = c.args.units.items in
    let rs = c.args.rests.items in
    let J = c.requires.left.0 in (
      J ++ deletions (dropped_of rs),
      subst (λ (cs : List (ℕ × List Literal)). Resumes F c.args.vars cs us c.args.stack (told c.drop_rests.new.output) (J ++ deletions (dropped_of rs))) (sym (c.in-Ok-with_units.ensures ∙ (λ i. c.in-Ok.ensures.kept i ++ unit_cells (c.as_slice.ensures.value i))))
          (resumes_after F c.args.vars us c.args.stack (told c.args.book) J rs c.requires.left.1 c.requires.unspent (told c.drop_rests.new.output) c.in-Ok.ensures.took),
    )

pub returns-in-Ok-with_units : goal.returns-in-Ok-with_units
returns-in-Ok-with_units g c =
    let told = told_of g.S.Sink.written g.S.Sink.flushed g.S.Sink.target g.S.Sink.faults in
    let F = c.args.formula.now.clauses in
    let us = c.args.units.items in
    let rs = c.args.rests.items in
    let took = c.in-Ok.ensures.took in
    inr (record {
      middle = told c.drop_rests.new.output;
      unspent = took_spent (filter is_dropped rs) (told c.args.book) (told c.drop_rests.new.output) took ∙ c.requires.unspent;
      quiet = took_faults (filter is_dropped rs) (told c.args.book) (told c.drop_rests.new.output) took;
      lines = λ J left. lines_after F c.args.vars us c.args.stack (told c.args.book) J rs left c.requires.unspent (told c.drop_rests.new.output) took;
      resumes = λ J left. resumes_after F c.args.vars us c.args.stack (told c.args.book) J rs left c.requires.unspent (told c.drop_rests.new.output) took;
      ruled = subst (λ (cs : List (ℕ × List Literal)). RuledAgain F (schedule_of c.args.plan.now) (resumed c.args.vars cs us c.args.stack (told c.drop_rests.new.output)) (told c.again.result.1) c.again.result.0) (c.in-Ok-with_units.ensures ∙ (λ i. c.in-Ok.ensures.kept i ++ unit_cells (c.as_slice.ensures.value i))) c.again.ensures;
    })

pub returns-in-Err-with_units : goal.returns-in-Err-with_units
returns-in-Err-with_units g c =
    let told = told_of g.S.Sink.written g.S.Sink.flushed g.S.Sink.target g.S.Sink.faults in
    let F = c.args.formula.now.clauses in
    let us = c.args.units.items in
    let rs = c.args.rests.items in
    let took = c.in-Ok.ensures.took in
    inl (record {
      stop = Memory;
      is = refl;
      cause = took_faults (filter is_dropped rs) (told c.args.book) (told c.drop_rests.new.output) took;
      front = dropped_of rs;
      rest = [];
      front_of = sym (append-nil (dropped_of rs));
      lines = λ J left. lines_after F c.args.vars us c.args.stack (told c.args.book) J rs left c.requires.unspent (told c.drop_rests.new.output) took;
      sound = λ J left. (resumes_after F c.args.vars us c.args.stack (told c.args.book) J rs left c.requires.unspent (told c.drop_rests.new.output) took).sound;
    })

pub returns-in-Err : goal.returns-in-Err
returns-in-Err g c =
    let told = told_of g.S.Sink.written g.S.Sink.flushed g.S.Sink.target g.S.Sink.faults in
    let F = c.args.formula.now.clauses in
    let us = c.args.units.items in
    let rs = c.args.rests.items in
    let t = c.in-Err.ensures.stopped in
    inl (record {
      stop = c.in-Err.stop;
      is = refl;
      cause = front_cause rs (told c.args.book) (told c.drop_rests.new.output) c.in-Err.stop t;
      front = map (λ r. r.number) t.front;
      rest = map (λ r. r.number) t.rest;
      front_of = ap (map (λ r. r.number)) t.front_of ∙ map-append (λ r. r.number) t.front t.rest;
      lines = λ J left. front_lines F c.args.vars us c.args.stack (told c.args.book) J rs left c.requires.unspent (told c.drop_rests.new.output) c.in-Err.stop t;
      sound = λ J left. front_sound F c.args.vars us c.args.stack (told c.args.book) J rs left c.requires.unspent (told c.drop_rests.new.output) c.in-Err.stop t;
    })
