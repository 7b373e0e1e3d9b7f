use Rattle.std.proofs.Common.{rules, ◌≡◌, ◌∙◌, ◌+◌, ◌++◌, ◌∷◌, [], length, length-append, codes, arith, ap, refl, sym}
use Rattle.std.proofs.lemmas.Result.{err_from_is_err_and}
use Rattle.sat_words.specs.Literal.{lit_text}
use Rattle.drat_text.proofs.Progress.{progress_written, progress_done, progress_cut_last}
use Rattle.top_call.specs.Answer.{value_lines, value_words, true_literal}
use Rattle.top_call.proofs.AnswerText.{Printing, words_from, words_from-one, words_from-next, printing_begun, printing_put, printing_written, printing_cut, printing_last, printing_renamed}
use Rattle.top_call.proofs.answer.put_values.Goals as goal
use Rattle.top_call.proofs.answer.put_values.Goals.{then-not-has_room+in_ok-taken, else-not-has_room}

pub loop-var-init : goal.loop-var-init
loop-var-init g c =
    let start = g.O.Sink.written c.args.out.now in
    let head = c.args.head in
    let words = value_words c.args.vars c.args.model.now in
    let put : c.push_bytes.new.self ≡ head ++ codes "v" = c.push_bytes.ensures in
    record {
      room = let short = c.requires.short in omega (arith, ap length put, length-append head (codes "v"));
      line = omega arith;
      printing = printing_renamed start start start (head ++ value_lines c.args.vars c.args.model.now) (head ++ codes "v") c.push_bytes.new.self 1 0 0
          words (words_from 1 c.args.vars c.args.model.now)
          (printing_begun start head (codes "v") 1 words) refl put refl (words_from-one c.args.vars c.args.model.now);
      flushed = refl;
      target = refl;
      quiet = refl;
    }

pub returns-in_err-taken-clause-part : goal.returns-in_err-taken-clause-part
returns-in_err-taken-clause-part g c =
    let p = err_from_is_err_and c.from_residual.result c.from_residual.ensures.1 in
    let l = c.loop-var in
    rw (p.1, p.2)
    (printing_cut (g.O.Sink.written c.args.out.now) (g.O.Sink.written l.out) (g.O.Sink.written c.write_to.new.sink)
    (c.args.head ++ value_lines c.args.vars c.args.model.now) l.piece l.used l.taken c.in_err-taken.field-0.0.taken (words_from l.var c.args.vars c.args.model.now)
    l.invariant.printing c.in_err-taken.ensures.part)

pub loop-var-preserved : goal.loop-var-preserved
loop-var-preserved g c =
    let start = g.O.Sink.written c.args.out.now in
    let l = c.loop-var in
    let now = g.O.Sink.written l.out in
    let j = c.if-not-has_room in
    let after = g.O.Sink.written j.out in
    let text = c.args.head ++ value_lines c.args.vars c.args.model.now in
    let words = words_from l.var c.args.vars c.args.model.now in
    let rest = words_from (l.var + 1) c.args.vars c.args.model.now in
    let word = lit_text (true_literal c.args.model.now l.var) in
    let next = words_from-next l.var c.args.vars c.args.model.now c.loop-var-test.true in
    let put = λ (here : Printing start after text j.piece l.used j.taken words).
    printing_put start after text j.piece c.push_value-used.new.piece l.used c.push_value-used.result j.taken word rest
    (printing_renamed start after after text j.piece j.piece l.used j.taken j.taken words (word ∷ rest) here refl refl refl (sym next))
    (c.push_value-used.ensures.text rest) in
    elim j.branch [
      | then-not-has_room+in_ok-taken w ↦ record {
        room = omega (arith, c.push_value-used.ensures.fits, ap length (w.piece-is ∙ w.in_ok-taken.ensures.empty));
        line = c.push_value-used.ensures.line;
        printing = put
            (printing_renamed start (g.O.Sink.written w.write_to.new.sink) after text [] j.piece l.used w.in_ok-taken.taken j.taken words words
            (printing_written start now (g.O.Sink.written w.write_to.new.sink) text l.piece l.used l.taken w.in_ok-taken.taken words
            l.invariant.printing w.in_ok-taken.ensures.all w.in_ok-taken.ensures.count)
            (ap (g.O.Sink.written) w.out-is) (w.piece-is ∙ w.in_ok-taken.ensures.empty) w.taken-is refl);
        flushed = ap (g.O.Sink.flushed) w.out-is ∙ w.in_ok-taken.ensures.flushed ∙ l.invariant.flushed;
        target = ap (g.O.Sink.target) w.out-is ∙ w.in_ok-taken.ensures.target ∙ l.invariant.target;
        quiet = ap (g.O.Sink.faults) w.out-is ∙ w.in_ok-taken.ensures.cause.quiet ∙ l.invariant.quiet;
      }
      | else-not-has_room w ↦ record {
        room = search rules;
        line = c.push_value-used.ensures.line;
        printing = put
            (printing_renamed start now after text l.piece j.piece l.used l.taken j.taken words words
            l.invariant.printing (ap (g.O.Sink.written) w.out-is) w.piece-is w.taken-is refl);
        flushed = ap (g.O.Sink.flushed) w.out-is ∙ l.invariant.flushed;
        target = ap (g.O.Sink.target) w.out-is ∙ l.invariant.target;
        quiet = ap (g.O.Sink.faults) w.out-is ∙ l.invariant.quiet;
      }
    ]

pub returns-in_err-write_to-clause-part : goal.returns-in_err-write_to-clause-part
returns-in_err-write_to-clause-part g c =
    let p = err_from_is_err_and c.from_residual-in_err-write_to.result c.from_residual-in_err-write_to.ensures.1 in
    let start = g.O.Sink.written c.args.out.now in
    let l = c.loop-var in
    let now = g.O.Sink.written l.out in
    let text = c.args.head ++ value_lines c.args.vars c.args.model.now in
    let last = printing_last start now text l.piece c.push_number.new.piece c.push_bytes-2.new.self l.used c.push_number.result l.taken l.var c.args.vars c.args.model.now
    l.invariant.printing c.loop-var-test.false (c.push_number.ensures.text []) c.push_bytes-2.ensures in
    rw (p.1, p.2)
    (progress_cut_last start now (g.O.Sink.written c.write_to-2.new.sink) text c.push_bytes-2.new.self
    l.taken c.in_err-write_to.field-0.0.taken last c.in_err-write_to.ensures.part)

pub returns-clause-all : goal.returns-clause-all
returns-clause-all g c =
    let start = g.O.Sink.written c.args.out.now in
    let l = c.loop-var in
    let now = g.O.Sink.written l.out in
    let after = g.O.Sink.written c.write_to-2.new.sink in
    let text = c.args.head ++ value_lines c.args.vars c.args.model.now in
    let last = printing_last start now text l.piece c.push_number.new.piece c.push_bytes-2.new.self l.used c.push_number.result l.taken l.var c.args.vars c.args.model.now
    l.invariant.printing c.loop-var-test.false (c.push_number.ensures.text []) c.push_bytes-2.ensures in
    progress_done start after text c.in_ok-write_to.field-0
    (progress_written start now after text c.push_bytes-2.new.self l.taken c.in_ok-write_to.field-0 last c.in_ok-write_to.ensures.all c.in_ok-write_to.ensures.count)
