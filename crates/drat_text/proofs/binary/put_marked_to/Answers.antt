use Rattle.std.proofs.Common.{rules, ◌≡◌, ◌∙◌, ◌+◌, ◌++◌, ◌∷◌, [], ℕ, List, take, drop, length, length-append, arith, ap, refl, subst, sym}
use Rattle.std.proofs.lemmas.List.{take_all}
use Rattle.std.proofs.lemmas.Result.{err_from_is_err_and}
use Rattle.sat_words.specs.Literal.{Literal}
use Rattle.drat_text.specs.Binary.{lit_bytes, lits_bytes}
use Rattle.drat_text.specs.Cut.{WasCut}
use Rattle.drat_text.proofs.LineText.{words_more, words_at}
use Rattle.drat_text.proofs.Progress.{Progress, progress_pushed, progress_written, progress_cut, progress_cut_last, progress_renamed}
use Rattle.drat_text.proofs.binary.put_marked_to.Goals as goal
use Rattle.drat_text.proofs.binary.put_marked_to.Goals.{then-not-has_room+in_ok-taken, else-not-has_room}

pub returns-in_err-taken-clause-part : goal.returns-in_err-taken-clause-part
returns-in_err-taken-clause-part g c =
    let p = err_from_is_err_and c.from_residual.result c.from_residual.ensures.1 in
    let start = g.S.Sink.written c.args.sink.now in
    let l = c.loop-lit in
    let after = g.S.Sink.written c.write_to.new.sink in
    let count = c.in_err-taken.field-0.0.taken in
    let lits = c.args.lits.now in
    let lit = c.lit-item.result in
    let rest : List ℕ = lit_bytes lit ++ (lits_bytes (drop (l.lit-index + 1) lits) ++ 0 ∷ []) in
    let cut = progress_cut start (g.S.Sink.written l.sink) after (c.args.mark ∷ lits_bytes (take l.lit-index lits)) l.piece rest l.taken count l.invariant.progress c.in_err-taken.ensures.part in
    rw (p.1, p.2)
    (subst (λ (bs : List ℕ). WasCut start after (c.args.mark ∷ bs) count) (sym (words_at lit_bytes lits l.lit-index lit c.loop-lit-test.true c.lit-item.is (0 ∷ []))) cut)

pub loop-lit-preserved : goal.loop-lit-preserved
loop-lit-preserved g c =
    let start = g.S.Sink.written c.args.sink.now in
    let l = c.loop-lit in
    let now = g.S.Sink.written l.sink in
    let j = c.if-not-has_room in
    let after = g.S.Sink.written j.sink in
    let lits = c.args.lits.now in
    let lit = c.lit-item.result in
    let line : List ℕ = c.args.mark ∷ lits_bytes (take l.lit-index lits) in
    let word : c.as_slice.result.now ≡ lit_bytes lit = search rules in
    let pushed : c.push_bytes-in-loop-lit.new.self ≡ j.piece ++ lit_bytes lit = c.push_bytes-in-loop-lit.ensures ∙ ap (λ (bs : List ℕ). j.piece ++ bs) word in
    let size : length c.push_bytes-in-loop-lit.new.self ≡ length j.piece + length c.as_slice.result.now = ap length c.push_bytes-in-loop-lit.ensures ∙ length-append j.piece c.as_slice.result.now in
    let short = c.as_slice.ensures.short in
    let more : c.args.mark ∷ lits_bytes (take (l.lit-index + 1) lits) ≡ line ++ lit_bytes lit = ap (λ (bs : List ℕ). c.args.mark ∷ bs) (words_more lit_bytes lits l.lit-index lit c.loop-lit-test.true c.lit-item.is) in
    let put = λ (here : Progress start after line j.piece j.taken).
    progress_renamed start after after (line ++ lit_bytes lit) (c.args.mark ∷ lits_bytes (take (l.lit-index + 1) lits)) (j.piece ++ lit_bytes lit) c.push_bytes-in-loop-lit.new.self j.taken j.taken
    (progress_pushed start after line j.piece (lit_bytes lit) j.taken here) refl more pushed refl in
    elim j.branch [
      | then-not-has_room+in_ok-taken w ↦ record {
        room = omega (arith, size, short, ap length (w.piece-is ∙ w.in_ok-taken.ensures.empty));
        progress = put
            (progress_renamed start (g.S.Sink.written w.write_to.new.sink) after line line [] j.piece w.in_ok-taken.taken j.taken
            (progress_written start now (g.S.Sink.written w.write_to.new.sink) line l.piece l.taken w.in_ok-taken.taken
            l.invariant.progress w.in_ok-taken.ensures.all w.in_ok-taken.ensures.count)
            (ap (g.S.Sink.written) w.sink-is) refl (w.piece-is ∙ w.in_ok-taken.ensures.empty) w.taken-is);
        flushed = ap (g.S.Sink.flushed) w.sink-is ∙ w.in_ok-taken.ensures.flushed ∙ l.invariant.flushed;
        target = ap (g.S.Sink.target) w.sink-is ∙ w.in_ok-taken.ensures.target ∙ l.invariant.target;
        quiet = ap (g.S.Sink.faults) w.sink-is ∙ w.in_ok-taken.ensures.cause.quiet ∙ l.invariant.quiet;
      }
      | else-not-has_room w ↦ record {
        room = search rules;
        progress = put
            (progress_renamed start now after line line l.piece j.piece l.taken j.taken
            l.invariant.progress (ap (g.S.Sink.written) w.sink-is) refl w.piece-is w.taken-is);
        flushed = ap (g.S.Sink.flushed) w.sink-is ∙ l.invariant.flushed;
        target = ap (g.S.Sink.target) w.sink-is ∙ l.invariant.target;
        quiet = ap (g.S.Sink.faults) w.sink-is ∙ l.invariant.quiet;
      }
    ]

pub returns-in_err-write_to-clause-part : goal.returns-in_err-write_to-clause-part
returns-in_err-write_to-clause-part g c =
    let p = err_from_is_err_and c.from_residual-in_err-write_to.result c.from_residual-in_err-write_to.ensures.1 in
    let start = g.S.Sink.written c.args.sink.now in
    let l = c.loop-lit in
    let now = g.S.Sink.written l.sink in
    let lits = c.args.lits.now in
    let line : List ℕ = c.args.mark ∷ lits_bytes (take l.lit-index lits) in
    let all : c.args.mark ∷ (lits_bytes lits ++ 0 ∷ []) ≡ line ++ 0 ∷ [] = ap (λ (ls : List Literal). c.args.mark ∷ (lits_bytes ls ++ 0 ∷ [])) (sym (take_all l.lit-index lits c.loop-lit-test.false)) in
    let last = progress_renamed start now now (line ++ 0 ∷ []) (c.args.mark ∷ (lits_bytes lits ++ 0 ∷ [])) (l.piece ++ 0 ∷ []) c.push_bytes-2.new.self l.taken l.taken
    (progress_pushed start now line l.piece (0 ∷ []) l.taken l.invariant.progress) refl all c.push_bytes-2.ensures refl in
    rw (p.1, p.2)
    (progress_cut_last start now (g.S.Sink.written c.write_to-2.new.sink) (c.args.mark ∷ (lits_bytes lits ++ 0 ∷ [])) c.push_bytes-2.new.self l.taken c.in_err-write_to.field-0.0.taken last c.in_err-write_to.ensures.part)
