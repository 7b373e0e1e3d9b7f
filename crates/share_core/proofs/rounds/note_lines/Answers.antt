use Rattle.std.proofs.Common.{◌∙◌, ◌++◌, ◌∷◌, [], List, map, length, sym, ap, arith, length-append}
use Rattle.std.proofs.lemmas.List.{take_all}
use Rattle.share_core.specs.declared.round_line.RoundLine.{RoundLine}
use Rattle.rup_model.specs.declared.journal.Entry.{Entry}
use Rattle.share_core.specs.NextRound.{line_of}
use Rattle.share_core.proofs.Rounding.{line_next, entry_next, entries_end}
use Rattle.share_core.proofs.rounds.note_lines.Goals as goal

pub entry_of-requires : goal.entry_of-requires
entry_of-requires c = let n = c.loop-line.invariant.long in let e = ap length c.as_slice.ensures in let r = c.requires in let b = c.loop-line-test.true in omega arith

pub loop-line-preserved : goal.loop-line-preserved
loop-line-preserved c = record {
  long = let n = c.loop-line.invariant.long in let e = ap length c.in_ok-push.ensures in let m = length-append c.loop-line.journal (c.in_ok-entry.entry ∷ []) in omega arith;
  journal = λ kept E h.
      c.in_ok-push.ensures
      ∙ ap (λ (K : List Entry). K ++ c.in_ok-entry.entry ∷ []) (sym c.as_slice.ensures)
      ∙ entry_next c.args.clauses.now kept c.args.journal.now c.as_slice.result.now c.args.lines.now c.loop-line.line-index c.line-item.result c.in_ok-entry.entry E h c.loop-line-test.true c.line-item.is
      (c.as_slice.ensures ∙ c.loop-line.invariant.journal kept E h) c.in_ok-entry.ensures;
  told = line_next c.args.told.now c.loop-line.told c.push-in-loop-line.new.self c.args.lines.now c.loop-line.line-index c.line-item.result c.in_ok-line.field-0 c.loop-line-test.true c.line-item.is c.in_ok-line.ensures c.loop-line.invariant.told c.in_ok-push-2.ensures;
}

pub returns-clause-entries : goal.returns-clause-entries
returns-clause-entries c = λ kept E h. c.loop-line.invariant.journal kept E h
    ∙ ap (λ (K : List Entry). c.args.journal.now ++ K) (entries_end c.args.clauses.now kept c.args.journal.now c.args.lines.now c.loop-line.line-index E h c.loop-line-test.false)

pub returns-clause-told : goal.returns-clause-told
returns-clause-told c = c.loop-line.invariant.told ∙ ap (λ (L : List RoundLine). c.args.told.now ++ map line_of L) (take_all c.loop-line.line-index c.args.lines.now c.loop-line-test.false)
