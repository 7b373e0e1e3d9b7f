use Rattle.std.proofs.Common.{◌++◌, ◌+◌, ◌∷◌, [], take, set, length-set, arith, refl}
use Rattle.std.proofs.lemmas.List.{take_more_set}
use Rattle.drat_text.specs.Binary.{lits_bytes}
use Rattle.drat_text.proofs.Words.{two_words}
use Rattle.drat_text.proofs.groups.write_marked.Goals as goal

pub returns-clause-written : goal.returns-clause-written
returns-clause-written c =
    let mark = c.args.mark in
    let start = c.args.start in
    let front = take start c.args.bytes.now in
    let begun = set c.args.bytes.now start mark in
    let at = c.write_codes-at.result in
    let bytes = c.write_codes-at.new.bytes in
    let codes = lits_bytes c.args.lits.now in
    two_words front (take at bytes) (take (at + 1) (set bytes at 0)) (mark ∷ codes) (0 ∷ []) (mark ∷ (codes ++ 0 ∷ []))
    (two_words front (take (start + 1) begun) (take at bytes) (mark ∷ []) codes (mark ∷ codes) (take_more_set c.args.bytes.now start mark (omega arith)) c.write_codes-at.ensures.written refl)
    (take_more_set bytes at 0 (omega (arith, length-set c.args.bytes.now start mark))) refl
