use Rattle.std.proofs.Common.{sym, refl, ap, ◌∙◌, arith}
use Rattle.sat_words.specs.Literal.{code_of}
use Rattle.watch_prop.specs.declared.stretches.Stretch.{Stretch}
use Rattle.watch_prop.proofs.LayoutLemmas.{empty_rows}
use Rattle.watch_prop.proofs.lists.Lists.new.Goals as goal

nowhere : Stretch
nowhere = record { start = 0; len = 0; room = 0 }

pub returns-clause-empty : goal.returns-clause-empty
returns-clause-empty c l =
    empty_rows _ c.resize.new.self.items
    (λ i s at. (
    let n = c.in_ok-resize.ensures.len in
    let e = c.in_ok-resize.ensures.by_index.1 i s refl (let z = c.new-stretches.ensures.len in omega arith) (let z = at.0 in omega arith) in
    ap (λ (y : Stretch). y.len) (sym at.1 ∙ e))) (code_of l)
