use Rattle.sat_words.specs.Literal.{code_of}
use Rattle.watch_prop.proofs.LayoutLemmas.{empty_rows}
use Rattle.watch_prop.proofs.lists.Lists.make_ready.Goals as goal

pub returns-then-is_err-clause-empty : goal.returns-then-is_err-clause-empty
returns-then-is_err-clause-empty c l =
    empty_rows _ c.lay_out.new.stretches.items (λ i s at. c.lay_out.ensures.laid.empty i s at.0 at) (code_of l)

pub returns-else-is_err-clause-empty : goal.returns-else-is_err-clause-empty
returns-else-is_err-clause-empty c l =
    empty_rows _ c.lay_out-end.new.stretches.items (λ i s at. c.lay_out-end.ensures.laid.empty i s at.0 at) (code_of l)
