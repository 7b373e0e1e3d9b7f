use Rattle.sat_words.specs.Literal.{code_of}
use Rattle.watch_prop.proofs.LayoutLemmas.{empty_rows}
use Rattle.watch_prop.proofs.lists.Lists.close_up.Goals as goal

pub returns-clause-empty : goal.returns-clause-empty
returns-clause-empty c l =
    empty_rows _ c.lay_out-end.new.stretches.items (λ i s at. c.lay_out-end.ensures.laid.empty i s at.0 at) (code_of l)
