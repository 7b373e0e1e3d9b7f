use Rattle.std.proofs.Common.{◌∙◌, ap, sym, subst}
use Rattle.clause_cell.specs.Free.{is_apart, len_from}
use Rattle.clause_cell.specs.Blocks.{holes_of, NoneEmpty}
use Rattle.clause_cell.proofs.Steps.{block_is}
use Rattle.clause_cell.proofs.Starting.{len_home}
use Rattle.clause_cell.proofs.holes.Holes.len_from.Goals as goal

pub returns : goal.returns
returns c =
    let same = c.as_slice-blocks.ensures.value in
    c.len_from.ensures ∙ ap (len_from c.args.first) (sym (block_is c.as_slice-blocks.result.now c.home.result c.index-blocks-home.result c.home.ensures.inside c.index-blocks-home.is))
    ∙ sym (len_home c.args.first c.as_slice-blocks.result.now c.home.result (ap (λ bs. is_apart 0 (holes_of bs)) same ∙ c.self.invariant.apart) (subst NoneEmpty (sym same) c.self.invariant.filled) c.home.ensures)
    ∙ ap (λ bs. len_from c.args.first (holes_of bs)) same ∙ ap (len_from c.args.first) c.self.view_is
