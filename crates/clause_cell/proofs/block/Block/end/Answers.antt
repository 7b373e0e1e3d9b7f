use Rattle.std.proofs.Common.{◌≡◌, ◌-◌, ◌<◌, true, List, length, ap, sym, subst, ◌∙◌, arith}
use Rattle.clause_cell.specs.declared.holes.Hole.{Hole}
use Rattle.clause_cell.specs.Free.{is_apart}
use Rattle.clause_cell.specs.Blocks.{end_of}
use Rattle.clause_cell.proofs.Ranges.{ends_at}
use Rattle.clause_cell.proofs.OneBlock.{end_at-last}
use Rattle.clause_cell.proofs.block.Block.end.Goals as goal

pub overflow_add-result : goal.overflow_add-result
overflow_add-result c =
    let holes = c.as_slice-holes.ensures.value in
    let apart : is_apart 0 c.as_slice-holes.result.now ≡ true = ap (is_apart 0) holes ∙ c.self.invariant.apart in
    let some = subst (λ (hs : List Hole). 0 < length hs) (sym (holes ∙ c.self.view_is)) c.requires in
    let k = (ends_at 0 c.as_slice-holes.result.now (length c.as_slice-holes.result.now - 1) apart (omega arith)).1 in
    omega arith

pub returns : goal.returns
returns c =
    let holes = c.as_slice-holes.ensures.value in
    let apart : is_apart 0 c.as_slice-holes.result.now ≡ true = ap (is_apart 0) holes ∙ c.self.invariant.apart in
    let some = subst (λ (hs : List Hole). 0 < length hs) (sym (holes ∙ c.self.view_is)) c.requires in
    end_at-last 0 c.as_slice-holes.result.now (length c.as_slice-holes.result.now - 1) apart (omega arith) ∙ ap end_of (holes ∙ c.self.view_is)
