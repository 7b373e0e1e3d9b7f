use Rattle.std.proofs.Common.{◌≡◌, ◌∙◌, sym, ap, subst, List, IfOk}
use Rattle.sat_words.specs.Literal.{Literal}
use Rattle.share_core.specs.State.{lits_at}
use Rattle.share_core.proofs.Places.{found_placed, found_missing}
use Rattle.share_core.proofs.cells.lits_of.Goals as goal

pub returns-in-Some : goal.returns-in-Some
returns-in-Some c = subst (λ (ls : List Literal). IfOk c.from_slice.result (λ lits. lits ≡ ls))
    (c.as_slice.ensures ∙ sym (ap lits_at (found_placed c.args.address c.args.cells.now c.in-Some.i c.index-cells-i.result (sym c.place_of.ensures ∙ c.in-Some.is)))) c.from_slice.ensures

pub returns-in-None : goal.returns-in-None
returns-in-None c = subst (λ (ls : List Literal). IfOk c.from_slice-in-None.result (λ lits. lits ≡ ls))
    (sym (ap lits_at (found_missing c.args.address 0 c.args.cells.now (sym c.place_of.ensures ∙ c.in-None.is)).0)) c.from_slice-in-None.ensures
