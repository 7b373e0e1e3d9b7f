use Rattle.std.proofs.Common.{◌≡◌, ◌∙◌, ◌<◌, true, false, List, length, take, get_or, sym, ap, subst, arith}
use Rattle.std.proofs.lemmas.List.{take_all}
use Rattle.std.specs.List.{list_any}
use Rattle.sat_words.specs.Literal.{Literal}
use Rattle.sat_words.specs.Clause.{same_set}
use Rattle.rup_model.specs.Log.{without_copy}
use Rattle.drat_check.proofs.Copies.{without_at, without_none}
use Rattle.drat_check.proofs.lines.take_copy.Goals as goal

pub returns-then-has_same : goal.returns-then-has_same
returns-then-has_same c =
    let lits = c.args.lits.now in
    let items = c.loop-i.alive.items in
    let d = c.index.result.now in
    let here : same_set lits (get_or items c.loop-i.i d) ≡ true
    = ap (same_set lits) (sym c.index.ensures) ∙ ap (same_set lits) (sym c.as_slice.ensures) ∙ sym c.has_same.ensures ∙ c.if-has_same.true in
    let lt : c.loop-i.i < length items = omega (arith, c.len-i-end.ensures, ap (λ (G : List (List Literal)). length G) c.loop-i.invariant.same, c.loop-i-test.true) in
    c.remove.ensures.items
    ∙ sym (without_at lits d items c.loop-i.i lt c.loop-i.invariant.none here)
    ∙ ap (without_copy lits) c.loop-i.invariant.same

pub returns : goal.returns
returns c =
    let lits = c.args.lits.now in
    let items = c.loop-i.alive.items in
    let e : take c.loop-i.i items ≡ items = take_all c.loop-i.i items (omega arith) in
    let none : list_any (same_set lits) items ≡ false = subst (λ (G : List (List Literal)). list_any (same_set lits) G ≡ false) e c.loop-i.invariant.none in
    sym (without_none lits lits items none) ∙ ap (without_copy lits) c.loop-i.invariant.same
