use Rattle.std.proofs.Common.{◌∙◌, ◌++◌, ◌&&◌, not, List, sym, ap}
use Rattle.sat_words.specs.Literal.{Literal}
use Rattle.sat_words.specs.Clause.{has, is_empty}
use Rattle.simp_add.specs.Common.{others, mentions}
use Rattle.simp_add.proofs.Finding.{loaded_none, loaded_not, loaded_by}
use Rattle.simp_add.proofs.numbers.load.Goals as goal

pub returns-in_default-clause-loaded : goal.returns-in_default-clause-loaded
returns-in_default-clause-loaded g c = loaded_none c.args.work.now c.args.lit c.args.number c.args.rest.now.items c.in_default.ensures.none

pub returns-then-not-holds-clause-loaded : goal.returns-then-not-holds-clause-loaded
returns-then-not-holds-clause-loaded g c =
    loaded_not c.args.work.now c.clause.ensures.work c.args.lit c.args.number c.in-Some.clause.now c.args.rest.now.items c.in-Some.ensures.some
    (ap (λ (x : List Literal). has x c.args.lit) (sym c.lits.ensures.value) ∙ sym c.holds.ensures ∙ c.if-not-holds.true)

pub returns-in-Ok-clause-loaded : goal.returns-in-Ok-clause-loaded
returns-in-Ok-clause-loaded g c =
    let l = c.args.lit in
    loaded_by c.args.work.now c.clause.ensures.work l c.args.number c.in-Some.clause.now c.put_others.new.rest.items c.in-Some.ensures.some
    (ap (λ (x : List Literal). has x l) (sym c.lits.ensures.value) ∙ sym c.holds.ensures ∙ c.if-not-holds.false)
    c.lits.ensures.ordered
    (c.in-Ok.ensures ∙ ap (λ (xs : List Literal). xs ++ others l c.lits-2.result.now) c.clear.ensures.items ∙ ap (others l) c.lits-2.ensures.value)
    c.may_be_common.result
    (c.may_be_common.ensures ∙ ap (λ (xs : List Literal). not (is_empty xs) && not (mentions l xs)) c.as_slice.ensures.value)
