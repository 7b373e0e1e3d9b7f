use Rattle.std.proofs.Common.{◌≡◌, ◌∙◌, true, sym, ap, subst, List}
use Rattle.std.specs.List.{All}
use Rattle.sat_words.specs.Literal.{Literal, IsOn}
use Rattle.sat_words.specs.Clause.{has_opposites, is_empty}
use Rattle.rup_model.specs.Rup.{rup}
use Rattle.simp_base.specs.WorkState.{known}
use Rattle.simp_subsume.specs.Compared.{IsFateAt, Grown}
use Rattle.simp_subsume.proofs.Growing.{rest_follows, rest_proper, rest_on, rest_some}
use Rattle.simp_subsume.proofs.Replacing.{compared_staying, was_compared_going, was_compared_shrinking}
use Rattle.simp_subsume.proofs.compare.compare.Goals as goal

pub add_part-requires-clause-rup : goal.add_part-requires-clause-rup
add_part-requires-clause-rup g c =
    let w = c.args.work.now in let x = c.args.clause.now in
    let t = subst (IsFateAt w c.args.number x c.args.other) c.in-Shrinks.is c.in_ok-fate_at.ensures.fate in
    subst (λ (r : List Literal). rup (known w) r ≡ true) (sym c.as_slice.ensures.value) (rest_follows w c.requires.work c.args.number c.args.other x t.0 c.in-Shrinks.rest.items c.requires.loaded t.1 t.3)

pub add_part-requires-clause-no_opposites : goal.add_part-requires-clause-no_opposites
add_part-requires-clause-no_opposites g c =
    let w = c.args.work.now in let x = c.args.clause.now in
    let t = subst (IsFateAt w c.args.number x c.args.other) c.in-Shrinks.is c.in_ok-fate_at.ensures.fate in
    ap has_opposites c.as_slice.ensures.value ∙ rest_proper w c.requires.work c.args.number c.args.other x t.0 c.in-Shrinks.rest.items c.requires.loaded t.1 t.3

pub add_part-requires-clause-some : goal.add_part-requires-clause-some
add_part-requires-clause-some g c =
    let w = c.args.work.now in let x = c.args.clause.now in
    let t = subst (IsFateAt w c.args.number x c.args.other) c.in-Shrinks.is c.in_ok-fate_at.ensures.fate in
    ap is_empty c.as_slice.ensures.value ∙ rest_some w c.requires.work c.args.number c.args.other x t.0 c.in-Shrinks.rest.items c.requires.loaded t.1 t.3

pub add_part-requires-clause-on : goal.add_part-requires-clause-on
add_part-requires-clause-on g c =
    let w = c.args.work.now in let x = c.args.clause.now in
    let t = subst (IsFateAt w c.args.number x c.args.other) c.in-Shrinks.is c.in_ok-fate_at.ensures.fate in
    subst (λ (r : List Literal). All (IsOn w.vars) r) (sym c.as_slice.ensures.value) (rest_on w c.requires.work c.args.number c.args.other x t.0 c.in-Shrinks.rest.items c.requires.loaded t.1 t.3)

pub returns-in-Stays-clause-compared : goal.returns-in-Stays-clause-compared
returns-in-Stays-clause-compared g c start rest t =
    let w = c.args.work.now in let x = c.args.clause.now in
    compared_staying w c.args.number c.args.other x (subst (IsFateAt w c.args.number x c.args.other) c.in-Stays.is c.in_ok-fate_at.ensures.fate) start rest t

pub returns-in-Goes-clause-compared : goal.returns-in-Goes-clause-compared
returns-in-Goes-clause-compared g c =
    let w = c.args.work.now in let x = c.args.clause.now in
    let t = subst (IsFateAt w c.args.number x c.args.other) c.in-Goes.is c.in_ok-fate_at.ensures.fate in
    was_compared_going w c.delete.new.self c.args.number c.args.other x t.0 c.requires.going c.requires.unspent c.requires.work c.delete.ensures.work (_, c.delete.ensures.log) c.requires.loaded t.1 t.2 t.3 c.delete.result c.delete.ensures.deleted

pub returns-in_ok-add_part-in-Shrinks-clause-compared : goal.returns-in_ok-add_part-in-Shrinks-clause-compared
returns-in_ok-add_part-in-Shrinks-clause-compared g c =
    let w = c.args.work.now in let x = c.args.clause.now in
    let t = subst (IsFateAt w c.args.number x c.args.other) c.in-Shrinks.is c.in_ok-fate_at.ensures.fate in
    was_compared_shrinking w c.add_part.new.work c.delete-in-Shrinks.new.self c.args.number c.args.other x t.0 c.in-Shrinks.rest.items c.requires.work c.in_ok-add_part-in-Shrinks.ensures.work c.delete-in-Shrinks.ensures.work (_, c.delete-in-Shrinks.ensures.log)
    c.requires.loaded t.1 t.2 t.3 (subst (Grown w c.add_part.new.work) c.as_slice.ensures.value c.in_ok-add_part-in-Shrinks.ensures.grown) c.delete-in-Shrinks.result c.delete-in-Shrinks.ensures.deleted
