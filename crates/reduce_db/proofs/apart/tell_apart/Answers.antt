use Rattle.std.proofs.Common.{◌∙◌, subst, sym, ap, List, ◌≡◌}
use Rattle.std.specs.List.Sorted.{IsNonDecreasingBy}
use Rattle.sat_words.specs.declared.shared.Cref.{Cref}
use Rattle.reduce_db.specs.Lemmas.{AreToldApart, first_of_each}
use Rattle.reduce_db.proofs.Telling.{apart_of}
use Rattle.reduce_db.proofs.apart.tell_apart.Goals as goal

pub first_of_each-requires : goal.first_of_each-requires
first_of_each-requires c = subst (IsNonDecreasingBy (λ (d : Cref). d.address)) (sym c.as_slice-2.ensures.value) c.in_ok-apart_from.ensures.order

pub returns : goal.returns
returns c =
    let is : c.in_ok-apart.apart.items ≡ first_of_each c.args.after c.in_ok-apart_from.apart_from.items c.in_ok-in_order.in_order.items =
    c.in_ok-apart.ensures ∙ ap (λ (xs : List Cref). first_of_each c.args.after xs c.as_slice.result.now) c.as_slice-2.ensures.value
    ∙ ap (first_of_each c.args.after c.in_ok-apart_from.apart_from.items) c.as_slice.ensures.value in
    subst (AreToldApart c.args.after c.args.others.now c.args.clauses.now) (sym is)
    (apart_of c.args.after c.args.others.now c.args.clauses.now c.in_ok-in_order.in_order.items c.in_ok-apart_from.apart_from.items c.in_ok-in_order.ensures.same c.in_ok-in_order.ensures.order c.in_ok-apart_from.ensures.same)
