use Rattle.std.proofs.Common.{◌≡◌, ◌∙◌, true, sym, ap, subst, List}
use Rattle.std.specs.List.{All}
use Rattle.sat_words.specs.Literal.{Literal, IsOn}
use Rattle.sat_words.specs.Clause.{has_opposites, is_empty}
use Rattle.rup_model.specs.Rup.{rup}
use Rattle.simp_base.specs.WorkState.{WorkState, known}
use Rattle.simp_units.specs.Tidied.{IsLeftAt}
use Rattle.simp_units.proofs.Cleaning.{part_follows, part_on, part_proper, left_some, tidied_whole, tidied_nothing, tidied_part}
use Rattle.simp_units.proofs.clean.tidy.Goals as goal

pub add_rup-requires-clause-rup : goal.add_rup-requires-clause-rup
add_rup-requires-clause-rup g c =
    let w = c.args.work.now in let a = c.args.values.now in
    let t = subst (IsLeftAt w a c.args.number) c.in-Part.is c.in_ok-left_at.ensures.what in
    subst (λ (x : List Literal). rup (known w) x ≡ true) (sym (c.as_slice.ensures.value ∙ t.2.is)) (part_follows w a c.requires.set c.args.number t.0 t.1)

pub add_rup-requires-clause-no_opposites : goal.add_rup-requires-clause-no_opposites
add_rup-requires-clause-no_opposites g c =
    let w = c.args.work.now in let a = c.args.values.now in
    let t = subst (IsLeftAt w a c.args.number) c.in-Part.is c.in_ok-left_at.ensures.what in
    ap has_opposites (c.as_slice.ensures.value ∙ t.2.is) ∙ part_proper w a c.requires.set c.args.number t.0 t.1 t.2.no_opposites

pub add_rup-requires-clause-on : goal.add_rup-requires-clause-on
add_rup-requires-clause-on g c =
    let w = c.args.work.now in let a = c.args.values.now in
    let t = subst (IsLeftAt w a c.args.number) c.in-Part.is c.in_ok-left_at.ensures.what in
    subst (λ (x : List Literal). All (IsOn w.vars) x) (sym (c.as_slice.ensures.value ∙ t.2.is)) (part_on w a c.requires.set c.args.number t.0 t.1)

pub delete-requires-in-Part-clause-going : goal.delete-requires-in-Part-clause-going
delete-requires-in-Part-clause-going g c =
    let w = c.args.work.now in let a = c.args.values.now in
    let t = subst (IsLeftAt w a c.args.number) c.in-Part.is c.in_ok-left_at.ensures.what in
    ap (λ (s : WorkState). s.ended) c.in_ok-add_rup-in-Part.ensures.added.state ∙ ap is_empty (c.as_slice.ensures.value ∙ t.2.is) ∙ left_some a t.0 (c.requires.settled c.args.number t.0 t.1)

pub returns-in-Whole-clause-tidied : goal.returns-in-Whole-clause-tidied
returns-in-Whole-clause-tidied g c start rest t =
    tidied_whole start c.args.work.now c.args.values.now c.args.number rest (subst (IsLeftAt c.args.work.now c.args.values.now c.args.number) c.in-Whole.is c.in_ok-left_at.ensures.what) t

pub returns-in-Nothing-clause-tidied : goal.returns-in-Nothing-clause-tidied
returns-in-Nothing-clause-tidied g c =
    let w = c.args.work.now in let a = c.args.values.now in
    let t = subst (IsLeftAt w a c.args.number) c.in-Nothing.is c.in_ok-left_at.ensures.what in
    tidied_nothing w c.delete.new.self a c.args.number t.0 c.requires.set t.1 t.2.no_opposites t.2.holds c.delete.ensures.work (_, c.delete.ensures.log) c.delete.result c.delete.ensures.deleted

pub returns-in_ok-add_rup-in-Part-clause-tidied : goal.returns-in_ok-add_rup-in-Part-clause-tidied
returns-in_ok-add_rup-in-Part-clause-tidied g c =
    let w = c.args.work.now in let a = c.args.values.now in
    let t = subst (IsLeftAt w a c.args.number) c.in-Part.is c.in_ok-left_at.ensures.what in
    tidied_part w c.add_rup.new.self c.delete-in-Part.new.self a c.args.number t.0 c.as_slice.result.now c.in_ok-add_rup-in-Part.field-0 c.requires.set t.1
    (record { long = t.2.long; no_opposites = t.2.no_opposites; open_yet = t.2.open_yet; is = c.as_slice.ensures.value ∙ t.2.is }) (c.requires.settled c.args.number t.0 t.1)
    c.in_ok-add_rup-in-Part.ensures.added c.in_ok-add_rup-in-Part.ensures.work (_, c.in_ok-add_rup-in-Part.ensures.log.entries) c.delete-in-Part.ensures.work (_, c.delete-in-Part.ensures.log) c.delete-in-Part.result c.delete-in-Part.ensures.deleted
