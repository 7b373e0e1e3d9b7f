use Rattle.std.proofs.Common.{◌≡◌, ◌∙◌, ◌∷◌, [], List, true, sym, ap, subst}
use Rattle.std.specs.List.{All}
use Rattle.sat_words.specs.Literal.{Literal, IsOn, opposite}
use Rattle.sat_words.specs.Clause.{is_empty}
use Rattle.rup_model.specs.Rup.{rat}
use Rattle.simp_base.specs.WorkState.{lists}
use Rattle.simp_base.specs.Calls.{IsAboveUnheld}
use Rattle.simp_add.specs.Common.{others}
use Rattle.simp_add.specs.Stages.{Grown, set_at}
use Rattle.simp_add.proofs.Growing.{rat_comes, on_comes, set_is, grown_added}
use Rattle.simp_add.proofs.replacement.add_common.Goals as goal

pub unreachable-requires : goal.unreachable-requires
unreachable-requires g c = c.in_default.ensures.none c.requires.comes.clause c.requires.comes.alive

pub add_rat-requires-clause-rat : goal.add_rat-requires-clause-rat
add_rat-requires-clause-rat g c =
    let w = c.args.work.now in let x = c.args.fresh in let l = c.args.lit in let n = c.args.number in
    let a = c.not.ensures in let b = c.lits.ensures.value in
    let e : c.as_slice.result.now ≡ opposite x ∷ set_at w.clauses l n = c.as_slice.ensures.value ∙ c.in-Ok.ensures ∙ (λ i. a i ∷ others l (b i)) ∙ ap (λ (C : List Literal). opposite x ∷ C) (sym (set_is w c.requires.work l n c.in-Some.clause.now c.in-Some.ensures.some)) in
    subst (λ (xs : List Literal). rat (lists w.clauses) xs ≡ true) (sym e) (rat_comes w x l n c.requires.comes)

pub add_rat-requires-clause-above : goal.add_rat-requires-clause-above
add_rat-requires-clause-above g c =
    let w = c.args.work.now in let x = c.args.fresh in let l = c.args.lit in let n = c.args.number in
    let a = c.not.ensures in let b = c.lits.ensures.value in
    let e : c.as_slice.result.now ≡ opposite x ∷ set_at w.clauses l n = c.as_slice.ensures.value ∙ c.in-Ok.ensures ∙ (λ i. a i ∷ others l (b i)) ∙ ap (λ (C : List Literal). opposite x ∷ C) (sym (set_is w c.requires.work l n c.in-Some.clause.now c.in-Some.ensures.some)) in
    subst (λ (xs : List Literal). IsAboveUnheld w xs) (sym e) c.requires.comes.above

pub add_rat-requires-clause-on : goal.add_rat-requires-clause-on
add_rat-requires-clause-on g c =
    let w = c.args.work.now in let x = c.args.fresh in let l = c.args.lit in let n = c.args.number in
    let a = c.not.ensures in let b = c.lits.ensures.value in
    let e : c.as_slice.result.now ≡ opposite x ∷ set_at w.clauses l n = c.as_slice.ensures.value ∙ c.in-Ok.ensures ∙ (λ i. a i ∷ others l (b i)) ∙ ap (λ (C : List Literal). opposite x ∷ C) (sym (set_is w c.requires.work l n c.in-Some.clause.now c.in-Some.ensures.some)) in
    subst (λ (xs : List Literal). All (IsOn w.vars) xs) (sym e) (on_comes w x l n c.requires.work c.requires.comes)

pub returns-in-Ok-add_rat-clause-grown : goal.returns-in-Ok-add_rat-clause-grown
returns-in-Ok-add_rat-clause-grown g c =
    let w = c.args.work.now in let x = c.args.fresh in let l = c.args.lit in let n = c.args.number in
    let a = c.not.ensures in let b = c.lits.ensures.value in
    let e : c.as_slice.result.now ≡ opposite x ∷ set_at w.clauses l n = c.as_slice.ensures.value ∙ c.in-Ok.ensures ∙ (λ i. a i ∷ others l (b i)) ∙ ap (λ (C : List Literal). opposite x ∷ C) (sym (set_is w c.requires.work l n c.in-Some.clause.now c.in-Some.ensures.some)) in
    subst (λ (xs : List Literal). Grown w c.add_rat.new.self (xs ∷ [])) e
    (grown_added w c.add_rat.new.self c.as_slice.result.now c.in-Ok-add_rat.field-0 c.requires.unspent c.requires.plain (ap is_empty e) c.in-Ok-add_rat.ensures.work c.in-Ok-add_rat.ensures.added c.in-Ok-add_rat.ensures.log)
