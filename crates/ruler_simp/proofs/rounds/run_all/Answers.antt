use Rattle.std.proofs.Common.{◌≡◌, ◌∙◌, ◌<◌, ◌+◌, ℕ, zero, suc, true, arith, List, [], ◌∷◌, length, get_or, drop, ap, sym, subst, add-one, Ok}
use Rattle.std.proofs.Math.Seq.{drop-cons}
use Rattle.std.specs.List.{list_any}
use Rattle.std.proofs.lemmas.Bool.{or_left, or_right}
use Rattle.std.proofs.lemmas.List.{drop_all}
use Rattle.sat_words.specs.Formats.{has_hints}
use Rattle.ruler_simp.specs.declared.passes.Simplifier.{Simplifier}
use Rattle.ruler_simp.specs.declared.passes.Simplifier.TheVariants.{Units}
use Rattle.ruler_simp.specs.Passes.{Ends, adds_variables}
use Rattle.ruler_simp.proofs.Turning.{Row, row_next, row_stop, row_end}
use Rattle.ruler_simp.proofs.rounds.run_all.Goals as goal

front : (passes : List Simplifier) (i : ℕ) → i < length passes → drop i passes ≡ get_or passes i Units ∷ drop (i + 1) passes
front passes i lt = drop-cons passes i Units lt ∙ ap (λ j. get_or passes i Units ∷ drop j passes) (sym (add-one i))

-- one of the simplifiers adds variables
some_adds : (passes : List Simplifier) (i : ℕ) → i < length passes → adds_variables (get_or passes i Units) ≡ true → list_any adds_variables passes ≡ true
some_adds [] i lt h = absurd (omega arith)
some_adds (p ∷ passes) zero lt h = or_left _ _ h
some_adds (p ∷ passes) (suc i) lt h = or_right _ _ (some_adds passes i (omega arith) h)

pub run-requires-clause-plain : goal.run-requires-clause-plain
run-requires-clause-plain g c h = ap has_hints c.loop-pass.invariant.format ∙ c.requires.plain (some_adds c.args.passes.now c.loop-pass.pass-index c.loop-pass-test.true h)

pub loop-pass-preserved : goal.loop-pass-preserved
loop-pass-preserved g c =
    let passes = c.args.passes.now in let i = c.loop-pass.pass-index in let p : Simplifier = get_or passes i Units in
    let start = c.args.work.now in let now = c.loop-pass.work in let new = c.run.new.work in
    row_next passes p (drop (i + 1) passes) start now new (subst (λ rest. Row passes rest start now) (front passes i c.loop-pass-test.true) c.loop-pass.invariant)
    (subst (λ r. Ends p now new r) (c.in-Ok-Done.is ∙ ap Ok c.in-Ok-Done.field-0-is) c.run.ensures.ends) c.run.ensures.log c.run.ensures.vars c.run.ensures.work

pub returns-in-Ok-Refuted-clause-ran : goal.returns-in-Ok-Refuted-clause-ran
returns-in-Ok-Refuted-clause-ran g c =
    let passes = c.args.passes.now in let i = c.loop-pass.pass-index in let p : Simplifier = get_or passes i Units in
    let start = c.args.work.now in let now = c.loop-pass.work in let new = c.run.new.work in
    row_stop passes p (drop (i + 1) passes) start now new _ (subst (λ rest. Row passes rest start now) (front passes i c.loop-pass-test.true) c.loop-pass.invariant)
    (subst (λ r. Ends p now new r) (c.in-Ok-Refuted.is ∙ ap Ok c.in-Ok-Refuted.field-0-is) c.run.ensures.ends) c.run.ensures.log c.run.ensures.vars c.run.ensures.work (λ e. let none : ⊥ = cc in none)

pub returns-in-Err-clause-ran : goal.returns-in-Err-clause-ran
returns-in-Err-clause-ran g c =
    let passes = c.args.passes.now in let i = c.loop-pass.pass-index in let p : Simplifier = get_or passes i Units in
    let start = c.args.work.now in let now = c.loop-pass.work in let new = c.run.new.work in
    row_stop passes p (drop (i + 1) passes) start now new _ (subst (λ rest. Row passes rest start now) (front passes i c.loop-pass-test.true) c.loop-pass.invariant)
    (subst (λ r. Ends p now new r) c.in-Err.is c.run.ensures.ends) c.run.ensures.log c.run.ensures.vars c.run.ensures.work (λ e. let none : ⊥ = cc in none)

pub returns-clause-ran : goal.returns-clause-ran
returns-clause-ran g c =
    let passes = c.args.passes.now in let start = c.args.work.now in let now = c.loop-pass.work in
    row_end passes start now (subst (λ (rest : List Simplifier). Row passes rest start now) (drop_all c.loop-pass.pass-index passes c.loop-pass-test.false) c.loop-pass.invariant)
