use Rattle.std.proofs.Common.{◌≡◌, ◌∙◌, ◌⊎◌, true, sym, ap, subst, List, get_or, ℕ, Contains}
use Rattle.std.specs.List.{All}
use Rattle.std.specs.Prelude.{Result, Ok, Err}
use Rattle.sat_words.specs.Literal.{Literal, IsOn}
use Rattle.sat_words.specs.Clause.{has}
use Rattle.rup_model.proofs.Lists.{has_In, In_get_or}
use Rattle.drat_text.specs.declared.stop.LineStop.{LineStop}
use Rattle.simp_base.specs.WorkState.{WorkState}
use Rattle.simp_base.proofs.Known.{on_alive}
use Rattle.simp_base.specs.Parts.{takes_part}
use Rattle.simp_subsume.specs.Related.{IsUnrelated}
use Rattle.simp_subsume.specs.Compared.{WasLoaded, IsLoaded, WasComparedWithAll, WasProcessed, Comparing}
use Rattle.simp_subsume.proofs.Ending.{comparing_start, processed_compared, processed_idle}
use Rattle.simp_subsume.proofs.passes.process.Goals as goal

finished : (old new : WorkState) (n : ℕ) (c : List Literal) → takes_part c ≡ true → (result : Result (Unit {0}) LineStop) → WasComparedWithAll old new n c result → WasProcessed old new n result
finished old new n c part (Ok done) h = processed_compared old new n c part h
finished old new n c part (Err stop) h = h

pub returns-then-not-branch-clause-processed : goal.returns-then-not-branch-clause-processed
returns-then-not-branch-clause-processed g c =
    processed_idle c.args.work.now c.args.number c.requires.going c.requires.unspent c.requires.work c.requires.before (subst (WasLoaded c.args.work.now c.args.number c.load.new.clause.items) c.if-not-branch.true c.in_ok-load.ensures.loaded)

pub rarest-lit-requires-clause-on : goal.rarest-lit-requires-clause-on
rarest-lit-requires-clause-on g c =
    let w = c.args.work.now in let xs = c.load.new.clause.items in
    let t : IsLoaded w c.args.number xs = subst (WasLoaded w c.args.number xs) c.if-not-branch.false c.in_ok-load.ensures.loaded in
    subst (λ (ys : List Literal). All (IsOn w.vars) ys) (sym c.as_slice.ensures.value) (λ k d lt. on_alive w c.requires.work c.args.number xs t.alive (get_or xs k d) (In_get_or xs k d lt))

pub list_others-requires-clause-on : goal.list_others-requires-clause-on
list_others-requires-clause-on g c =
    let w = c.args.work.now in let xs = c.load.new.clause.items in
    let t : IsLoaded w c.args.number xs = subst (WasLoaded w c.args.number xs) c.if-not-branch.false c.in_ok-load.ensures.loaded in
    on_alive w c.requires.work c.args.number xs t.alive c.rarest-lit.result (has_In xs c.rarest-lit.result (ap (λ (ys : List Literal). has ys c.rarest-lit.result) (sym c.as_slice.ensures.value) ∙ c.rarest-lit.ensures))

pub list_others-requires-clause-holds : goal.list_others-requires-clause-holds
list_others-requires-clause-holds g c = ap (λ (ys : List Literal). has ys c.rarest-lit.result) (c.as_slice-2.ensures.value ∙ sym c.as_slice.ensures.value) ∙ c.rarest-lit.ensures

pub compare_with_all-requires-clause-begun : goal.compare_with_all-requires-clause-begun
compare_with_all-requires-clause-begun g c =
    let w = c.args.work.now in let xs = c.load.new.clause.items in
    let t : IsLoaded w c.args.number xs = subst (WasLoaded w c.args.number xs) c.if-not-branch.false c.in_ok-load.ensures.loaded in
    subst (λ (ys : List Literal). Comparing w w c.args.number ys c.as_slice-4.result.now) (sym c.as_slice-3.ensures.value)
    (comparing_start w c.args.number xs c.as_slice-4.result.now c.requires.going c.requires.unspent c.requires.work c.requires.before t
    (λ m d i. subst (λ (ns : List ℕ). IsUnrelated xs d ⊎ Contains ns m) (sym c.as_slice-4.ensures.value)
    (subst (λ (ys : List Literal). IsUnrelated ys d ⊎ Contains c.list_others.new.others.items m) c.as_slice-2.ensures.value (c.in_ok-list_others.ensures.every m d i))))

pub returns-clause-processed : goal.returns-clause-processed
returns-clause-processed g c =
    let w = c.args.work.now in let xs = c.load.new.clause.items in
    let t : IsLoaded w c.args.number xs = subst (WasLoaded w c.args.number xs) c.if-not-branch.false c.in_ok-load.ensures.loaded in
    finished w c.compare_with_all.new.work c.args.number c.as_slice-3.result.now (ap takes_part c.as_slice-3.ensures.value ∙ t.part) c.compare_with_all.result c.compare_with_all.ensures.compared
