use Rattle.std.proofs.Common.{◌+◌, ℕ, subst, get_or, drop}
use Rattle.std.proofs.lemmas.List.{drop_all}
use Rattle.simp_equiv.specs.Tables.{stand_in}
use Rattle.simp_equiv.specs.Rewritten.{Removing, WasRemoved}
use Rattle.simp_equiv.proofs.Growing.{front, goes_along, stopped_after}
use Rattle.simp_equiv.proofs.deletions.remove_all.Goals as goal

pub loop-number-preserved : goal.loop-number-preserved
loop-number-preserved g c =
    let old = c.args.work.now in let now = c.loop-number.work in let new = c.remove_at.new.work in let sin = stand_in c.args.table.now in
    let numbers = c.args.numbers.now in let i = c.loop-number.number-index in let n : ℕ = get_or numbers i 0 in
    let one = subst (λ r. WasRemoved now new sin n r) c.in-Ok.is c.remove_at.ensures.removed in
    record {
      on = goes_along old now new c.loop-number.invariant.on one.on;
      kept = λ start t. one.kept start (drop (i + 1) numbers) (subst (λ rest. Removing start now sin rest) (front numbers i c.loop-number-test.true) (c.loop-number.invariant.kept start t));
    }

pub returns-in-Err-clause-removed : goal.returns-in-Err-clause-removed
returns-in-Err-clause-removed g c =
    let old = c.args.work.now in let now = c.loop-number.work in let new = c.remove_at.new.work in let sin = stand_in c.args.table.now in
    let numbers = c.args.numbers.now in let i = c.loop-number.number-index in let n : ℕ = get_or numbers i 0 in
    stopped_after old now new c.in-Err.stop c.loop-number.invariant.on (subst (λ r. WasRemoved now new sin n r) c.in-Err.is c.remove_at.ensures.removed)

pub returns-clause-removed : goal.returns-clause-removed
returns-clause-removed g c = λ start t.
    subst (λ rest. Removing start c.loop-number.work (stand_in c.args.table.now) rest) (drop_all c.loop-number.number-index c.args.numbers.now c.loop-number-test.false) (c.loop-number.invariant.kept start t)
