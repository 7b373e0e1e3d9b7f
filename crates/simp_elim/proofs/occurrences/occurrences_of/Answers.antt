use Rattle.std.proofs.Common.{ℕ, List, Bool, get_or, sym, subst, take}
use Rattle.simp_elim.specs.Occurring.{IsCollected, Collected}
use Rattle.simp_elim.proofs.Counting.{collected_all}
use Rattle.simp_elim.proofs.Within.{take_next, take_whole}
use Rattle.simp_elim.proofs.occurrences.occurrences_of.Goals as goal

pub returns-then-not-branch-clause-found : goal.returns-then-not-branch-clause-found
returns-then-not-branch-clause-found g c =
    let w = c.args.work.now in let i = c.loop-number.number-index in let items = c.occurrences-number-items.result.now in let n : ℕ = get_or items i 0 in
    subst (λ (b : Bool). IsCollected w c.args.lit n c.loop-number.found.items c.collect.new.found.items b) c.if-not-branch.true c.in_ok-collect.ensures.collected (take i items) c.loop-number.invariant

pub loop-number-preserved : goal.loop-number-preserved
loop-number-preserved g c =
    let w = c.args.work.now in let i = c.loop-number.number-index in let items = c.occurrences-number-items.result.now in let n : ℕ = get_or items i 0 in
    subst (λ (ns : List ℕ). Collected w c.args.lit c.collect.new.found.items ns) (sym (take_next items i 0 c.loop-number-test.true))
    (subst (λ (b : Bool). IsCollected w c.args.lit n c.loop-number.found.items c.collect.new.found.items b) c.if-not-branch.false c.in_ok-collect.ensures.collected (take i items) c.loop-number.invariant)

pub returns-clause-found : goal.returns-clause-found
returns-clause-found g c =
    let w = c.args.work.now in let i = c.loop-number.number-index in let items = c.occurrences-number-items.result.now in
    collected_all w c.args.lit c.loop-number.found.items items c.occurrences-number-items.ensures.every
    (subst (λ (ns : List ℕ). Collected w c.args.lit c.loop-number.found.items ns) (take_whole items i c.loop-number-test.false) c.loop-number.invariant)
