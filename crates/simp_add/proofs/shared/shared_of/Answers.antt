use Rattle.std.proofs.Common.{[], List, ℕ, take, subst, sym}
use Rattle.std.proofs.lemmas.List.{take_more}
use Rattle.simp_add.specs.Shared.{Sharing}
use Rattle.simp_add.proofs.OneMore.{take_whole}
use Rattle.simp_add.proofs.Choosing.{commons_are}
use Rattle.simp_add.proofs.Sharing.{sharing_none, shared_all}
use Rattle.simp_add.proofs.shared.shared_of.Goals as goal

pub loop-number-init : goal.loop-number-init
loop-number-init g c =
    subst (λ (xs : List ℕ). Sharing c.args.work.now c.args.lit c.args.partner [] xs c.none-shared.result.gone.items) (sym c.none-shared.ensures.firsts)
    (subst (λ (xs : List ℕ). Sharing c.args.work.now c.args.lit c.args.partner [] [] xs) (sym c.none-shared.ensures.gone) (sharing_none c.args.work.now c.args.lit c.args.partner))

pub loop-number-preserved : goal.loop-number-preserved
loop-number-preserved g c =
    let numbers = c.args.numbers.now in let i = c.loop-number.number-index in
    subst (λ (xs : List ℕ). Sharing c.args.work.now c.args.lit c.args.partner xs c.share_one.new.shared.firsts.items c.share_one.new.shared.gone.items)
    (sym (take_more numbers i 0 c.loop-number-test.true))
    (c.in-Ok.ensures.shares (take i numbers) c.loop-number.invariant)

pub returns-clause-shared : goal.returns-clause-shared
returns-clause-shared g c =
    let numbers = c.args.numbers.now in let i = c.loop-number.number-index in
    shared_all c.args.work.now c.args.lit c.args.partner c.clauses-clauses.ensures.work numbers c.loop-number.shared.firsts.items c.loop-number.shared.gone.items
    (commons_are c.args.work.now c.args.lit c.clauses-clauses.ensures.work numbers c.requires.rising c.requires.every c.args.partner) c.requires.every
    (subst (λ (xs : List ℕ). Sharing c.args.work.now c.args.lit c.args.partner xs c.loop-number.shared.firsts.items c.loop-number.shared.gone.items) (take_whole numbers i c.loop-number-test.false) c.loop-number.invariant)
