use Rattle.std.proofs.Common.{[], List, ℕ, take, sym, subst}
use Rattle.std.proofs.lemmas.List.{take_more}
use Rattle.sat_words.specs.Literal.{IsOn}
use Rattle.rup_model.proofs.Lists.{has_In}
use Rattle.simp_base.proofs.Lists.{All_In}
use Rattle.simp_add.specs.declared.alike.Alike.{Alike}
use Rattle.simp_add.specs.Alike.{Listed}
use Rattle.simp_add.proofs.OneMore.{take_whole}
use Rattle.simp_add.proofs.Listing.{listed_none, listed_all}
use Rattle.simp_add.proofs.alike.list_alike.Goals as goal

pub occurrences-number-items-requires : goal.occurrences-number-items-requires
occurrences-number-items-requires g c = record { on = All_In (IsOn c.args.work.now.vars) c.args.rest.now c.rarest-rare.result c.requires.on (has_In c.args.rest.now c.rarest-rare.result c.rarest-rare.ensures) }

pub loop-number-init : goal.loop-number-init
loop-number-init g c = subst (λ (xs : List Alike). Listed c.args.work.now c.args.rest.now [] xs) (sym c.clear.ensures.items) (listed_none c.args.work.now c.args.rest.now)

pub loop-number-preserved : goal.loop-number-preserved
loop-number-preserved g c =
    let i = c.loop-number.number-index in let items = c.occurrences-number-items.result.now in
    subst (λ (ns : List ℕ). Listed c.args.work.now c.args.rest.now ns c.put_alike.new.found.items) (sym (take_more items i 0 c.loop-number-test.true))
    (c.in-Ok.ensures.listed (take i items) c.loop-number.invariant)

pub returns-clause-alike : goal.returns-clause-alike
returns-clause-alike g c =
    let i = c.loop-number.number-index in let items = c.occurrences-number-items.result.now in
    listed_all c.args.work.now c.args.rest.now items c.loop-number.found.items c.rarest-rare.result c.rarest-rare.ensures c.occurrences-number-items.ensures.every
    (subst (λ (ns : List ℕ). Listed c.args.work.now c.args.rest.now ns c.loop-number.found.items) (take_whole items i c.loop-number-test.false) c.loop-number.invariant)
