use Rattle.std.proofs.Common.{ℕ, List, sym, subst, Contains, MatchOption}
use Rattle.std.specs.Prelude.{Ok}
use Rattle.simp_base.specs.Calls.{WasWidened}
use Rattle.simp_add.specs.Rule.{IsPartner, HasNoPartner}
use Rattle.simp_add.proofs.Stepping.{stepped_none, stepped_done, replaceable}
use Rattle.simp_add.proofs.passes.take_turn.Goals as goal

pub partner_of-requires-clause-every : goal.partner_of-requires-clause-every
partner_of-requires-clause-every g c n d i h = subst (λ (ns : List ℕ). Contains ns n) (sym c.as_slice.ensures.value) (c.in_ok-numbers.ensures.every n d i h)

pub shared_of-requires-clause-every : goal.shared_of-requires-clause-every
shared_of-requires-clause-every g c n d i h = subst (λ (ns : List ℕ). Contains ns n) (sym c.as_slice-2.ensures.value) (c.in_ok-numbers.ensures.every n d i h)

pub returns-in_default-clause-stepped : goal.returns-in_default-clause-stepped
returns-in_default-clause-stepped g c =
    let w = c.args.work.now in let l = c.args.lit in
    stepped_none w l c.requires.going c.requires.unspent c.requires.work (subst (λ o. MatchOption o (HasNoPartner w l) (λ k. IsPartner w l k)) c.in_default.is c.in_ok-partner.ensures.partner)

pub replace-requires-clause-replaceable : goal.replace-requires-clause-replaceable
replace-requires-clause-replaceable g c =
    let w = c.args.work.now in let l = c.args.lit in let k = c.in-Some.partner in
    replaceable w c.fresh.new.self c.in-Some-2.fresh l k c.in_ok-shared.shared.firsts.items c.in_ok-shared.shared.gone.items c.requires.work c.requires.on
    (subst (λ o. MatchOption o (HasNoPartner w l) (λ j. IsPartner w l j)) c.in-Some.is c.in_ok-partner.ensures.partner) c.in_ok-shared.ensures.shared
    (subst (λ o. WasWidened w c.fresh.new.self (Ok o)) c.in-Some-2.is c.in_ok-fresh.ensures.widened)

pub returns-in-Ok-clause-stepped : goal.returns-in-Ok-clause-stepped
returns-in-Ok-clause-stepped g c =
    let w = c.args.work.now in let l = c.args.lit in let k = c.in-Some.partner in
    stepped_done w c.fresh.new.self c.replace.new.work c.in-Some-2.fresh l k
    (subst (λ o. MatchOption o (HasNoPartner w l) (λ j. IsPartner w l j)) c.in-Some.is c.in_ok-partner.ensures.partner)
    (subst (λ o. WasWidened w c.fresh.new.self (Ok o)) c.in-Some-2.is c.in_ok-fresh.ensures.widened) c.in_ok-fresh.ensures.log c.in-Ok.ensures.exchanged
