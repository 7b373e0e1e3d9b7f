use Rattle.std.proofs.Common.{◌≡◌, ◌∙◌, ◌+◌, Bool, true, false, List, sym, ap, subst, arith, Contains}
use Rattle.std.specs.List.{All}
use Rattle.sat_words.specs.Literal.{Literal, IsOn}
use Rattle.sat_words.specs.Clause.{InOrder}
use Rattle.simp_add.specs.declared.alike.Alike.{Alike}
use Rattle.simp_add.specs.Alike.{AreAlike, IsLoaded, is_later}
use Rattle.simp_add.specs.Counted.{Raised}
use Rattle.simp_add.proofs.Finding.{not_loaded}
use Rattle.simp_add.proofs.Loading.{found_within, loaded_on, loaded_ordered, later_nothing, paired_at}
use Rattle.simp_add.proofs.Counting.{counted_nothing, counted_raised}
use Rattle.simp_add.proofs.partner.count_one.Goals as goal

pub returns-then-not-branch-clause-counted : goal.returns-then-not-branch-clause-counted
returns-then-not-branch-clause-counted g c =
    let w = c.args.work.now in let l = c.args.lit in let n = c.args.number in let rest = c.load.new.rest.items in
    counted_nothing w l n c.args.tally.now.counts.items (λ j lt. not_loaded w l j n rest (subst (λ (b : Bool). IsLoaded w l n rest b) c.if-not-branch.true c.in_ok-load.ensures.loaded))

pub list_alike-requires-clause-on : goal.list_alike-requires-clause-on
list_alike-requires-clause-on g c =
    let w = c.args.work.now in let l = c.args.lit in let n = c.args.number in let rest = c.load.new.rest.items in
    subst (λ (xs : List Literal). All (IsOn w.vars) xs) (sym c.as_slice.ensures.value) (loaded_on w c.requires.work l n rest (subst (λ (b : Bool). IsLoaded w l n rest b) c.if-not-branch.false c.in_ok-load.ensures.loaded))

pub list_alike-requires-clause-ordered : goal.list_alike-requires-clause-ordered
list_alike-requires-clause-ordered g c =
    let w = c.args.work.now in let l = c.args.lit in let n = c.args.number in let rest = c.load.new.rest.items in
    subst InOrder (sym c.as_slice.ensures.value) (loaded_ordered w c.requires.work l n rest (subst (λ (b : Bool). IsLoaded w l n rest b) c.if-not-branch.false c.in_ok-load.ensures.loaded))

pub returns-then-is_later-clause-counted : goal.returns-then-is_later-clause-counted
returns-then-is_later-clause-counted g c =
    let w = c.args.work.now in let l = c.args.lit in let n = c.args.number in let rest = c.load.new.rest.items in let found = c.list_alike.new.found.items in
    let loaded = subst (λ (b : Bool). IsLoaded w l n rest b) c.if-not-branch.false c.in_ok-load.ensures.loaded in
    let alike = subst (λ (xs : List Literal). AreAlike w xs found) c.as_slice.ensures.value c.in_ok-list_alike.ensures.alike in
    let later : is_later found l n ≡ true = ap (λ (xs : List Alike). is_later xs l n) (sym c.as_slice-2.ensures.value) ∙ sym c.is_later.ensures ∙ c.if-is_later.true in
    counted_nothing w l n c.args.tally.now.counts.items (λ j lt. later_nothing w c.requires.work l n rest loaded found alike later j)

pub raise_each-requires-clause-within : goal.raise_each-requires-clause-within
raise_each-requires-clause-within g c a h =
    let w = c.args.work.now in let rest = c.load.new.rest.items in let found = c.list_alike.new.found.items in
    let alike = subst (λ (xs : List Literal). AreAlike w xs found) c.as_slice.ensures.value c.in_ok-list_alike.ensures.alike in
    let low = found_within w c.requires.work rest found alike a (subst (λ (xs : List Alike). Contains xs a) c.as_slice-4.ensures.value h) in
    let wide = c.requires.wide in omega arith

pub returns-in-Ok-clause-counted : goal.returns-in-Ok-clause-counted
returns-in-Ok-clause-counted g c =
    let w = c.args.work.now in let l = c.args.lit in let n = c.args.number in let rest = c.load.new.rest.items in let found = c.list_alike.new.found.items in
    let old = c.args.tally.now.counts.items in let new = c.raise_each.new.tally.counts.items in
    let loaded = subst (λ (b : Bool). IsLoaded w l n rest b) c.if-not-branch.false c.in_ok-load.ensures.loaded in
    let alike = subst (λ (xs : List Literal). AreAlike w xs found) c.as_slice.ensures.value c.in_ok-list_alike.ensures.alike in
    let first : is_later found l n ≡ false = ap (λ (xs : List Alike). is_later xs l n) (sym c.as_slice-2.ensures.value) ∙ sym c.is_later.ensures ∙ c.if-is_later.false in
    let r = subst (λ (xs : List Literal). Raised l xs (n + 1) found old new) c.as_slice-3.ensures.value (subst (λ (xs : List Alike). Raised l c.as_slice-3.result.now (n + 1) xs old new) c.as_slice-4.ensures.value c.in-Ok.ensures.raised) in
    counted_raised w l n rest found old new c.in-Ok.ensures.wide c.requires.stamps r (λ j lt. paired_at w c.requires.work l n rest loaded found alike first j lt)
