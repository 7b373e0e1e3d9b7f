use Rattle.std.proofs.Common.{◌≡◌, ◌∙◌, ◌++◌, ◌∷◌, [], ℕ, Bool, true, false, cond, List, Some, None, sym, ap, subst}
use Rattle.std.specs.List.{All}
use Rattle.sat_words.specs.Literal.{Literal, IsOn}
use Rattle.sat_words.specs.Clause.{InOrder}
use Rattle.simp_add.specs.declared.alike.Alike.{Alike}
use Rattle.simp_add.specs.Alike.{AreAlike, IsLoaded, is_later, numbers_with}
use Rattle.simp_add.specs.Counted.{is_paired}
use Rattle.simp_add.specs.Shared.{SharesOne}
use Rattle.simp_add.proofs.Finding.{not_loaded}
use Rattle.simp_add.proofs.Loading.{loaded_on, loaded_ordered, later_nothing, paired_at}
use Rattle.simp_add.proofs.Sharing.{shares_nothing, shares_one}
use Rattle.simp_add.proofs.shared.share_one.Goals as goal

pub returns-then-not-branch-clause-shares : goal.returns-then-not-branch-clause-shares
returns-then-not-branch-clause-shares g c =
    let w = c.args.work.now in let l = c.args.lit in let k = c.args.partner in let n = c.args.number in let rest = c.load.new.rest.items in
    shares_nothing w l k n c.args.shared.now.firsts.items c.args.shared.now.gone.items (not_loaded w l k n rest (subst (λ (b : Bool). IsLoaded w l n rest b) c.if-not-branch.true c.in_ok-load.ensures.loaded))

pub list_alike-requires-clause-on : goal.list_alike-requires-clause-on
list_alike-requires-clause-on g c =
    let w = c.args.work.now in let l = c.args.lit in let n = c.args.number in let rest = c.load.new.rest.items in
    subst (λ (xs : List Literal). All (IsOn w.vars) xs) (sym c.as_slice.ensures.value) (loaded_on w c.requires.work l n rest (subst (λ (b : Bool). IsLoaded w l n rest b) c.if-not-branch.false c.in_ok-load.ensures.loaded))

pub list_alike-requires-clause-ordered : goal.list_alike-requires-clause-ordered
list_alike-requires-clause-ordered g c =
    let w = c.args.work.now in let l = c.args.lit in let n = c.args.number in let rest = c.load.new.rest.items in
    subst InOrder (sym c.as_slice.ensures.value) (loaded_ordered w c.requires.work l n rest (subst (λ (b : Bool). IsLoaded w l n rest b) c.if-not-branch.false c.in_ok-load.ensures.loaded))

pub returns-then-is_later-clause-shares : goal.returns-then-is_later-clause-shares
returns-then-is_later-clause-shares g c =
    let w = c.args.work.now in let l = c.args.lit in let k = c.args.partner in let n = c.args.number in let rest = c.load.new.rest.items in let found = c.list_alike.new.found.items in
    let loaded = subst (λ (b : Bool). IsLoaded w l n rest b) c.if-not-branch.false c.in_ok-load.ensures.loaded in
    let alike = subst (λ (xs : List Literal). AreAlike w xs found) c.as_slice.ensures.value c.in_ok-list_alike.ensures.alike in
    let later : is_later found l n ≡ true = ap (λ (xs : List Alike). is_later xs l n) (sym c.as_slice-2.ensures.value) ∙ sym c.is_later.ensures ∙ c.if-is_later.true in
    shares_nothing w l k n c.args.shared.now.firsts.items c.args.shared.now.gone.items (later_nothing w c.requires.work l n rest loaded found alike later k)

pub returns-then-not-is_paired-clause-shares : goal.returns-then-not-is_paired-clause-shares
returns-then-not-is_paired-clause-shares g c =
    let w = c.args.work.now in let l = c.args.lit in let k = c.args.partner in let n = c.args.number in let rest = c.load.new.rest.items in let found = c.list_alike.new.found.items in
    let loaded = subst (λ (b : Bool). IsLoaded w l n rest b) c.if-not-branch.false c.in_ok-load.ensures.loaded in
    let alike = subst (λ (xs : List Literal). AreAlike w xs found) c.as_slice.ensures.value c.in_ok-list_alike.ensures.alike in
    let first : is_later found l n ≡ false = ap (λ (xs : List Alike). is_later xs l n) (sym c.as_slice-2.ensures.value) ∙ sym c.is_later.ensures ∙ c.if-is_later.false in
    let a = sym c.as_slice-3.ensures.value in let b = sym c.as_slice-4.ensures.value in
    let away : is_paired l rest found k ≡ false = (λ i. is_paired l (a i) (b i) k) ∙ sym c.is_paired.ensures ∙ c.if-not-is_paired.true in
    shares_nothing w l k n c.args.shared.now.firsts.items c.args.shared.now.gone.items (paired_at w c.requires.work l n rest loaded found alike first k c.requires.after ∙ ap (λ (x : Bool). cond x (Some rest) None) away)

pub returns-clause-shares : goal.returns-clause-shares
returns-clause-shares g c =
    let w = c.args.work.now in let l = c.args.lit in let k = c.args.partner in let n = c.args.number in let rest = c.load.new.rest.items in let found = c.list_alike.new.found.items in
    let loaded = subst (λ (b : Bool). IsLoaded w l n rest b) c.if-not-branch.false c.in_ok-load.ensures.loaded in
    let alike = subst (λ (xs : List Literal). AreAlike w xs found) c.as_slice.ensures.value c.in_ok-list_alike.ensures.alike in
    let first : is_later found l n ≡ false = ap (λ (xs : List Alike). is_later xs l n) (sym c.as_slice-2.ensures.value) ∙ sym c.is_later.ensures ∙ c.if-is_later.false in
    let a = sym c.as_slice-3.ensures.value in let b = sym c.as_slice-4.ensures.value in
    let pairs : is_paired l rest found k ≡ true = (λ i. is_paired l (a i) (b i) k) ∙ sym c.is_paired.ensures ∙ c.if-not-is_paired.false in
    let firsts = c.args.shared.now.firsts.items in let gone = c.args.shared.now.gone.items in
    subst (λ (xs : List ℕ). SharesOne w l k n firsts gone xs c.put.new.self.gone.items) (sym c.in_ok-put.ensures.firsts)
    (subst (λ (xs : List ℕ). SharesOne w l k n firsts gone (firsts ++ n ∷ []) xs) (sym (c.in_ok-put.ensures.gone ∙ ap (λ (xs : List Alike). gone ++ numbers_with l k xs) c.as_slice-5.ensures.value))
    (shares_one w l k n rest found firsts gone (paired_at w c.requires.work l n rest loaded found alike first k c.requires.after ∙ ap (λ (x : Bool). cond x (Some rest) None) pairs) alike))
