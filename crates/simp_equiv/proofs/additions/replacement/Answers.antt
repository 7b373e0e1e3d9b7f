use Rattle.std.proofs.Common.{◌≡◌, ◌∙◌, true, List, map, sym, ap, subst}
use Rattle.std.specs.List.{All}
use Rattle.std.proofs.lemmas.Bool.{true≢false}
use Rattle.sat_words.specs.Literal.{Literal, opposite}
use Rattle.sat_words.specs.Clause.{has, has_opposites}
use Rattle.rup_model.proofs.Lists.{In_any, any_In, has_In, In_has}
use Rattle.simp_base.proofs.Removal.{same_number}
use Rattle.simp_equiv.specs.Tables.{stand_in, CanStand}
use Rattle.simp_equiv.specs.Replacements.{is_replaced}
use Rattle.simp_equiv.proofs.Adding.{all_stand}
use Rattle.simp_equiv.proofs.additions.replacement.Goals as goal

-- lists with the same literals have opposites together
opposites_alike : (c d : List Literal) → ((l : Literal) → has c l ≡ has d l) → has_opposites c ≡ true → has_opposites d ≡ true
opposites_alike c d alike h =
    let t = In_any (λ l. has c (opposite l)) c h in
    any_In (λ l. has d (opposite l)) d t.0 (has_In d t.0 (sym (alike t.0) ∙ In_has c t.0 t.1)) (sym (alike (opposite t.0)) ∙ t.2)

pub returns-in_default-clause-is : goal.returns-in_default-clause-is
returns-in_default-clause-is g c d h r = absurd (c.in_default.ensures.none d h)

pub is_replaced-requires : goal.is_replaced-requires
is_replaced-requires g c = all_stand c.args.work.now c.args.table.now c.in-Some.ensures.work c.requires c.args.number c.in-Some.clause.now c.in-Some.ensures.some

pub returns-then-not-is_replaced-clause-is : goal.returns-then-not-is_replaced-clause-is
returns-then-not-is_replaced-clause-is g c d h r =
    let e = same_number c.args.work.now.clauses c.in-Some.ensures.work.numbers c.args.number d c.in-Some.clause.now h c.in-Some.ensures.some in
    absurd (true≢false (sym r ∙ ap (is_replaced (stand_in c.args.table.now)) e ∙ sym c.if-not-is_replaced.ensures.is))

pub replace_all-requires : goal.replace_all-requires
replace_all-requires g c =
    subst (λ (ls : List Literal). All (CanStand c.args.table.now) ls) (sym c.lits.ensures.value)
    (all_stand c.args.work.now c.args.table.now c.in-Some.ensures.work c.requires c.args.number c.in-Some.clause.now c.in-Some.ensures.some)

pub returns-then-is_tautology-clause-is : goal.returns-then-is_tautology-clause-is
returns-then-is_tautology-clause-is g c d h r =
    let e = same_number c.args.work.now.clauses c.in-Some.ensures.work.numbers c.args.number d c.in-Some.clause.now h c.in-Some.ensures.some in
    let lits : c.as_slice.result.now ≡ map (stand_in c.args.table.now) d =
    c.as_slice.ensures.value ∙ c.in_ok-replace_all.ensures.ok ∙ ap (map (stand_in c.args.table.now)) (c.lits.ensures.value ∙ sym e) in
    subst (λ (ls : List Literal). has_opposites ls ≡ true) lits (opposites_alike c.in-Ok.new c.as_slice.result.now c.in-Ok.ensures.members (sym c.if-is_tautology.ensures))
