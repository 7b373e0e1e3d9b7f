use Rattle.std.proofs.Common.{◌≡◌, ◌∙◌, List, [], ◌∷◌, refl, sym, ap, subst, inl}
use Rattle.std.specs.List.{All}
use Rattle.sat_words.specs.Literal.{Literal, IsOn}
use Rattle.sat_words.specs.Clause.{has, clause_of}
use Rattle.sat_words.proofs.Insertion.{clause_of_in_order}
use Rattle.rup_model.proofs.Lists.{In_Contains}
use Rattle.simp_base.proofs.Known.{on_alive}
use Rattle.simp_base.proofs.Lists.{In_All}
use Rattle.simp_elim.specs.Resolution.{fix_of}
use Rattle.simp_elim.specs.Occurring.{clause_at}
use Rattle.simp_base.specs.Stacked.{WasStacked}
use Rattle.simp_elim.proofs.Elimination.{occurs_parts}
use Rattle.simp_elim.proofs.Counting.{found_at, at_is}
use Rattle.simp_elim.proofs.Stacking.{was_pushed}
use Rattle.simp_elim.proofs.entries.push_entry.Goals as goal

pub unreachable-requires : goal.unreachable-requires
unreachable-requires g c =
    let n = c.args.number in let s = c.requires.alive n (In_Contains (n ∷ []) n (inl refl)) in
    c.in_default.ensures.none s.0 s.1

pub push_fix-requires-clause-holds : goal.push_fix-requires-clause-holds
push_fix-requires-clause-holds g c =
    let w = c.args.work.now in let n = c.args.number in let x = c.in-Some.clause.now in
    let t = found_at w c.args.lit c.requires.work (n ∷ []) c.requires.alive n (In_Contains (n ∷ []) n (inl refl)) x c.in-Some.ensures.some in
    c.in-Ok.ensures.members c.args.lit ∙ ap (λ (xs : List Literal). has xs c.args.lit) c.lits.ensures.value ∙ (occurs_parts c.args.lit x t.0).0

pub push_fix-requires-clause-on : goal.push_fix-requires-clause-on
push_fix-requires-clause-on g c =
    let w = c.args.work.now in let n = c.args.number in let x = c.in-Some.clause.now in
    let is : c.in-Ok.copy ≡ x = c.in-Ok.ensures.value ∙ ap clause_of c.lits.ensures.value ∙ clause_of_in_order x c.lits.ensures.ordered in
    subst (λ (xs : List Literal). All (IsOn w.vars) xs) (sym is) (In_All (IsOn w.vars) x (λ k i. on_alive w c.requires.work n x c.in-Some.ensures.some k i))

pub returns-clause-stacked : goal.returns-clause-stacked
returns-clause-stacked g c =
    let w = c.args.work.now in let n = c.args.number in let x = c.in-Some.clause.now in
    let is : c.in-Ok.copy ≡ clause_at w.clauses n = c.in-Ok.ensures.value ∙ ap clause_of c.lits.ensures.value ∙ clause_of_in_order x c.lits.ensures.ordered ∙ sym (at_is w.clauses c.requires.work.numbers n x c.in-Some.ensures.some) in
    subst (λ (xs : List Literal). WasStacked w c.push_fix.new.self (fix_of c.args.lit xs ∷ []) c.push_fix.result) is
    (was_pushed w c.push_fix.new.self c.args.lit c.in-Ok.copy c.push_fix.ensures.work ([], c.push_fix.ensures.log) c.push_fix.result c.push_fix.ensures.ok c.push_fix.ensures.err c.push_fix.ensures.memory)
