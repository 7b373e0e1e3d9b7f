use Rattle.std.proofs.Common.{◌≡◌, ◌∙◌, ◌<◌, ℕ, Bool, false, List, [], ◌∷◌, ◌++◌, length, get_or, ap, sym, subst, arith}
use Rattle.std.specs.List.{All}
use Rattle.sat_words.specs.Literal.{Literal, code_of}
use Rattle.sat_words.specs.Clause.{has}
use Rattle.simp_base.specs.WorkState.{unit_lits}
use Rattle.simp_base.specs.Tables.{UnitData}
use Rattle.simp_base.proofs.Widening.{for_each_code, listed_code}
use Rattle.simp_base.proofs.unit_table.UnitTable.widen.Goals as goal

pub invariant_of-self : goal.invariant_of-self
invariant_of-self c l lt =
    let i = c.self.inside in
    let many : length i.listed.items ≡ c.args.self.now.codes = omega (arith, ap (λ (t : UnitData). t.codes) c.self.view_is, i.listed.ok) in
    let known : All (λ k. code_of k < length i.listed.items) (unit_lits i.list.items) =
    subst (λ (us : List (Literal × ℕ)). All (λ k. code_of k < length i.listed.items) (unit_lits us)) (sym (ap (λ (t : UnitData). t.items) c.self.view_is)) (λ k d kl. omega (arith, many, c.requires.known k d kl)) in
    subst (λ (bs : List Bool). get_or bs (code_of l) false ≡ has (unit_lits i.list.items) l) (sym (c.push_reserved-2.ensures.items ∙ ap (λ (bs : List Bool). bs ++ false ∷ []) c.push_reserved.ensures.items))
    (for_each_code i.listed.items (has (unit_lits i.list.items)) (λ k kl. c.self.invariant k (omega (arith, kl, i.listed.ok))) (listed_code (length i.listed.items) (unit_lits i.list.items) known) l)
