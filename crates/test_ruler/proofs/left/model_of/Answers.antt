use Rattle.std.proofs.Common.{◌≡◌, ℕ, List, sym, subst, arith}
use Rattle.std.specs.List.{All}
use Rattle.sat_words.specs.Literal.{Literal, IsOn}
use Rattle.simp_base.proofs.Held.{of_lits}
use Rattle.test_ruler.proofs.left.model_of.Goals as goal

pub set-requires-clause-in_range : goal.set-requires-clause-in_range
set-requires-clause-in_range c =
    let items = c.args.left.now.units.items in
    let u = c.unit-item.result in
    let is : c.deref-unit-items.result.now ≡ items = c.deref-unit-items.ensures.value in
    let on : All (λ (v : Literal × ℕ). IsOn c.args.vars v.0) c.deref-unit-items.result.now =
    subst (λ (vs : List (Literal × ℕ)). All (λ (v : Literal × ℕ). IsOn c.args.vars v.0) vs) (sym is) (of_lits (IsOn c.args.vars) items c.requires.units) in
    let there : IsOn c.args.vars u.0 = subst (λ (v : Literal × ℕ). IsOn c.args.vars v.0) (sym c.unit-item.is) (on c.loop-unit.unit-index u c.loop-unit-test.true) in
    let high = there.high in
    let long = c.loop-unit.invariant.long in
    let value = c.var.ensures.value in
    omega (arith, high, long, value)
