use Rattle.std.proofs.Common.{List, ◌≢◌, ℕ, ◌+◌, ◌*◌, ◌<◌, ◌≤◌, sym, subst, arith, inl, inr}
use Rattle.std.specs.List.{slice_index}
use Rattle.std.proofs.lemmas.Bool.{cases_eq}
use Rattle.sat_words.specs.Literal.{Literal, IsOn, opposite}
use Rattle.simp_base.specs.WorkState.{has_unit, lists}
use Rattle.simp_equiv.specs.Graphs.{Connected}
use Rattle.simp_equiv.specs.Implications.{Implied}
use Rattle.simp_equiv.proofs.Tabled.{clash_at, clash_on, consistent_from}
use Rattle.simp_equiv.proofs.table.clash.Goals as goal
use Rattle.simp_equiv.proofs.table.clash.Goals.{else-loop-var-test, then-loop-var-test+else-table-code+else-var-var-end}

pub new-requires-clause-high : goal.new-requires-clause-high
new-requires-clause-high g c =
    let w = c.args.work.now in let v = c.loop-var.var in
    clash_on (has_unit w) (lists w.clauses) w.vars c.args.table.now c.requires v (subst (λ n. v ≤ n) c.vars-var-end.ensures c.loop-var-test.true) c.if-table-code.true

pub returns-then-table-code : goal.returns-then-table-code
returns-then-table-code g c =
    let w = c.args.work.now in let v = c.loop-var.var in
    let le : v ≤ w.vars = subst (λ n. v ≤ n) c.vars-var-end.ensures c.loop-var-test.true in
    subst (λ (l : Literal). IsOn w.vars l × Connected (Implied w) l (opposite l)) (sym c.new.ensures)
    (record { low = c.loop-var.auto.var; high = le }, clash_at (has_unit w) (lists w.clauses) w.vars c.args.table.now c.requires v le c.if-table-code.true)

upto : (t : List ℕ) (v w : ℕ) → ((k : ℕ) → 1 ≤ k → k < v → slice_index t (2 * k) ≢ slice_index t (2 * k + 1)) → slice_index t (2 * v) ≢ slice_index t (2 * v + 1) → w ≤ v → (k : ℕ) → 1 ≤ k → k ≤ w → slice_index t (2 * k) ≢ slice_index t (2 * k + 1)
upto t v w before here le k lo hi = elim (cases_eq k v) as (λ _. slice_index t (2 * k) ≢ slice_index t (2 * k + 1)) [
  | inl e ↦ subst (λ (j : ℕ). slice_index t (2 * j) ≢ slice_index t (2 * j + 1)) (sym e) here
  | inr ne ↦ before k lo (omega arith)
]

pub returns : goal.returns
returns g c =
    let wk = c.args.work.now in let v = c.loop-var.var in let t = c.args.table.now in
    let end = c.vars-var-end.ensures in
    consistent_from (has_unit wk) (lists wk.clauses) wk.vars t c.requires
    (elim c.loop-var-test.branch [
      | else-loop-var-test w ↦ (λ k lo hi. c.loop-var.invariant k lo (let a = w.loop-var-test in omega arith))
      | then-loop-var-test+else-table-code+else-var-var-end w ↦ upto t v wk.vars c.loop-var.invariant w.if-table-code.false (let a = w.if-var-var-end.false in omega arith)
    ])
