use Rattle.std.proofs.Common.{◌≡◌, ◌∙◌, ℕ, ◌+◌, ◌*◌, ◌/◌, ◌<◌, ◌≤◌, List, length, sym, ap, arith}
use Rattle.std.specs.List.{slice_index}
use Rattle.sat_words.specs.Literal.{Literal}
use Rattle.simp_equiv.specs.Tables.{stand_in, HasPlaces}
use Rattle.simp_equiv.specs.Replacements.{positive}
use Rattle.simp_equiv.proofs.Tabled.{stand_in_at}
use Rattle.simp_equiv.proofs.Stacking.{stacked_own}
use Rattle.simp_equiv.proofs.entries.push_replacement.Goals as goal

placed : (t : List ℕ) (vars v : ℕ) → HasPlaces vars t → 1 ≤ v → v ≤ vars → 2 * v < length t
placed t vars v places lo hi = let p : 2 * v + 0 < length t = (places (positive v) (record { low = lo; high = hi })).place in omega arith

at : (t : List ℕ) (v : ℕ) → 2 * v < length t → (stand_in t (positive v)).var ≡ slice_index t (2 * v) / 2
at t v lt = ap (λ (l : Literal). l.var) (stand_in_at t (positive v) (let p : 2 * v < length t = lt in omega arith)) ∙ ap (λ (n : ℕ). slice_index t n / 2) (let e : 2 * v + 0 ≡ 2 * v = omega arith in e)

pub bounds-table-var : goal.bounds-table-var
bounds-table-var g c = placed c.args.table.now c.args.work.now.vars c.args.var c.requires.places c.requires.low c.requires.high

pub returns-then-table-var-clause-stacked : goal.returns-then-table-var-clause-stacked
returns-then-table-var-clause-stacked g c =
    let t = c.args.table.now in let v = c.args.var in
    stacked_own c.args.work.now (stand_in t) v c.requires.work (at t v (placed t c.args.work.now.vars v c.requires.places c.requires.low c.requires.high) ∙ c.if-table-var.true)

pub new-lit-requires-clause-high : goal.new-lit-requires-clause-high
new-lit-requires-clause-high g c =
    let t = c.args.table.now in let v = c.args.var in
    (c.requires.few (positive v) (λ e. c.if-table-var.false (sym (at t v (placed t c.args.work.now.vars v c.requires.places c.requires.low c.requires.high)) ∙ e))).1
