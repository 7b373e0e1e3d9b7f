use Rattle.std.proofs.Common.{◌≡◌, ℕ, ◌+◌, get_or, sym, ap, subst, refl, arith, rules}
use Rattle.std.specs.Prelude.{◌-◌}
use Rattle.std.proofs.Math.ListN.{set}
use Rattle.std.proofs.lemmas.List.{get_or_read}
use Rattle.ring_walk.specs.declared.tally.Count.{Count}
use Rattle.ring_walk.specs.Tally.{AreTables, count_at, nothing}
use Rattle.ring_walk.proofs.Raising.{second_tables, some_broken}
use Rattle.ring_walk.proofs.tally.second_true.Goals as goal

pub overflow_sub-index_mut : goal.overflow_sub-index_mut
overflow_sub-index_mut c =
    let r = c.requires.tables in
    let count : c.index-count.result.now ≡ count_at c.args.counts.now.items c.args.clause = get_or_read c.args.counts.now.items c.args.clause c.index-count.result.now c.requires.low (search rules) nothing in
    let some = some_broken r.0 c.args.counts.now.items r.1 r.2 c.args.broken.now.items c.args.clause r.3 c.requires.low c.requires.one in
    let sum : c.index-count.result.now.sum ≡ (count_at c.args.counts.now.items c.args.clause).sum = ap (λ (x : Count). x.sum) count in
    let there : c.index_mut.result.now ≡ get_or c.args.broken.now.items c.index-count.result.now.sum 0 = get_or_read c.args.broken.now.items c.index-count.result.now.sum c.index_mut.result.now (omega arith) (search rules) 0 in
    let same : get_or c.args.broken.now.items c.index-count.result.now.sum 0 ≡ get_or c.args.broken.now.items (count_at c.args.counts.now.items c.args.clause).sum 0 = ap (λ (x : Count). get_or c.args.broken.now.items x.sum 0) count in
    omega arith

pub returns-clause-tables : goal.returns-clause-tables
returns-clause-tables c = λ vars list places t.
    let cs = c.args.counts.now.items in
    let i = c.args.clause in
    let count : c.index-count.result.now ≡ count_at cs i = get_or_read cs i c.index-count.result.now c.requires.low (search rules) nothing in
    let some = some_broken vars cs list places c.args.broken.now.items i t c.requires.low c.requires.one in
    let sum : c.index-count.result.now.sum ≡ (count_at cs i).sum = ap (λ (x : Count). x.sum) count in
    let there : c.index_mut.result.now ≡ get_or c.args.broken.now.items c.index-count.result.now.sum 0 = get_or_read c.args.broken.now.items c.index-count.result.now.sum c.index_mut.result.now (omega arith) (search rules) 0 in
    subst (λ (b : ℕ). AreTables vars (set cs i (record { trues = 2; sum = c.index-count.result.now.sum + c.args.var })) list places (set c.args.broken.now.items c.index-count.result.now.sum (b - 1))) (sym there)
    (second_tables vars cs list places c.args.broken.now.items i c.index-count.result.now.sum (record { trues = 2; sum = c.index-count.result.now.sum + c.args.var }) t c.requires.low c.requires.one (ap (λ (x : Count). x.sum) (sym count)) refl)
