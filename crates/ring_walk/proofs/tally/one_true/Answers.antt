use Rattle.std.proofs.Common.{◌≡◌, ℕ, ◌<◌, ◌+◌, ◌^◌, get_or, sym, ap, subst, refl, arith, rules}
use Rattle.std.specs.Prelude.{◌-◌}
use Rattle.std.proofs.Math.ListN.{set}
use Rattle.std.proofs.lemmas.List.{get_or_read}
use Rattle.ring_walk.specs.declared.tally.Count.{Count}
use Rattle.ring_walk.specs.Tally.{AreTables, count_at, nothing}
use Rattle.ring_walk.proofs.Raising.{one_tables, few_broken}
use Rattle.ring_walk.proofs.tally.one_true.Goals as goal

pub overflow_add-index_mut : goal.overflow_add-index_mut
overflow_add-index_mut c =
    let r = c.requires.tables in
    let cs = c.args.counts.now.items in
    let B = c.args.broken.now.items in
    let count : c.index-count.result.now ≡ count_at cs c.args.clause = get_or_read cs c.args.clause c.index-count.result.now c.requires.low (search rules) nothing in
    let sum : c.index-count.result.now.sum ≡ (count_at cs c.args.clause).sum = ap (λ (x : Count). x.sum) count in
    let most = r.4 in
    let few = few_broken r.0 cs r.1 r.2 B (c.index-count.result.now.sum - c.args.var) r.3 (omega arith) in
    let there : c.index_mut.result.now ≡ get_or B (c.index-count.result.now.sum - c.args.var) 0 = get_or_read B (c.index-count.result.now.sum - c.args.var) c.index_mut.result.now few.1 (search rules) 0 in
    let small : c.index_mut.result.now + 1 < 2 ^ 32 = omega arith in
    search rules

pub returns-clause-tables : goal.returns-clause-tables
returns-clause-tables c = λ vars list places t most.
    let cs = c.args.counts.now.items in
    let B = c.args.broken.now.items in
    let i = c.args.clause in
    let count : c.index-count.result.now ≡ count_at cs i = get_or_read cs i c.index-count.result.now c.requires.low (search rules) nothing in
    let sum : c.index-count.result.now.sum ≡ (count_at cs i).sum = ap (λ (x : Count). x.sum) count in
    let few = few_broken vars cs list places B (c.index-count.result.now.sum - c.args.var) t (omega arith) in
    let there : c.index_mut.result.now ≡ get_or B (c.index-count.result.now.sum - c.args.var) 0 = get_or_read B (c.index-count.result.now.sum - c.args.var) c.index_mut.result.now few.1 (search rules) 0 in
    subst (λ (b : ℕ). AreTables vars (set cs i (record { trues = 1; sum = c.index-count.result.now.sum - c.args.var })) list places (set B (c.index-count.result.now.sum - c.args.var) (b + 1))) (sym there)
    (one_tables vars cs list places B i (c.index-count.result.now.sum - c.args.var) (record { trues = 1; sum = c.index-count.result.now.sum - c.args.var }) t c.requires.low (omega arith) c.requires.two refl refl)
