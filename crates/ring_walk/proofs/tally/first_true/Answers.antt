use Rattle.std.proofs.Common.{◌≡◌, ℕ, ◌<◌, ◌+◌, ◌^◌, length, get_or, sym, subst, refl, arith, rules}
use Rattle.std.proofs.Math.ListN.{set}
use Rattle.std.proofs.lemmas.Bool.{eq-eqb}
use Rattle.std.proofs.lemmas.List.{get_or_read}
use Rattle.ring_walk.specs.Tally.{AreTables, count_at, is_false}
use Rattle.ring_walk.proofs.Raising.{first_tables, few_broken}
use Rattle.ring_walk.proofs.tally.first_true.Goals as goal

pub overflow_add-index_mut : goal.overflow_add-index_mut
overflow_add-index_mut c =
    let r = c.requires.tables in
    let few = few_broken r.0 c.args.counts.now.items c.args.list.now.items c.args.places.now.items c.args.broken.now.items c.args.var r.1 r.2 in
    let there : c.index_mut.result.now ≡ get_or c.args.broken.now.items c.args.var 0 = get_or_read c.args.broken.now.items c.args.var c.index_mut.result.now few.1 (search rules) 0 in
    let small : c.index_mut.result.now + 1 < 2 ^ 32 = omega arith in
    search rules

pub returns-clause-tables : goal.returns-clause-tables
returns-clause-tables c = λ vars t on.
    let cs = c.args.counts.now.items in
    let i = c.args.clause in
    let w = t.wide in
    let there : c.index_mut.result.now ≡ get_or c.args.broken.now.items c.args.var 0 = get_or_read c.args.broken.now.items c.args.var c.index_mut.result.now (omega arith) (search rules) 0 in
    let none = eq-eqb (count_at cs i).trues 0 c.requires.none in
    subst (λ (b : ℕ). AreTables vars (set cs i (record { trues = 1; sum = c.args.var })) c.unlist.new.list.items c.unlist.new.places.items (set c.args.broken.now.items c.args.var (b + 1))) (sym there)
    (first_tables vars cs c.args.list.now.items c.args.places.now.items c.args.broken.now.items c.unlist.new.list.items c.unlist.new.places.items i c.args.var (record { trues = 1; sum = c.args.var }) t c.requires.low on c.requires.none refl refl
    (c.unlist.ensures.listed (λ j. is_false (count_at cs j)) (length cs) t.listed c.requires.low none) c.unlist.ensures.fewer)
