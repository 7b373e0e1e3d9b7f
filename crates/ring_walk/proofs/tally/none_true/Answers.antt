use Rattle.std.proofs.Common.{◌≡◌, ℕ, length, get_or, sym, ap, subst, refl, arith, rules}
use Rattle.std.specs.Prelude.{◌-◌}
use Rattle.std.proofs.Math.ListN.{set}
use Rattle.std.proofs.lemmas.Bool.{ne_eqb}
use Rattle.std.proofs.lemmas.List.{get_or_read}
use Rattle.ring_walk.specs.Tally.{AreTables, count_at, is_false}
use Rattle.ring_walk.proofs.Raising.{none_tables, some_broken, list_room}
use Rattle.ring_walk.proofs.tally.none_true.Goals as goal

pub overflow_sub-index_mut : goal.overflow_sub-index_mut
overflow_sub-index_mut c =
    let r = c.requires.tables in
    let cs = c.args.counts.now.items in
    let B = c.args.broken.now.items in
    let sum : (count_at cs c.args.clause).sum ≡ c.args.var = c.requires.sum in
    let some = some_broken r.0 cs c.args.list.now.items c.args.places.now.items B c.args.clause r.1 c.requires.low c.requires.one in
    let same : get_or B (count_at cs c.args.clause).sum 0 ≡ get_or B c.args.var 0 = ap (λ (k : ℕ). get_or B k 0) sum in
    let there : c.index_mut.result.now ≡ get_or B c.args.var 0 = get_or_read B c.args.var c.index_mut.result.now (omega arith) (search rules) 0 in
    omega arith

pub returns-clause-tables : goal.returns-clause-tables
returns-clause-tables c = λ vars t.
    let cs = c.args.counts.now.items in
    let B = c.args.broken.now.items in
    let i = c.args.clause in
    let sum : (count_at cs i).sum ≡ c.args.var = c.requires.sum in
    let some = some_broken vars cs c.args.list.now.items c.args.places.now.items B i t c.requires.low c.requires.one in
    let there : c.index_mut.result.now ≡ get_or B c.args.var 0 = get_or_read B c.args.var c.index_mut.result.now (omega arith) (search rules) 0 in
    let out = ne_eqb (count_at cs i).trues 0 (λ e. let o = c.requires.one in omega arith) in
    subst (λ (b : ℕ). AreTables vars (set cs i (record { trues = 0; sum = 0 })) c.enlist.new.list.items c.enlist.new.places.items (set B c.args.var (b - 1))) (sym there)
    (none_tables vars cs c.args.list.now.items c.args.places.now.items B c.enlist.new.list.items c.enlist.new.places.items i c.args.var (record { trues = 0; sum = 0 }) t c.requires.low c.requires.one sum refl refl
    (c.enlist.ensures.listed (λ j. is_false (count_at cs j)) (length cs) t.listed c.requires.low out) c.enlist.ensures.more)

pub enlist-requires-clause-room : goal.enlist-requires-clause-room
enlist-requires-clause-room c =
    let r = c.requires.tables in
    let a = list_room r.0 c.args.counts.now.items c.args.list.now.items c.args.places.now.items c.args.broken.now.items c.args.clause r.1 c.requires.low c.requires.one in
    let b = c.requires.room in
    omega arith
