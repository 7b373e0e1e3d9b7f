use Rattle.std.proofs.Common.{◌≡◌, ap, arith, rules}
use Rattle.std.proofs.lemmas.List.{get_or_read}
use Rattle.ring_walk.specs.declared.tally.Count.{Count}
use Rattle.ring_walk.specs.Tally.{count_at, nothing}
use Rattle.ring_walk.proofs.tally.lower_in.Goals as goal

pub returns-then-trues-eq1-clause-tables : goal.returns-then-trues-eq1-clause-tables
returns-then-trues-eq1-clause-tables c = λ vars t can. c.none_true.ensures.tables vars t

pub returns-then-trues-eq2-clause-tables : goal.returns-then-trues-eq2-clause-tables
returns-then-trues-eq2-clause-tables c = λ vars t can.
    let count : c.index.result.now ≡ count_at c.args.counts.now.items c.args.clause = get_or_read c.args.counts.now.items c.args.clause c.index.result.now c.requires.low (search rules) nothing in
    let same : c.index.result.now.trues ≡ (count_at c.args.counts.now.items c.args.clause).trues = ap (λ (x : Count). x.trues) count in
    c.one_true.ensures.tables vars c.args.list.now.items c.args.places.now.items t (can.two (omega arith))

pub returns-clause-tables : goal.returns-clause-tables
returns-clause-tables c = λ vars t can. c.some_true.ensures.tables vars c.args.list.now.items c.args.places.now.items c.args.broken.now.items t
