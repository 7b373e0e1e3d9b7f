use Rattle.ring_walk.proofs.tally.raise_in.Goals as goal

pub returns-then-trues-eq1-clause-tables : goal.returns-then-trues-eq1-clause-tables
returns-then-trues-eq1-clause-tables c = λ vars t on. c.second_true.ensures.tables vars c.args.list.now.items c.args.places.now.items t

pub returns-clause-tables : goal.returns-clause-tables
returns-clause-tables c = λ vars t on. c.further_true.ensures.tables vars c.args.list.now.items c.args.places.now.items c.args.broken.now.items t
