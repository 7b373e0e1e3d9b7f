use Rattle.std.proofs.Common.{arith}
use Rattle.sat_words.specs.Formats.{has_hints}
use Rattle.test_tables.proofs.Trying.{may_begin, first_from}
use Rattle.test_tables.proofs.making.try_over.Goals as goal

pub make_over-requires-clause-begins : goal.make_over-requires-clause-begins
make_over-requires-clause-begins g c = may_begin c.args.formula.now c.args.start.now c.args.units.now (record { rings = c.args.rings; vars = c.vars-vars.result; words = c.args.words; depth = c.args.depth; conflicts = c.args.conflicts }) c.requires.problem c.vars-vars.ensures
    (omega (arith, c.if-rings-eq0.false)) (omega (arith, c.if-rings-gt16.false)) (omega (arith, c.if-vars.false)) (omega (arith, c.if-words.false)) (omega (arith, c.if-depth-eq0.false)) (omega (arith, c.if-depth-gt16.false)) (omega (arith, c.if-conflicts.false))

pub make_over-requires-clause-book : goal.make_over-requires-clause-book
make_over-requires-clause-book g c = c.requires.book (record { rings = c.args.rings; vars = c.vars-vars.result; words = c.args.words; depth = c.args.depth; conflicts = c.args.conflicts })

pub returns-in-Ok-clause-first : goal.returns-in-Ok-clause-first
returns-in-Ok-clause-first g c = first_from c.in-Ok.made.0 c.in-Ok.made.1 (record { rings = c.args.rings; vars = c.vars-vars.result; words = c.args.words; depth = c.args.depth; conflicts = c.args.conflicts }) c.args.formula.now.clauses (has_hints (g.B.Ledger.origin c.args.book).format) c.args.start.now c.args.units.now (g.B.Ledger.origin c.args.book) c.in-Ok.ensures.made.1 c.in-Ok.ensures.made.2
