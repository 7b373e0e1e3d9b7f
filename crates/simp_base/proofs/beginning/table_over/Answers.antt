use Rattle.std.proofs.Common.{◌∙◌, sym, ap, ◌++◌, List, ℕ}
use Rattle.std.specs.Vec.Iter.{into_iter_items}
use Rattle.sat_words.specs.Literal.{Literal}
use Rattle.simp_base.proofs.Given.{next_free, next_codes}
use Rattle.simp_base.proofs.beginning.table_over.Goals as goal

pub insert-requires-clause-free : goal.insert-requires-clause-free
insert-requires-clause-free c =
    next_free c.args.clauses.items c.loop-number.table.clauses (into_iter_items c.next.new.self) (c.in-Some.number, c.in-Some.clause)
    (ap (λ (xs : List (ℕ × List Literal)). c.loop-number.table.clauses ++ xs) (sym c.in-Some.ensures.steps.0) ∙ c.loop-number.invariant.0) c.requires.numbers

pub insert-requires-clause-codes : goal.insert-requires-clause-codes
insert-requires-clause-codes c =
    next_codes c.args.clauses.items c.loop-number.table.clauses (into_iter_items c.next.new.self) (c.in-Some.number, c.in-Some.clause)
    (ap (λ (xs : List (ℕ × List Literal)). c.loop-number.table.clauses ++ xs) (sym c.in-Some.ensures.steps.0) ∙ c.loop-number.invariant.0) c.args.vars c.loop-number.table.codes c.requires.on c.loop-number.invariant.2
