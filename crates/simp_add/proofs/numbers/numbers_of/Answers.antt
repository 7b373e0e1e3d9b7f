use Rattle.simp_add.proofs.numbers.numbers_of.Goals as goal

pub returns-in-Ok-clause-every : goal.returns-in-Ok-clause-every
returns-in-Ok-clause-every g c n d h i = c.in-Ok.ensures.every n (c.occurrences.ensures.every n d h i)
