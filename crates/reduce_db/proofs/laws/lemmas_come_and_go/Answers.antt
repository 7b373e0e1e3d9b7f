use Rattle.reduce_db.proofs.Changes.{no_lemmas, lemma_joins, lemma_leaves, lemmas_apart, lemmas_stay}
use Rattle.reduce_db.proofs.laws.lemmas_come_and_go.Goals as goal

pub returns-clause-none : goal.returns-clause-none
returns-clause-none c = no_lemmas

pub returns-clause-joins : goal.returns-clause-joins
returns-clause-joins c = lemma_joins

pub returns-clause-leaves : goal.returns-clause-leaves
returns-clause-leaves c = lemma_leaves

pub returns-clause-apart : goal.returns-clause-apart
returns-clause-apart c = lemmas_apart

pub returns-clause-stay : goal.returns-clause-stay
returns-clause-stay c = lemmas_stay
