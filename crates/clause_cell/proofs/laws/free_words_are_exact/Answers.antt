use Rattle.clause_cell.proofs.Ranges.{taken_free, taken_busy, given_free}
use Rattle.clause_cell.proofs.Exact.{fit_free, clear_free}
use Rattle.clause_cell.proofs.laws.free_words_are_exact.Goals as goal

pub returns-clause-free : goal.returns-clause-free
returns-clause-free c hs need a w apart some fit within = fit_free need hs a w some apart fit within

pub returns-clause-taken : goal.returns-clause-taken
returns-clause-taken c hs need a w apart some fit = taken_free 0 need hs a w some apart fit

pub returns-clause-busy : goal.returns-clause-busy
returns-clause-busy c hs need a w apart some fit within = taken_busy 0 need hs a w some apart fit within

pub returns-clause-clear : goal.returns-clause-clear
returns-clause-clear c hs a n w clear within = clear_free a n w hs clear within

pub returns-clause-given : goal.returns-clause-given
returns-clause-given c hs a n w apart some clear = given_free 0 a n hs w some apart clear
