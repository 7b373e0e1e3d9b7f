use Rattle.std.proofs.lemmas.List.Elements.{All-append}
use Rattle.core_rounds.specs.InRounds.{IsOfRounds}
use Rattle.core_rounds.proofs.Learned.{rulers_more}
use Rattle.core_rounds.proofs.Journals.{rulers_begin_none, rulers_fresh, rulers_new, rulers_spaced, rulers_due, rulers_of_rounds, count_alone}
use Rattle.core_rounds.proofs.ruler_laws.the_ruler_keeps_rounds.Goals as goal

pub returns-clause-each : goal.returns-clause-each
returns-clause-each c = λ rings J rest rulers h. All-append (IsOfRounds rings) J rest h (rulers_of_rounds rings rest rulers)

pub returns-clause-count : goal.returns-clause-count
returns-clause-count c = λ J rest rulers. count_alone J rest (rulers_begin_none rest rulers)

pub returns-clause-fresh : goal.returns-clause-fresh
returns-clause-fresh c = λ F J rest rulers h. rulers_fresh F J rest rulers h

pub returns-clause-new : goal.returns-clause-new
returns-clause-new c = λ F J rest rulers h. rulers_new F J rest rulers h

pub returns-clause-spaced : goal.returns-clause-spaced
returns-clause-spaced c = λ J rest rulers h. rulers_spaced J rest rulers h

pub returns-clause-due : goal.returns-clause-due
returns-clause-due c = λ rings every most J rest rulers h. rulers_due rings every most J rest rulers h

pub returns-clause-learned : goal.returns-clause-learned
returns-clause-learned c = λ rings J rest rulers. rulers_more rings J rest rulers
