use Rattle.std.proofs.Common.{List, [], ap, subst, refl}
use Rattle.sat_words.specs.Literal.{Literal}
use Rattle.simp_base.specs.WorkState.{WorkState, resumed}
use Rattle.simp_base.specs.Log.{Stands}
use Rattle.simp_base.proofs.Resuming.{resumed_work, resumed_stands}
use Rattle.ruler_simp.specs.Rounds.{WasSimplified}
use Rattle.ruler_simp.proofs.Telling.{ruled_again, none_made_again}
use Rattle.ruler_simp.proofs.ruling.again.Goals as goal

pub returns-in-Err : goal.returns-in-Err
returns-in-Err g c =
    let F = c.args.formula.now.clauses in let out = g.L.LineOut.told c.args.output in
    let start : WorkState = resumed c.args.vars c.args.clauses.items c.args.units.items c.args.stack out in
    none_made_again F c.args.schedule start c.requires.unspent refl
    (resumed_work F c.args.vars c.args.clauses.items c.args.units.items c.args.stack out c.requires.resumes.0 c.requires.resumes.1)
    (λ J r. subst (λ (us : List Literal). Stands (record { formula = F; journal = J; output = out }) [] (record start { units = us })) r.1
    (resumed_stands F c.args.vars c.args.clauses.items r.0 c.args.stack out c.requires.unspent J r.2))
    (g.L.LineOut.told c.in-Err.refused.value) (ap g.L.LineOut.told c.in-Err.ensures.back)

pub returns-in-Ok : goal.returns-in-Ok
returns-in-Ok g c =
    let F = c.args.formula.now.clauses in let out = g.L.LineOut.told c.args.output in
    let start : WorkState = resumed c.args.vars c.args.clauses.items c.args.units.items c.args.stack out in
    ruled_again F c.args.schedule start c.requires.unspent refl
    (resumed_work F c.args.vars c.args.clauses.items c.args.units.items c.args.stack out c.requires.resumes.0 c.requires.resumes.1)
    (λ J r. subst (λ (us : List Literal). Stands (record { formula = F; journal = J; output = out }) [] (record start { units = us })) r.1
    (resumed_stands F c.args.vars c.args.clauses.items r.0 c.args.stack out c.requires.unspent J r.2))
    c.run-answer.new.work c.run-answer.ensures.work (g.L.LineOut.told c.take.result.1) c.take.ensures.output c.run-answer.result
    (subst (λ (w : WorkState). WasSimplified c.args.schedule w c.run-answer.new.work c.run-answer.result) c.in-Ok.ensures.made c.run-answer.ensures.ran)
    c.take.result.0 c.take.ensures.taken
