use Rattle.dimacs_read.proofs.OnVariables.{pushed_body}
use Rattle.dimacs_read.proofs.body.Body.take_integer.Goals as goal

pub returns-then-value-eq0-2-clause-lawful : goal.returns-then-value-eq0-2-clause-lawful
returns-then-value-eq0-2-clause-lawful c =
    let all = pushed_body c.args.self.now.formula c.push.new.self c.args.self.now.begun.items c.deref.result.now c.in_ok-from_lits.field-0 c.clear.new.self.items c.requires.few_variables c.requires.on_variables c.requires.begun_on_variables
    c.deref.ensures.value c.in_ok-from_lits.ensures.value c.in_ok-push.ensures.ok c.clear.ensures.items in
    record { few_variables = all.0; on_variables = all.1; begun_on_variables = all.2 }
