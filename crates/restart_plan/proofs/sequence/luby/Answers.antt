use Rattle.std.proofs.Common.{◌∙◌, arith}
use Rattle.restart_plan.proofs.LubyLemmas.{is_luby, luby_few}
use Rattle.restart_plan.proofs.sequence.luby.Goals as goal

pub returns-clause-luby : goal.returns-clause-luby
returns-clause-luby c = c.luby_among.ensures ∙ is_luby 64 c.args.i (omega arith)

pub returns-clause-few : goal.returns-clause-few
returns-clause-few c =
    let e = c.luby_among.ensures ∙ is_luby 64 c.args.i (omega arith) in
    let f = luby_few c.args.i c.requires in omega arith
