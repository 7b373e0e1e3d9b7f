use Rattle.std.proofs.Common.{◌∙◌, ap, sym}
use Rattle.share_rule.specs.declared.view.View.{View}
use Rattle.portfolio_run.proofs.Winning.{ends_stay, no_winner, one_winner}
use Rattle.portfolio_run.proofs.decision.winner.Goals as goal

pub returns-clause-first : goal.returns-clause-first
returns-clause-first g c = let e = c.look-stop.ensures in (e.pass.0, e.pass.1.1 ∙ c.requires.first.1)

pub returns-clause-same : goal.returns-clause-same
returns-clause-same g c =
    let is = c.look-stop.ensures.part.1 in
    (record { layout = ap (λ (u : View). u.layout) is; opening = ap (λ (u : View). u.opening) is; origin = ap (λ (u : View). u.origin) is }, ap (λ (u : View). u.parts) is)

pub returns-clause-ends : goal.returns-clause-ends
returns-clause-ends g c =
    let e = c.look-stop.ensures in
    let w : View = c.look-stop.new.pass.me.0 in
    ends_stay c.args.first.now.me.0 w e.part.0 c.args._ends.now e.part.1 e.part.2 c.requires.ends

pub returns-clause-spent : goal.returns-clause-spent
returns-clause-spent g c =
    let e = c.look-stop.ensures in
    let w : View = c.look-stop.new.pass.me.0 in
    no_winner w e.pass.0.3 c.args._ends.now c.look-stop.result c.ring_of.result c.ring_of.ensures e.seen (ends_stay c.args.first.now.me.0 w e.part.0 c.args._ends.now e.part.1 e.part.2 c.requires.ends)

pub returns-clause-won : goal.returns-clause-won
returns-clause-won g c =
    let e = c.look-stop.ensures in
    let w : View = c.look-stop.new.pass.me.0 in
    one_winner w e.pass.0.3 c.args._ends.now c.look-stop.result c.ring_of.result c.ring_of.ensures e.seen (c.requires.many ∙ ap (λ (u : View). u.opening.rings) (sym e.part.1)) (ends_stay c.args.first.now.me.0 w e.part.0 c.args._ends.now e.part.1 e.part.2 c.requires.ends)
