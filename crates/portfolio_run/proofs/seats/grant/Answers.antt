use Rattle.std.proofs.Common.{◌∙◌, ◌++◌, List, ap}
use Rattle.share_rule.specs.declared.view.RingPart.{RingPart}
use Rattle.share_rule.specs.declared.view.View.{View}
use Rattle.portfolio_run.proofs.Rights.{same_split, same_join, rights_left, rights_both}
use Rattle.portfolio_run.proofs.seats.grant.Goals as goal

pub returns-clause-first : goal.returns-clause-first
returns-clause-first g c =
    let e = c.begin-pass.ensures in
    let j = c.join.ensures in
    (j.pass.0, j.pass.1.1 ∙ e.first.1.1 ∙ c.requires.first.1)

pub returns-clause-same : goal.returns-clause-same
returns-clause-same g c =
    let e = c.begin-pass.ensures in
    let j = c.join.ensures in
    let v : View = c.args.first.now.me.0 in
    let u : View = c.begin-pass.new.first.me.0 in
    same_join v u c.join.new.pass.me.0 c.begin-pass.result.me.0 j.both.0 (same_split v u c.args.ring e.old.0 e.old.1) j.both.1

pub returns-clause-parts : goal.returns-clause-parts
returns-clause-parts g c =
    let e = c.begin-pass.ensures in
    let j = c.join.ensures in
    let v : View = c.args.first.now.me.0 in
    ap (λ (u : View). u.parts) j.both.1
    ∙ ap (λ (ps : List RingPart). ps ++ c.begin-pass.result.me.0.parts) (ap (λ (u : View). u.parts) e.old.1)
    ∙ ap (λ (ps : List RingPart). v.parts ++ ps) e.begun.ring_is

pub returns-clause-rights : goal.returns-clause-rights
returns-clause-rights g c =
    let e = c.begin-pass.ensures in
    let j = c.join.ensures in
    let v : View = c.args.first.now.me.0 in
    let u : View = c.begin-pass.new.first.me.0 in
    λ r lt there. rights_both u c.join.new.pass.me.0 c.begin-pass.result.me.0 j.both.0 r j.both.1 (rights_left v u c.args.ring e.old.0 r e.old.1 c.requires.right.1 lt there)
